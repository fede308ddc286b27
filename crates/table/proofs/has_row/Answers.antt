use native.Mathlib.Omega.{arith}
use borrow.Author.Count.{below_more}
use Rattle.paper.specs.Limits.{limits}
use Rattle.paper.proofs.TellsLaws.{tells_yes, tells_no}
use Rattle.table.proofs.Rows.{row_below}
use Rattle.table.proofs.has_row.Goals as goal

pub returns-then-is_row : goal.returns-then-is_row
returns-then-is_row c = tells_yes (c.loop-i.i, omega arith, c.is_row.ensures.yes c.if-is_row.true)

pub loop-i-preserved : goal.loop-i-preserved
loop-i-preserved c = below_more _ _ c.loop-i.invariant (c.is_row.ensures.no c.if-is_row.false)

pub returns : goal.returns
returns c = tells_no (λ (j, h, r). let k = row_below {w = limits.width} (omega arith) _ j r.inside in c.loop-i.invariant j (omega arith) r)
