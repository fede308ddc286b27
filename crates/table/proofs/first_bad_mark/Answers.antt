use native.Mathlib.Omega.{arith}
use borrow.Author.Count.{below_more}
use Rattle.table.proofs.first_bad_mark.Goals as goal

pub returns-then-bad_sort : goal.returns-then-bad_sort
returns-then-bad_sort c = record { inside = c.loop-i-test.true; wrong = c.bad_sort.ensures.yes c.if-bad_sort.true; before = c.loop-i.invariant }

pub loop-i-preserved : goal.loop-i-preserved
loop-i-preserved c = below_more _ _ c.loop-i.invariant (c.bad_sort.ensures.no c.if-bad_sort.false)

pub returns : goal.returns
returns c = λ j h. c.loop-i.invariant j (omega arith)
