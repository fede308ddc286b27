use native.Mathlib.Omega.{arith}
use lib.ListN.{length-take, length-drop}
use Rattle.rows.proofs.FillLaws.{fill_part, fill_short}
use Rattle.rows.proofs.fill.Goals as goal

pub returns-then-from-end : goal.returns-then-from-end
returns-then-from-end c = fill_part (omega arith) (omega arith) (simp (length-take, length-drop) (omega arith)) (c.fill.ensures.after (λ y h. h))

pub returns-else-from-end : goal.returns-else-from-end
returns-else-from-end c = fill_short (omega arith)
