-- `moves::step` meets its contract: there is nothing to look in, or the join is looked up.
use native.Mathlib.Omega.{arith}
use Rattle.moves.specs.Looked.{looked, nowhere}
use Rattle.moves.proofs.step.Goals as goal

pub returns-then-work-to : goal.returns-then-work-to
returns-then-work-to c = nowhere (λ h. omega (arith, h.long))

pub returns-then-to-from : goal.returns-then-to-from
returns-then-to-from c = nowhere (λ h. omega (arith, h.index))

pub returns-then-to-i : goal.returns-then-to-i
returns-then-to-i c = nowhere (λ h. omega (arith, h.left))

pub returns-then-to-j : goal.returns-then-to-j
returns-then-to-j c = nowhere (λ h. omega (arith, h.right))

pub returns : goal.returns
returns c = rw c.unwrap_or.ensures (looked (record { long = omega arith; index = omega arith; left = omega arith; right = omega arith }) c.target-target.ensures)
