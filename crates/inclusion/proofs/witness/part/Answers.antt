-- `inclusion::witness::part` meets its contract: a leaf's number stands for itself, a part's node number is read.
use mathlib.Core.Path.{refl}
use native.Mathlib.Omega.{arith}
use Rattle.inclusion.proofs.witness.part.Goals as goal

pub returns-then-right-eq-LEAF : goal.returns-then-right-eq-LEAF
returns-then-right-eq-LEAF c = ((λ e. refl), λ d. absurd (d c.if-right-eq-LEAF.true))

pub overflow_add-result : goal.overflow_add-result
overflow_add-result c = let h = c.requires c.if-right-eq-LEAF.false in omega arith

pub offset_bounds-work-lefts : goal.offset_bounds-work-lefts
offset_bounds-work-lefts c = let h = c.requires c.if-right-eq-LEAF.false in omega arith

pub bounds-work-lefts : goal.bounds-work-lefts
bounds-work-lefts c = c.requires c.if-right-eq-LEAF.false

pub returns : goal.returns
returns c = ((λ e. absurd (c.if-right-eq-LEAF.false e)), λ d. refl)
