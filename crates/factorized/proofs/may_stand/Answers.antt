-- `factorized::may_stand` meets its contract.
use mathlib.Core.Logic.{inl, inr, ⊎_elim}
use Rattle.paper.proofs.TellsLaws.{tells_yes, tells_eq}
use Rattle.factorized.proofs.may_stand.Goals as goal

pub returns-then-sort-side : goal.returns-then-sort-side
returns-then-sort-side c = tells_yes (inl c.if-sort-side.true)

pub returns : goal.returns
returns c = tells_eq _ _ inr (λ d. ⊎_elim c.if-sort-side.false d)
