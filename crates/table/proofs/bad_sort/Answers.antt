-- `table::bad_sort` meets its contract: each answer by the first of the three tests that tells.
use mathlib.Core.Logic.{inl, inr, ⊎_elim}
use native.Mathlib.Omega.{arith}
use Rattle.paper.proofs.TellsLaws.{tells_yes, tells_lt}
use Rattle.table.proofs.bad_sort.Goals as goal

pub returns-then-sort-eq0 : goal.returns-then-sort-eq0
returns-then-sort-eq0 c = tells_yes (inl c.if-sort-eq0.true)

pub returns-then-sort-gt-MOST_SORT : goal.returns-then-sort-gt-MOST_SORT
returns-then-sort-gt-MOST_SORT c = tells_yes (inr (inl c.if-sort-gt-MOST_SORT.true))

pub returns : goal.returns
returns c = tells_lt _ _ (λ h. inr (inr h)) (λ h. ⊎_elim (λ x. omega arith) (⊎_elim (λ x. omega arith) (λ x. omega arith)))
