-- `table::too_large` meets its contract.
use mathlib.Core.Logic.{inl, inr, ⊎_elim}
use native.Mathlib.Omega.{arith}
use Rattle.paper.proofs.TellsLaws.{tells_yes, tells_lt}
use Rattle.table.proofs.too_large.Goals as goal

pub returns-then-symbols-eq0 : goal.returns-then-symbols-eq0
returns-then-symbols-eq0 c = tells_yes (inl c.if-symbols-eq0.true)

pub returns-then-symbols-gt-SYMBOLS : goal.returns-then-symbols-gt-SYMBOLS
returns-then-symbols-gt-SYMBOLS c = tells_yes (inr (inl c.if-symbols-gt-SYMBOLS.true))

pub returns-then-states-gt-STATES : goal.returns-then-states-gt-STATES
returns-then-states-gt-STATES c = tells_yes (inr (inr (inl c.if-states-gt-STATES.true)))

pub returns : goal.returns
returns c = tells_lt _ _ (λ h. inr (inr (inr h))) (λ h. ⊎_elim (λ x. omega arith) (⊎_elim (λ x. omega arith) (⊎_elim (λ x. omega arith) (λ x. omega arith))))
