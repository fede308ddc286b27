-- `table::out_of_range` meets its contract.
use mathlib.Core.Logic.{inl, inr, ⊎_elim}
use native.Mathlib.Omega.{arith}
use Rattle.paper.proofs.TellsLaws.{tells_yes, tells_no, tells_le}
use Rattle.table.proofs.out_of_range.Goals as goal

pub returns-then-states-to : goal.returns-then-states-to
returns-then-states-to c = tells_yes (inl c.if-states-to.true)

pub returns-then-kind-eq-LEAF_RULE : goal.returns-then-kind-eq-LEAF_RULE
returns-then-kind-eq-LEAF_RULE c = tells_le _ _ (λ h. inr (inl (c.if-kind-eq-LEAF_RULE.true, h))) (λ h. ⊎_elim (λ x. omega arith) (⊎_elim (λ x. omega arith) (⊎_elim (λ x. omega arith) (λ x. omega arith))))

pub returns-then-states-left : goal.returns-then-states-left
returns-then-states-left c = tells_yes (inr (inr (inl (c.if-kind-eq-LEAF_RULE.false, c.if-states-left.true))))

pub returns-then-kind-eq-JOIN_RULE : goal.returns-then-kind-eq-JOIN_RULE
returns-then-kind-eq-JOIN_RULE c = tells_le _ _ (λ h. inr (inr (inr (c.if-kind-eq-JOIN_RULE.true, h)))) (λ h. ⊎_elim (λ x. omega arith) (⊎_elim (λ x. omega arith) (⊎_elim (λ x. omega arith) (λ x. omega arith))))

pub returns : goal.returns
returns c = tells_no (⊎_elim (λ x. omega arith) (⊎_elim (λ x. omega arith) (⊎_elim (λ x. omega arith) (λ x. omega arith))))
