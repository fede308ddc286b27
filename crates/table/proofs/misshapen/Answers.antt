-- `table::misshapen` meets its contract.
use mathlib.Core.Logic.{inl, inr, ⊎_elim}
use native.Mathlib.Omega.{arith}
use Rattle.paper.proofs.TellsLaws.{tells_yes, tells_no, tells_ne}
use Rattle.table.proofs.misshapen.Goals as goal

pub returns-then-kind-gt-EPSILON_RULE : goal.returns-then-kind-gt-EPSILON_RULE
returns-then-kind-gt-EPSILON_RULE c = tells_yes (inl c.if-kind-gt-EPSILON_RULE.true)

pub returns-then-kind-ne-JOIN_RULE : goal.returns-then-kind-ne-JOIN_RULE
returns-then-kind-ne-JOIN_RULE c = tells_ne _ _ (λ d. inr (c.if-kind-ne-JOIN_RULE.true, d)) (λ e. ⊎_elim (λ x. omega arith) (λ x. x.1 e))

pub returns : goal.returns
returns c = tells_no (⊎_elim (λ x. omega arith) (λ x. x.0 c.if-kind-ne-JOIN_RULE.false))
