-- `rule_read::state_fault` meets its contract: the lowest number by the first of the three tests that tells.
use mathlib.Core.Path.{sym}
use mathlib.Core.Logic.{inl, inr, ⊎_elim}
use native.Mathlib.Omega.{arith}
use Rattle.rule_read.proofs.Verdict.{state_order, state_sort, state_none}
use Rattle.rule_read.proofs.state_fault.Goals as goal

pub returns-then-n-m : goal.returns-then-n-m
returns-then-n-m c = sym (state_order _ _ _ _ _ (inl c.if-n-m.true))

pub returns-then-state-m : goal.returns-then-state-m
returns-then-state-m c = sym (state_order _ _ _ _ _ (inr c.if-state-m.true))

pub returns-then-bad_sort : goal.returns-then-bad_sort
returns-then-bad_sort c = sym (state_sort _ _ _ _ _ (⊎_elim (λ x. omega arith) (λ x. x c.if-state-m.false)) (c.bad_sort.ensures.yes c.if-bad_sort.true))

pub returns : goal.returns
returns c = sym (state_none _ _ _ _ _ (⊎_elim (λ x. omega arith) (λ x. x c.if-state-m.false)) (c.bad_sort.ensures.no c.if-bad_sort.false))
