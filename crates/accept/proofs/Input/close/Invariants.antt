-- `accept::Input::close` meets its contract. The loop's invariant: ε steps reach what the set holds. The measure: how many states it lacks.
use Prim.Native.Nat.{ℕ}
use Rattle.paper.specs.Limits.{limits}
use Rattle.table.specs.Rules.{RulesOf}
use Rattle.accept.specs.Work.{span, state, missing, Stepped}
use Rattle.accept.proofs.Input.close.Given as goal

abbrev pub invariant-loop-i : goal.invariant-loop-i
invariant-loop-i l = (r : ℕ) × Stepped span (RulesOf limits.width l.self.rules.now) l.initial.work l.i l.work r

abbrev pub decreases-loop-i : goal.decreases-loop-i
decreases-loop-i l = missing (state span l.work l.i) span
