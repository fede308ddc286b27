-- `accept::has_final` meets its contract. The loop's invariant: no state before q is final and in the set.
use Prim.Native.Nat.{ℕ, ◌<◌}
use Rattle.accept.specs.Work.{span, IsFinal}
use Rattle.accept.proofs.has_final.Given as goal

abbrev pub invariant-loop-q : goal.invariant-loop-q
invariant-loop-q l = (p : ℕ) → p < l.q → ¬ IsFinal span l.marks l.work l.i p
