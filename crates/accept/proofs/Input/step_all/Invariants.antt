-- `accept::Input::step_all` meets its contract. The loop's invariant: the rules before rule k were taken once each, and `new` states are new.
use Prim.Native.Nat.{◌<◌}
use Rattle.paper.specs.Limits.{limits}
use Rattle.accept.specs.Work.{span, Passed}
use Rattle.accept.proofs.Input.step_all.Given as goal

abbrev pub invariant-loop-k : goal.invariant-loop-k
invariant-loop-k l = Passed span limits.width l.self.rules.now (λ j. j < l.k) l.initial.work l.i l.work l.new
