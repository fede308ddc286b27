-- `accept::Input::gather` meets its contract. The loop's invariant: what the rules before rule k give is in the set, and nothing else is new.
use Prim.Native.Nat.{◌<◌}
use Rattle.paper.specs.Limits.{limits}
use Rattle.accept.specs.Work.{span, Gathered}
use Rattle.accept.proofs.Input.gather.Given as goal

abbrev pub invariant-loop-k : goal.invariant-loop-k
invariant-loop-k l = Gathered span limits.width l.self.rules.now (λ j. j < l.k) l.self.nodes.now l.i l.initial.work l.work
