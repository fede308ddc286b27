-- `accept::Input::evaluate` meets its contract. The loop's invariant: the first i nodes are evaluated.
use Rattle.accept.specs.Work.{Going}
use Rattle.accept.proofs.Input.evaluate.Given as goal

abbrev pub invariant-loop-i : goal.invariant-loop-i
invariant-loop-i l = Going l.self.rules.now l.self.nodes.now l.work l.i
