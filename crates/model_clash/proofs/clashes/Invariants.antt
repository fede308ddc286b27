-- `model_clash::clashes` meets its contract. The loop's invariant: after no state from `from` on before q are there two like places.
use Rattle.paper.specs.Limits.{limits}
use Rattle.model_clash.proofs.LikeLaws.{NoneBefore}
use Rattle.model_clash.proofs.clashes.Given as goal

abbrev pub invariant-loop-q : goal.invariant-loop-q
invariant-loop-q l = NoneBefore limits.states l.bears l.next l.from l.to l.q
