-- `joins::build` meets its contract. The loop's invariant: the lists of the left states before `left` stand, and where each begins and ends.
use Rattle.paper.specs.Limits.{limits}
use Rattle.joins.proofs.BuildLaws.{Going}
use Rattle.joins.proofs.build.Given as goal

abbrev pub invariant-loop-left : goal.invariant-loop-left
invariant-loop-left l = Going limits.width l.rules l.states l.initial.index l.left l.end l.index
