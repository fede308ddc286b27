-- `joins::target` meets its contract. The loop's invariant: the list of the left state is searched up to place k.
use Rattle.paper.specs.Limits.{limits}
use Rattle.joins.proofs.SearchLaws.{Searched}
use Rattle.joins.proofs.target.Given as goal

abbrev pub invariant-loop-k : goal.invariant-loop-k
invariant-loop-k l = Searched limits.width l.rules l.index l.left l.right l.k
