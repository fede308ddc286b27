-- `inclusion::search::search` meets its contract. The loop's invariant: the pairs before place i are taken, none of them fails, and everything
-- taken is joined.
use Rattle.paper.specs.Limits.{limits}
use Rattle.pairs.specs.Work.{Kept}
use Rattle.inclusion.proofs.SearchLaws.{Going}
use Rattle.inclusion.proofs.search.search.Given as goal

abbrev pub invariant-loop-i : goal.invariant-loop-i
invariant-loop-i l = Kept l.initial.queue l.queue × Going limits l.fn.z l.marks l.s l.r l.fn.work l.queue.work.now l.queue.count l.i
