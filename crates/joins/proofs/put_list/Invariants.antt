-- `joins::put_list` meets its contract. The loop's invariant: the list of the rules before rule i stands.
use Rattle.paper.specs.Limits.{limits}
use Rattle.joins.specs.Work.{PutList}
use Rattle.joins.proofs.put_list.Given as goal

abbrev pub invariant-loop-i : goal.invariant-loop-i
invariant-loop-i l = PutList limits.width l.rules l.left l.i l.initial.index l.from l.end l.index
