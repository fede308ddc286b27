-- `model_sets::clear_rows` meets its contract. The loop's invariant: the first p flags of each row before i are 0, the others as before.
use Rattle.paper.specs.Limits.{limits}
use Rattle.model_sets.specs.Work.{corner, Changed}
use Rattle.model_sets.proofs.clear_rows.Given as goal

abbrev pub invariant-loop-i : goal.invariant-loop-i
invariant-loop-i l = Changed limits.states 0 (corner l.i l.p) l.initial.next l.next
