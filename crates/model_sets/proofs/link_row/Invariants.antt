-- `model_sets::link_row` meets its contract. The loop's invariant: the row has the flags from a on before y that the first row has.
use Rattle.model_sets.specs.Work.{rowed, Painted}
use Rattle.model_sets.proofs.link_row.Given as goal

abbrev pub invariant-loop-y : goal.invariant-loop-y
invariant-loop-y l = Painted 1 (rowed l.initial.next l.row l.a l.y) l.initial.next l.next
