-- `model_table::write_join` meets its contract: the join rules of a state and an element are put where they fit. Assumes nothing.
use Rattle.paper.specs.Limits.{limits}
use Rattle.model_table.specs.Work.{join_with}
use Rattle.model_table.proofs.WriteLaws.{Laid}
use Rattle.model_table.proofs.write_join.Given as goal

abbrev pub invariant-loop-y : goal.invariant-loop-y
invariant-loop-y l = Laid l.initial.rules l.at (join_with limits.states l.y l.s.bears.now l.s.next.now l.q l.a) l.e l.rules
