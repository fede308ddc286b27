-- `model_table::write_row` meets its contract: the join rules of one left state are put where they fit. Assumes nothing.
use Rattle.paper.specs.Limits.{limits}
use Rattle.model_table.specs.Work.{joins_from}
use Rattle.model_table.proofs.WriteLaws.{Laid}
use Rattle.model_table.proofs.write_row.Given as goal

abbrev pub invariant-loop-a : goal.invariant-loop-a
invariant-loop-a l = Laid l.initial.rules l.at (joins_from limits.states l.a l.s.count l.s.bears.now l.s.next.now l.q) l.e l.rules
