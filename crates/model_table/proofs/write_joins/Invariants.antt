-- `model_table::write_joins` meets its contract: the join rules are put where they fit. Assumes nothing.
use Rattle.paper.specs.Limits.{limits}
use Rattle.compiled.specs.States.{each}
use Rattle.model_table.specs.Work.{joins_from}
use Rattle.model_table.proofs.WriteLaws.{Laid}
use Rattle.model_table.proofs.write_joins.Given as goal

abbrev pub invariant-loop-q : goal.invariant-loop-q
invariant-loop-q l = Laid l.initial.rules 0 (each l.q (joins_from limits.states l.symbols l.s.count l.s.bears.now l.s.next.now)) l.e l.rules
