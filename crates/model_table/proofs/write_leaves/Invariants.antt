-- `model_table::write_leaves` meets its contract: the leaf rules are put where they fit. Assumes nothing.
use Rattle.model_table.specs.Work.{the_leaves_by}
use Rattle.model_table.proofs.WriteLaws.{Laid}
use Rattle.model_table.proofs.write_leaves.Given as goal

abbrev pub invariant-loop-a : goal.invariant-loop-a
invariant-loop-a l = Laid l.initial.rules 0 (the_leaves_by l.a l.s.count l.s.bears.now l.s.owners.now) l.e l.rules
