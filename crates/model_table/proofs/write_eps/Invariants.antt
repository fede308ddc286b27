-- `model_table::write_eps` meets its contract: the ε rules are put where they fit. Assumes nothing.
use Rattle.model_table.specs.Work.{the_eps_by}
use Rattle.model_table.proofs.WriteLaws.{Laid}
use Rattle.model_table.proofs.write_eps.Given as goal

abbrev pub invariant-loop-q : goal.invariant-loop-q
invariant-loop-q l = Laid l.initial.rules 0 (the_eps_by l.q l.s.ends.now l.s.owners.now) l.e l.rules
