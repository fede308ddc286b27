-- `model_table::write_leaf` meets its contract: the leaf rules of one symbol are put where they fit. Assumes nothing.
use Rattle.model_table.specs.Work.{leaf_with}
use Rattle.model_table.proofs.WriteLaws.{Laid}
use Rattle.model_table.proofs.write_leaf.Given as goal

abbrev pub invariant-loop-q : goal.invariant-loop-q
invariant-loop-q l = Laid l.initial.rules l.at (leaf_with l.q l.s.bears.now l.s.owners.now l.a) l.e l.rules
