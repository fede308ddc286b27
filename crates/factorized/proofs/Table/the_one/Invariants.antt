-- `factorized::Table::the_one` meets its contract. The loop's invariant: `one` is the one state before `q`, if there is one.
use Rattle.factorized.specs.Work.{StandsFlagged, Single}
use Rattle.factorized.proofs.Table.the_one.Given as goal

abbrev pub invariant-loop-q : goal.invariant-loop-q
invariant-loop-q l = Single (StandsFlagged l.self.marks.now l.reached l.side) l.q l.one
