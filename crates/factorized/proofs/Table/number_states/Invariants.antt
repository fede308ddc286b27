-- `factorized::Table::number_states` meets its contract. The loop's invariant: the states before `p` have their numbers, and their ε reach is single.
use Rattle.paper.specs.Limits.{limits}
use Rattle.factorized.specs.Work.{Listed}
use Rattle.factorized.proofs.Table.number_states.Given as goal

abbrev pub invariant-loop-p : goal.invariant-loop-p
invariant-loop-p l = Listed limits l.self.marks.now l.self.rules.now l.p l.numbers
