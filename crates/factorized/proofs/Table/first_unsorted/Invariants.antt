-- `factorized::Table::first_unsorted` meets its contract. The loop's invariant: no rule before `i` breaks the sorts.
use Rattle.paper.specs.Limits.{limits}
use Rattle.paper.specs.First.{NoneWrong}
use Rattle.receiver.specs.Receiver.{BreaksSorts}
use Rattle.factorized.proofs.Table.first_unsorted.Given as goal

abbrev pub invariant-loop-i : goal.invariant-loop-i
invariant-loop-i l = NoneWrong (BreaksSorts limits l.self.marks.now l.self.rules.now) l.i
