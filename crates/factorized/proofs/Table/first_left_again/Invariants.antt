-- `factorized::Table::first_left_again` meets its contract. The loop's invariant: no rule before `i` has an earlier left side, and the set has theirs.
use Rattle.paper.specs.Limits.{limits}
use Rattle.paper.specs.First.{NoneWrong}
use Rattle.receiver.specs.Receiver.{LeftSideAgain}
use Rattle.factorized.specs.Work.{Seen}
use Rattle.factorized.proofs.Table.first_left_again.Given as goal

abbrev pub invariant-loop-i : goal.invariant-loop-i
invariant-loop-i l = NoneWrong (LeftSideAgain limits l.self.rules.now) l.i × Seen limits l.self.rules.now l.i l.seen
