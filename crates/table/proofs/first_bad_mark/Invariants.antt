-- `table::first_bad_mark` meets its contract. The loop's invariant: no mark before i is out of range.
use Rattle.paper.specs.Limits.{at}
use Rattle.paper.specs.First.{NoneWrong}
use Rattle.table.specs.Check.{BadMark}
use Rattle.table.proofs.first_bad_mark.Given as goal

abbrev pub invariant-loop-i : goal.invariant-loop-i
invariant-loop-i l = NoneWrong (λ i. BadMark (at l.marks i)) l.i
