-- `model_table::count_rules` meets its contract: the rules that the slices give are counted. Assumes nothing.
use Rattle.paper.specs.Limits.{limits}
use Rattle.model_table.proofs.CountLaws.{Counting}
use Rattle.model_table.proofs.count_rules.Given as goal

abbrev pub invariant-loop-q : goal.invariant-loop-q
invariant-loop-q l = Counting limits.states l.s.count l.s.bears.now l.s.owners.now l.s.ends.now l.s.next.now l.q l.n
