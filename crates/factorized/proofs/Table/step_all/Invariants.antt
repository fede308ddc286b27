-- `factorized::Table::step_all` meets its contract. The loop's invariant: the rules before rule `k` were taken once each, and `new` flags are new.
use Rattle.paper.specs.Limits.{limits}
use Rattle.factorized.specs.Work.{Passed}
use Rattle.factorized.proofs.Table.step_all.Given as goal

abbrev pub invariant-loop-k : goal.invariant-loop-k
invariant-loop-k l = Passed limits.width l.self.rules.now l.k l.initial.reached l.new l.reached
