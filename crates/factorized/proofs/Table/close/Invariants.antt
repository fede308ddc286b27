-- `factorized::Table::close` meets its contract. The loop's invariant: ε steps reach what is flagged. The measure: how many states are not flagged.
use Prim.Native.Nat.{ℕ}
use Rattle.paper.specs.Limits.{limits}
use Rattle.table.specs.Rules.{RulesOf}
use Rattle.factorized.specs.Work.{zeros, Stepped}
use Rattle.factorized.proofs.Table.close.Given as goal

abbrev pub invariant-loop-new : goal.invariant-loop-new
invariant-loop-new l = (r : ℕ) × Stepped (RulesOf limits.width l.self.rules.now) l.initial.reached r l.reached

abbrev pub decreases-loop-new : goal.decreases-loop-new
decreases-loop-new l = zeros l.reached
