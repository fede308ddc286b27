-- `table::has_row` meets its contract. The loop's invariant: no row before `i` has the numbers.
use Prim.Native.Nat.{ℕ, ◌<◌}
use Rattle.paper.specs.Limits.{limits}
use Rattle.table.specs.Rules.{Row}
use Rattle.table.proofs.has_row.Given as goal

abbrev pub invariant-loop-i : goal.invariant-loop-i
invariant-loop-i l = (j : ℕ) → j < l.i → ¬ Row limits.width l.rules j l.rule.kind l.rule.left l.rule.right l.rule.to
