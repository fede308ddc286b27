-- `factorized::Table::ends` meets its contract. The loop's invariant: no flagged state before `q` is final.
use Prim.Native.Nat.{ℕ, ◌<◌}
use Rattle.table.specs.Rules.{Final}
use Rattle.factorized.specs.Work.{Flagged}
use Rattle.factorized.proofs.Table.ends.Given as goal

abbrev pub invariant-loop-q : goal.invariant-loop-q
invariant-loop-q l = (p : ℕ) → p < l.q → ¬ (Flagged l.reached p × Final l.self.marks.now p)
