-- The numbers of a table without a fault, held to a bound on its symbols and its states. Assumes nothing.
use Prim.Native.Nat.{ℕ, ◌+◌, ◌*◌, ◌/◌, ◌≤◌, ◌<◌}
use mathlib.Core.Path.{◌≡◌}
use mathlib.Core.Logic.{◌≢◌, inl, inr, by_cases}
use mathlib.Core.List.{List}
use native.Mathlib.Decide.{ℕ_discrete}
use native.Mathlib.Omega.{arith}
use lib.ListN.{length}
use Rattle.paper.specs.Limits.{Limits, at}
use Rattle.table.specs.Check.{Misshapen, OutOfRange, Sound}
use Rattle.table.proofs.Range.{symbols_few, states_few}

at_most : {a b : ℕ} → (a < b → ⊥) → b ≤ a
at_most h = omega arith

below : {a b : ℕ} → (a ≤ b → ⊥) → b < a
below h = omega arith

-- a rule of one of the three kinds, its numbers below a bound, in which a number that must be 0 is
pub record RuleBelow (most k a b q : ℕ) : Type 0 where
  pub kind : k ≤ 2
  pub left : a < most
  pub right : b < most
  pub target : q < most
  pub none : k ≢ 1 → b ≡ 0

module _ (most : ℕ) {y n k a b q : ℕ} (hy : y ≤ most) (hn : n ≤ most) where
  rule_below : ¬ Misshapen k b → ¬ OutOfRange y n k a b q → RuleBelow most k a b q
  rule_below m o =
      let t : q < n = below (λ h. o (inl h)) in
      let z : k ≢ 1 → b ≡ 0 = λ d. by_cases (ℕ_discrete b 0) (λ e. e) (λ e. absurd (m (inr (d, e)))) in
      record {
        kind = at_most (λ h. m (inl h));
        left =
            by_cases (ℕ_discrete k 0)
            (λ e. let l : a < y = below (λ h. o (inr (inl (e, h)))) in omega arith)
            (λ e. let l : a < n = below (λ h. o (inr (inr (inl (e, h))))) in omega arith);
        right =
            by_cases (ℕ_discrete k 1)
            (λ e. let l : b < n = below (λ h. o (inr (inr (inr (e, h))))) in omega arith)
            (λ e. omega (arith, z e));
        target = omega arith;
        none = z;
      }

module _ {L : Limits} {y : ℕ} {ms xs : List ℕ} (sound : Sound L y ms xs) where
  pub mark_least : {i : ℕ} → i < length ms → 2 ≤ at ms i
  mark_least {i} h = at_most (λ b. sound.marks_good_of i h (inl (omega arith)))

  pub mark_most : {i : ℕ} → i < length ms → at ms i ≤ 7
  mark_most {i} h = at_most (λ b. sound.marks_good_of i h (inr (inl (omega arith))))

  pub numbers_below : (most : ℕ) → L.symbols ≤ most → L.states ≤ most → {j : ℕ} → j < length xs / L.width
      → RuleBelow most (at xs (j * L.width)) (at xs (j * L.width + 1)) (at xs (j * L.width + 2)) (at xs (j * L.width + 3))
  numbers_below most hy hn {j} h =
      let g = sound.rules_good j h in
      rule_below most {y = y} {n = length ms} (omega (arith, symbols_few L sound)) (omega (arith, states_few L sound)) g.shaped g.in_range
