-- What a table without a fault says of its sizes and of the numbers of its rules: they name its own symbols and states alone. Assumes
-- nothing.
use Prim.Native.Nat.{ℕ, ◌+◌, ◌*◌, ◌/◌, ◌≤◌, ◌<◌}
use mathlib.Core.Path.{◌≡◌}
use mathlib.Core.Logic.{◌≢◌, ◌↔◌, ◌⊎◌, inl, inr, by_cases}
use mathlib.Core.List.{List}
use native.Mathlib.Decide.{ℕ_discrete, dec_le, dec_lt}
use native.Mathlib.Omega.{arith}
use lib.ListN.{length}
use Rattle.paper.specs.Limits.{Limits, at, leaf_kind, join_kind, eps_kind}
use Rattle.table.specs.Rules.{sort_of, final_of}
use Rattle.table.specs.Check.{BadMark, Sound}
use Rattle.table.proofs.Rows.{row_below}

-- a mark is bad exactly if it is outside 2 to 7
pub bad_mark_range : (m : ℕ) → BadMark m ↔ ((m < 2) ⊎ (7 < m))
unfolding sort_of final_of
bad_mark_range m = (to, back)
  where
    to : BadMark m → (m < 2) ⊎ (7 < m)
    to (inl e) = inl (omega arith)
    to (inr (inl e)) = inr (omega arith)
    to (inr (inr e)) = absurd (omega arith)

    back : (m < 2) ⊎ (7 < m) → BadMark m
    back (inl e) = inl (omega arith)
    back (inr e) = inr (inl (omega arith))

module _ (L : Limits) {symbols : ℕ} {ms xs : List ℕ} (s : Sound L symbols ms xs) where
  pub states_few : length ms ≤ L.states
  states_few = by_cases (dec_le (length ms) L.states) (λ h. h) (λ h. absurd (s.size_good (inr (inr (inl (omega arith))))))

  pub symbols_few : symbols ≤ L.symbols
  symbols_few = by_cases (dec_le symbols L.symbols) (λ h. h) (λ h. absurd (s.size_good (inr (inl (omega arith)))))

  pub rules_few : length xs / L.width ≤ L.rules
  rules_few = by_cases (dec_le (length xs / L.width) L.rules) (λ h. h) (λ h. absurd (s.size_good (inr (inr (inr (omega arith))))))

module _ (L : Limits) (wide : 0 < L.width) {symbols : ℕ} {ms xs : List ℕ} (s : Sound L symbols ms xs) where
  pub kind_few : (i : ℕ) → i * L.width + L.width ≤ length xs → at xs (i * L.width) ≤ eps_kind
  kind_few i h = by_cases (dec_le (at xs (i * L.width)) eps_kind)
      (λ e. e)
      (λ e. absurd ((s.rules_good i (row_below wide (length xs) i h)).shaped (inl (omega arith))))

  pub third_zero : (i : ℕ) → i * L.width + L.width ≤ length xs → at xs (i * L.width) ≢ join_kind → at xs (i * L.width + 2) ≡ 0
  third_zero i h d = by_cases (ℕ_discrete (at xs (i * L.width + 2)) 0)
      (λ e. e)
      (λ e. absurd ((s.rules_good i (row_below wide (length xs) i h)).shaped (inr (d, e))))

  pub to_below : (i : ℕ) → i * L.width + L.width ≤ length xs → at xs (i * L.width + 3) < length ms
  to_below i h = by_cases (dec_lt (at xs (i * L.width + 3)) (length ms))
      (λ e. e)
      (λ e. absurd ((s.rules_good i (row_below wide (length xs) i h)).in_range (inl (omega arith))))

  pub symbol_below : (i : ℕ) → i * L.width + L.width ≤ length xs → at xs (i * L.width) ≡ leaf_kind → at xs (i * L.width + 1) < symbols
  symbol_below i h k = by_cases (dec_lt (at xs (i * L.width + 1)) symbols)
      (λ e. e)
      (λ e. absurd ((s.rules_good i (row_below wide (length xs) i h)).in_range (inr (inl (k, omega arith)))))

  pub from_below : (i : ℕ) → i * L.width + L.width ≤ length xs → at xs (i * L.width) ≢ leaf_kind → at xs (i * L.width + 1) < length ms
  from_below i h k = by_cases (dec_lt (at xs (i * L.width + 1)) (length ms))
      (λ e. e)
      (λ e. absurd ((s.rules_good i (row_below wide (length xs) i h)).in_range (inr (inr (inl (k, omega arith))))))

  pub right_below : (i : ℕ) → i * L.width + L.width ≤ length xs → at xs (i * L.width) ≡ join_kind → at xs (i * L.width + 2) < length ms
  right_below i h k = by_cases (dec_lt (at xs (i * L.width + 2)) (length ms))
      (λ e. e)
      (λ e. absurd ((s.rules_good i (row_below wide (length xs) i h)).in_range (inr (inr (inr (k, omega arith))))))
