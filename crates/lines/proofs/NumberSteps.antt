-- The laws of `specs/Number.antt` that the code's proofs cite: one step of each definition at a place i of a list s, d being the digit there.
use Prim.Native.Nat.{ℕ, ◌+◌, ◌-◌, ◌*◌, ◌≤◌, ◌<◌}
use mathlib.Core.Path.{◌≡◌, refl}
use mathlib.Core.List.{List}
use native.Mathlib.Omega.{arith}
use lib.Dec.{ltb}
use lib.ListN.{length, get_or, drop, drop_of_length-le}
use lib.Seq.{drop-cons}
use native.Mathlib.Numerals.{add-one}
use borrow.Author.Tests.{ltb-false, lt-ltb, le-ltb, le-leb, lt-leb, eq-eqb, ne_eqb}
use Rattle.std.specs.Char.{IsNotAsciiDigit}
use Rattle.lines.proofs.Tests.{split}
use Rattle.lines.specs.Number.{most_number, digit, more, number}
use Rattle.std.specs.Prelude.{Ok, Err}

-- the digit of a byte from 48 to 57, and that of no other
pub digit_of_byte : (b : ℕ) → 48 ≤ b → b ≤ 57 → (digit b < 10) × (b - 48 ≡ digit b)
unfolding digit
digit_of_byte b h g = rw (le-ltb b 48 h, le-ltb 57 b g) (omega arith, refl)

pub digit_of_none : (b : ℕ) → IsNotAsciiDigit b → digit b < 10 → ⊥
unfolding digit
digit_of_none b h = split (ltb b 48) (λ e. rw e (λ k. omega arith)) (λ e. split (ltb 57 b) (λ f. rw (e, f) (λ k. omega arith)) (λ f k. omega (arith, ltb-false b 48 e, ltb-false 57 b f, h)))

module _ (s : List ℕ) (i : ℕ) where
  pub number_end : length s ≤ i → number i (drop i s) ≡ Err i
  unfolding number
  number_end h = rw drop_of_length-le

  pub more_end : (v : ℕ) → length s ≤ i → more v i (drop i s) ≡ Ok (v, i)
  unfolding more
  more_end v h = rw drop_of_length-le

  module _ (h : i < length s) {d : ℕ} (e : d ≡ digit (get_or s i 0)) where
    pub number_bad : 10 ≤ d → number i (drop i s) ≡ Err i
    unfolding number
    number_bad t = rw (drop-cons s i 0, ← e, le-ltb d 10 t)

    pub number_more : d < 10 → number i (drop i s) ≡ more d (i + 1) (drop (i + 1) s)
    unfolding number
    number_more t = rw (drop-cons s i 0, add-one, ← e, lt-ltb d 10 t)

    pub more_stop : (v : ℕ) → 10 ≤ d → more v i (drop i s) ≡ Ok (v, i)
    unfolding more
    more_stop v t = rw (drop-cons s i 0, ← e, le-ltb d 10 t)

    pub more_zero : {v : ℕ} → d < 10 → v ≡ 0 → more v i (drop i s) ≡ Err i
    unfolding more
    more_zero {v} t z = rw (drop-cons s i 0, ← e, lt-ltb d 10 t, eq-eqb v 0 z)

    pub more_over : {v : ℕ} → d < 10 → (v ≡ 0 → ⊥) → most_number < v * 10 + d → more v i (drop i s) ≡ Err i
    unfolding more
    more_over {v} t z o = rw (drop-cons s i 0, ← e, lt-ltb d 10 t, ne_eqb v 0 z, lt-leb (v * 10 + d) most_number o)

    pub more_digit : {v : ℕ} → d < 10 → (v ≡ 0 → ⊥) → v * 10 + d ≤ most_number → more v i (drop i s) ≡ more (v * 10 + d) (i + 1) (drop (i + 1) s)
    unfolding more
    more_digit {v} t z o = rw (drop-cons s i 0, add-one, ← e, lt-ltb d 10 t, ne_eqb v 0 z, le-leb (v * 10 + d) most_number o)
