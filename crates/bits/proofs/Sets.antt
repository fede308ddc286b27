-- One bit of a list of words, and that a list of words is known by its bits. Assumes nothing.
use Prim.Native.Nat.{ℕ, zero, suc, ◌+◌, ◌-◌, ◌*◌, ◌/◌, ◌%◌, ◌^◌, ◌≤◌, ◌<◌}
use mathlib.Core.Path.{◌≡◌, refl, sym, ◌∙◌}
use mathlib.Core.Bool.{Bool, true, false, beq}
use mathlib.Core.List.{List}
use mathlib.Core.Logic.{◌≢◌, by_cases}
use native.Mathlib.Decide.{ℕ_discrete, dec_lt}
use native.Mathlib.Omega.{arith}
use borrow.Author.Tests.{eqb-true, eqb-false}
use lib.ListN.{length, get_or, set, length-set, replicate, get_or-eq_default}
use lib.Seq.{get_or-set_same, get_or-set_other, ext_get_or}
use Rattle.std.specs.Prelude.{eqb, cond}
use Rattle.bits.specs.Bits.{word, bit_of, bit_at, Made}
use Rattle.bits.proofs.Words.{WordMade, bit_shifted, one_shifted, bit_zero, bit_small, sum_made, sum_fits, less_made, less_fits, word_unique}

-- nothing is in the set behind the list's end
pub bit_outside : (l : List ℕ) (i : ℕ) → length l ≤ i / word → bit_at l i ≡ 0
unfolding bit_at
bit_outside l i h = rw (get_or-eq_default l 0 h, bit_zero (i % word))

-- nothing is in a set of zeros
pub zeros_at : (n k : ℕ) → ◌≡◌ {A = ℕ} (get_or (replicate n 0) k 0) 0
zeros_at zero k = refl
zeros_at (suc n) zero = refl
zeros_at (suc n) (suc k) = zeros_at n k

pub zeros_empty : (n i : ℕ) → bit_at (replicate n 0) i ≡ 0
unfolding bit_at
zeros_empty n i = rw (zeros_at n (i / word)) (bit_zero (i % word))

pub bit_read : (l : List ℕ) (i : ℕ) → get_or l (i / word) 0 / 2 ^ (i % word) % 2 ≡ bit_at l i
unfolding bit_at
bit_read l i = bit_shifted (get_or l (i / word) 0) (i % word)

pub bit_two : (l : List ℕ) (i : ℕ) → bit_at l i < 2
unfolding bit_at
bit_two l i = bit_small (get_or l (i / word) 0) (i % word)

-- a bit that is v already
pub made_same : (l : List ℕ) (i v : ℕ) → bit_at l i ≡ v → Made l i v l
made_same l i v h = record { long = refl; here = λ _. h; others = λ j d. refl; outside = λ _. refl }

module _ (l : List ℕ) (i v w : ℕ) (h : i / word < length l) (m : WordMade (get_or l (i / word) 0) (i % word) v w) where
  here : bit_at (set l (i / word) w) i ≡ v
  unfolding bit_at
  here = rw (get_or-set_same l (i / word) w 0 h) m.here

  others : (j : ℕ) → j ≢ i → bit_at (set l (i / word) w) j ≡ bit_at l j
  unfolding bit_at
  others j d = by_cases (ℕ_discrete (j / word) (i / word))
      (λ e. rw (e, get_or-set_same l (i / word) w 0 h) (m.others (j % word) (λ f. d (omega arith))))
      (λ e. rw (get_or-set_other l (i / word) (j / word) w 0 e) refl)

  pub made_set : Made l i v (set l (i / word) w)
  made_set = record { long = length-set l (i / word) w; here = λ _. here; others = others; outside = λ o. absurd (omega arith) }

-- what the answer of `get` says of a bit that should be 1, or 0
pub made_already : (l : List ℕ) (i : ℕ) (r v : Bool) → r ≡ eqb (bit_at l i) 1 → beq r v ≡ true → Made l i (cond v 1 0) l
made_already l i true true e q = made_same l i 1 (eqb-true (bit_at l i) 1 (sym e))
made_already l i true false e q = cc
made_already l i false true e q = cc
made_already l i false false e q = let n = eqb-false (bit_at l i) 1 (sym e) in made_same l i 0 (omega (arith, bit_two l i))

pub bit_differs : (l : List ℕ) (i : ℕ) (r v : Bool) → r ≡ eqb (bit_at l i) 1 → beq r v ≡ false → bit_at l i ≢ cond v 1 0
bit_differs l i true true e q x = cc
bit_differs l i true false e q x = cc
bit_differs l i false true e q x = cc
bit_differs l i false false e q x = cc

-- what the code stores, a word with the shifted 1 added or taken away, where its bit is another one
module _ (l : List ℕ) (i : ℕ) (h : i / word < length l) where
  abbrev held : ℕ
  held = get_or l (i / word) 0

  abbrev bit : ℕ
  bit = 1 * 2 ^ (i % word) % 65536

  shifted : bit ≡ 2 ^ (i % word)
  shifted = one_shifted (i % word) (omega arith)

  bit_other : (v : ℕ) → bit_at l i ≢ v → v < 2 → bit_of held (i % word) ≡ 1 - v
  unfolding bit_at
  bit_other v n k = omega (arith, bit_small held (i % word))

  pub put_made : bit_at l i ≢ 1 → Made l i 1 (set l (i / word) (held + bit))
  put_made n = rw shifted (made_set l i 1 (held + 2 ^ (i % word)) h (sum_made held (i % word) (bit_other 1 n (omega arith))))

  pub put_fits : bit_at l i ≢ 1 → held < 2 ^ word → held + bit < 2 ^ word
  put_fits n b = rw shifted (sum_fits word held (i % word) (omega arith) b (bit_other 1 n (omega arith)))

  pub clear_made : bit_at l i ≢ 0 → Made l i 0 (set l (i / word) (held - bit))
  clear_made n = rw shifted (made_set l i 0 (held - 2 ^ (i % word)) h (less_made held (i % word) (bit_other 0 n (omega arith))))

  pub clear_fits : bit_at l i ≢ 0 → bit ≤ held
  clear_fits n = rw shifted (less_fits held (i % word) (bit_other 0 n (omega arith)))

-- bit k of word j is bit j * word + k of the list
bit_of_word : (l : List ℕ) (j k : ℕ) → k < word → bit_at l (j * word + k) ≡ bit_of (get_or l j 0) k
unfolding bit_at
bit_of_word l j k h =
    let q : (j * word + k) / word ≡ j = omega arith in
    let r : (j * word + k) % word ≡ k = omega arith in
    rw (q, r) refl

-- two lists of words of one length with the same bits are equal
pub words_unique : (l m : List ℕ) → length l ≡ length m → ((j : ℕ) → get_or l j 0 < 2 ^ word) → ((j : ℕ) → get_or m j 0 < 2 ^ word)
    → ((i : ℕ) → bit_at l i ≡ bit_at m i) → l ≡ m
words_unique l m e h g b =
    ext_get_or 0 l m e (λ j x. word_unique word (get_or l j 0) (get_or m j 0) (h j) (g j)
    (λ k y. sym (bit_of_word l j k y) ∙ b (j * word + k) ∙ bit_of_word m j k y))

-- what `put` and `clear` leave is the only list of words that their contract allows
pub made_unique : (l : List ℕ) (i v : ℕ) (m n : List ℕ) → ((j : ℕ) → get_or m j 0 < 2 ^ word) → ((j : ℕ) → get_or n j 0 < 2 ^ word)
    → Made l i v m → Made l i v n → m ≡ n
made_unique l i v m n h g x y = by_cases (dec_lt i (length l * word))
    (λ k. words_unique m n (x.long ∙ sym y.long) h g (λ j. by_cases (ℕ_discrete j i)
    (λ e. rw e (x.here k ∙ sym (y.here k)))
    (λ d. x.others j d ∙ sym (y.others j d))))
    (λ k. x.outside (omega arith) ∙ sym (y.outside (omega arith)))
