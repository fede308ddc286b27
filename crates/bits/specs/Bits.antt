-- A set of numbers as bits of a list of words.
use Rattle.std.specs.Prelude.{ℕ, suc, zero, ◌*◌, ◌/◌, ◌%◌, ◌≤◌, ◌<◌, ◌≡◌, ◌≢◌, List, length, get_or}

-- so many bits has a word
abbrev pub word : ℕ
word = 16

-- bit k of a number, 0 or 1
unfoldable pub bit_of : ℕ → ℕ → ℕ
bit_of w zero = w % 2
bit_of w (suc k) = bit_of (w / 2) k

-- 1 if i is in the set of these words, else 0
unfoldable pub bit_at : List ℕ → ℕ → ℕ
bit_at l i = bit_of (get_or l (i / word) 0) (i % word)

-- l' is l with bit i made v: all other bits are as they were, and a list that has no bit i is unchanged
pub record Made (l : List ℕ) (i v : ℕ) (l' : List ℕ) : Type 0 where
  pub long : length l' ≡ length l
  pub here : i < length l * word → bit_at l' i ≡ v
  pub others : (j : ℕ) → j ≢ i → bit_at l' j ≡ bit_at l j
  pub outside : length l * word ≤ i → l' ≡ l
