-- The index of a table's join rules by their left states: for each left state the positions of its join rules among all rules, from 0,
-- rising. First stands where, from the slice's front, each list begins and the last ends.
use Rattle.std.specs.Prelude.{ℕ, ◌+◌, ◌*◌, ◌/◌, ◌≤◌, ◌<◌, ◌≡◌, ◌⊎◌, List, length, drop, Option, Some, None}
use Rattle.paper.specs.Limits.{at, join_kind}

-- rule i is a join rule with the left state l
pub record JoinAt (w : ℕ) (xs : List ℕ) (i l : ℕ) : Type 0 where
  pub inside : i * w + w ≤ length xs
  pub kind : at xs (i * w) ≡ join_kind
  pub left : at xs (i * w + 1) ≡ l

-- from place a of is up to place e stand the positions of the join rules with the left state l among the first n rules, rising
pub record Listed (w : ℕ) (xs : List ℕ) (l n : ℕ) (is : List ℕ) (a e : ℕ) : Type 0 where
  pub ends : a ≤ e
  pub all : (i : ℕ) → i < n → JoinAt w xs i l → (k : ℕ) × (a ≤ k) × (k < e) × (at is k ≡ i)
  pub only : (k : ℕ) → a ≤ k → k < e → (at is k < n) × JoinAt w xs (at is k) l
  pub rising : (j k : ℕ) → a ≤ j → j < k → k < e → at is j < at is k

-- the index of a table with n states, as far as the lists of the first m left states
pub record IndexedTo (w : ℕ) (xs : List ℕ) (n m : ℕ) (is : List ℕ) : Type 0 where
  pub first : at is 0 ≡ n + 1
  pub lists : (l : ℕ) → l < m → Listed w xs l (length xs / w) is (at is l) (at is (l + 1))
  pub ends : at is m ≤ length is

-- at the front of is stands the index of a table with n states
abbrev pub Indexed : ℕ → List ℕ → ℕ → List ℕ → Type 0
Indexed w xs n is = IndexedTo w xs n n is

-- the greatest number that 16 bits hold
abbrev pub most_number : ℕ
most_number = 65535

-- so many numbers an index may need: n + 1 that say where lists begin and end, and one a rule
abbrev pub index_size : ℕ → ℕ → ℕ
index_size rules n = n + 1 + rules

-- a slice of so many numbers is too short for it, or it is longer than 16 bits can count
abbrev pub NoIndexRoom : ℕ → ℕ → ℕ → Type 0
NoIndexRoom rules n size = (size < index_size rules n) ⊎ (most_number < index_size rules n)

-- the slice o is now is: at its front stand the r numbers of the index, and the rest is unchanged
pub record Holds (w : ℕ) (xs : List ℕ) (n : ℕ) (o : List ℕ) (r : ℕ) (is : List ℕ) : Type 0 where
  pub size : length is ≡ length o
  pub indexed : Indexed w xs n is
  pub counts : r ≡ at is n
  pub within : r ≤ index_size (length xs / w) n
  pub rest : drop r is ≡ drop r o

-- what building an index answers, and what the slice o then is: without room nothing, and the slice is unchanged
pub record Built (w : ℕ) (xs : List ℕ) (n : ℕ) (o : List ℕ) (r : Option ℕ) (is : List ℕ) : Type 0 where
  pub without : NoIndexRoom (length xs / w) n (length o) → (r ≡ None) × (is ≡ o)
  pub with : ¬ NoIndexRoom (length xs / w) n (length o) → (count : ℕ) × (r ≡ Some count) × Holds w xs n o count is
