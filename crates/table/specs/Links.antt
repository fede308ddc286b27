-- The lists by which the check of a table finds an equal rule: a rule stands on the list of its left number, and is written there as its
-- row plus 1, so that 0 ends a list. The first n links are the fronts of the n lists; link n + j leads on from row j.
use Rattle.std.specs.Prelude.{ℕ, ◌+◌, ◌*◌, ◌/◌, ◌%◌, ◌≤◌, ◌<◌, ◌≡◌, List, length}
use Rattle.paper.specs.Limits.{Limits, at}

-- the check of a table keeps so many lists
abbrev pub lists : ℕ
lists = 64

-- of n lists, the list of a left number
abbrev pub the_list_of : ℕ → ℕ → ℕ
the_list_of n left = left % n

-- row j stands on the list that begins with the link h
pub data OnList (n : ℕ) (ls : List ℕ) : ℕ → ℕ → Type 0 where
  front : {j : ℕ} → OnList n ls (j + 1) j
  later : (i : ℕ) {j : ℕ} → OnList n ls (at ls (n + i)) j → OnList n ls (i + 1) j

-- the first i rows stand on their lists, each link leads to an earlier row, and there is room for a link of every row
pub record Linked (n : ℕ) (L : Limits) (xs ls : List ℕ) (i : ℕ) : Type 0 where
  pub few : length xs / L.width ≤ L.rules
  pub long : length ls ≡ n + L.rules
  pub fronts : (k : ℕ) → k < n → at ls k ≤ i
  pub down : (j : ℕ) → j < i → at ls (n + j) ≤ j
  pub listed : (j : ℕ) → j < i → OnList n ls (at ls (the_list_of n (at xs (j * L.width + 1)))) j
