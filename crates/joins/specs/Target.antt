-- A join rule looked up in an index, whatever numbers stand in it.
use Rattle.std.specs.Prelude.{ℕ, ◌+◌, ◌≤◌, ◌<◌, List, length, Option, Some, None}
use Rattle.paper.specs.Limits.{at, join_kind}
use Rattle.table.specs.Rules.{Row}

-- place k of the index is in the list of the left state l, which is below the states
pub record InList (is : List ℕ) (l k : ℕ) : Type 0 where
  pub known : l + 1 < at is 0
  pub from : at is l ≤ k
  pub upto : k < at is (l + 1)
  pub inside : k < length is

-- rule i is a join rule of the states l and r
abbrev pub JoinOf : ℕ → List ℕ → ℕ → ℕ → ℕ → Type 0
JoinOf w xs i l r = (q : ℕ) × Row w xs i join_kind l r q

-- the target of the first join rule of l and r that the list of l names, if it names one
pub data Finds (w : ℕ) (xs is : List ℕ) (l r : ℕ) : Option ℕ → Type 0 where
  found : {k q : ℕ} → InList is l k → Row w xs (at is k) join_kind l r q
      → ((j : ℕ) → j < k → InList is l j → ¬ JoinOf w xs (at is j) l r) → Finds w xs is l r (Some q)
  nothing : ((j : ℕ) → InList is l j → ¬ JoinOf w xs (at is j) l r) → Finds w xs is l r None
