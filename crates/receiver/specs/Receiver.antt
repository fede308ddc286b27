-- The receiver's table must be a deterministic factorized automaton: what is wrong in 7, 8 and 9.
use Rattle.std.specs.Prelude.{ℕ, ◌+◌, ◌*◌, ◌/◌, ◌<◌, ◌≡◌, ◌≢◌, ◌⊎◌, List, length}
use Rattle.paper.specs.Limits.{Limits, at, join_kind, eps_kind}
use Rattle.table.specs.Rules.{RulesOf, Reach, sort_of, left_sort, right_sort, both_sort}

-- a state of sort 1 or 3 may stand left of a join, one of sort 2 or 3 right of it
abbrev pub MayLeft : List ℕ → ℕ → Type 0
MayLeft ms q = (sort_of (at ms q) ≡ left_sort) ⊎ (sort_of (at ms q) ≡ both_sort)

abbrev pub MayRight : List ℕ → ℕ → Type 0
MayRight ms q = (sort_of (at ms q) ≡ right_sort) ⊎ (sort_of (at ms q) ≡ both_sort)

-- 7: rule i, a leaf or join rule, has an earlier rule's left side: its kind and all its numbers but the target
abbrev pub LeftSideAgain : Limits → List ℕ → ℕ → Type 0
LeftSideAgain L xs i =
    let r = i * L.width in
    (at xs r ≢ eps_kind)
    × ((j : ℕ) × (j < i) × ((at xs (j * L.width) ≡ at xs r)
    × ((at xs (j * L.width + 1) ≡ at xs (r + 1)) × (at xs (j * L.width + 2) ≡ at xs (r + 2)))))

-- 8: rule i, a join rule, breaks the sorts: its left state may not stand left, or its right state may not stand right
abbrev pub BreaksSorts : Limits → List ℕ → List ℕ → ℕ → Type 0
BreaksSorts L ms xs i =
    let r = i * L.width in
    (at xs r ≡ join_kind) × ((¬ MayLeft ms (at xs (r + 1))) ⊎ (¬ MayRight ms (at xs (r + 2))))

-- two states that are not one are reached from p by zero or more ε steps, both with a property
abbrev pub TwoReached : Limits → List ℕ → (ℕ → Type 0) → ℕ → Type 0
TwoReached L xs P p =
    (q : ℕ) × (r : ℕ) × (q ≢ r) × (P q × (P r × (Reach (RulesOf L.width xs) p q × Reach (RulesOf L.width xs) p r)))

-- 9: from p more than one state is reached that may stand left, or more than one that may stand right
abbrev pub NotSingle : Limits → List ℕ → List ℕ → ℕ → Type 0
NotSingle L ms xs p = TwoReached L xs (MayLeft ms) p ⊎ TwoReached L xs (MayRight ms) p

-- a table with none of these three faults
pub record Receives (L : Limits) (ms xs : List ℕ) : Type 0 where
  pub left_sides_of : (i : ℕ) → i < length xs / L.width → ¬ LeftSideAgain L xs i
  pub sorts : (i : ℕ) → i < length xs / L.width → ¬ BreaksSorts L ms xs i
  pub single : (p : ℕ) → p < length ms → ¬ NotSingle L ms xs p
