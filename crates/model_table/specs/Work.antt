-- The rules that the slices of states give, and the marks.
use Rattle.std.specs.Prelude.{ℕ, ◌+◌, ◌*◌, ◌≤◌, ◌≡◌, Bool, cond, not, ◌&&◌, List, [], ◌∷◌, ◌++◌, length, eqb, ltb}
use Rattle.paper.specs.Limits.{at}
use Rattle.table.specs.Rules.{Rule, leaf_rule, join_rule, eps_rule, mark_for, left_sort, right_sort}
use Rattle.compiled.specs.States.{each}
use Rattle.compiled.specs.Rules.{only, numbers}
use Rattle.compiled.specs.Counts.{sum, count}
use Rattle.model_fill.specs.Kept.{no_symbol_of}

-- slices long enough for the rows of k states
pub record NextLong (stride k : ℕ) (B N : List ℕ) : Type 0 where
  pub few : k ≤ stride
  pub bears : k ≤ length B
  pub next : length N ≡ stride * stride

-- a flag is set
unfoldable pub is_set : List ℕ → ℕ → Bool
is_set xs i = not (eqb (at xs i) 0)

-- state q is the initial one of the symbol a; of some symbol
unfoldable pub initial_at : List ℕ → List ℕ → ℕ → ℕ → Bool
initial_at B O a q = eqb (at O q) a && eqb (at B q) no_symbol_of

unfoldable pub starts_at : List ℕ → List ℕ → ℕ → Bool
starts_at B O q = not (eqb (at O q) no_symbol_of) && eqb (at B q) no_symbol_of

-- the rules that slices give over k states
unfoldable pub leaf_with : ℕ → List ℕ → List ℕ → ℕ → List Rule
leaf_with k B O a = each k (λ q. only (initial_at B O a q) (leaf_rule a q))

unfoldable pub the_leaves_by : ℕ → ℕ → List ℕ → List ℕ → List Rule
the_leaves_by n k B O = each n (leaf_with k B O)

unfoldable pub the_eps_by : ℕ → List ℕ → List ℕ → List Rule
the_eps_by k E O = each k (λ q. only (is_set E q) (eps_rule q (at O q)))

unfoldable pub join_with : ℕ → ℕ → List ℕ → List ℕ → ℕ → ℕ → List Rule
join_with stride k B N q a = each k (λ y. only (is_set N (q * stride + y) && eqb (at B y) a) (join_rule q a y))

unfoldable pub joins_from : ℕ → ℕ → ℕ → List ℕ → List ℕ → ℕ → List Rule
joins_from stride n k B N q = each n (join_with stride k B N q)

unfoldable pub the_joins_by : ℕ → ℕ → ℕ → List ℕ → List ℕ → List Rule
the_joins_by stride n k B N = each k (joins_from stride n k B N)

-- the numbers of all of them, one kind behind the other
unfoldable pub the_numbers_by : ℕ → ℕ → ℕ → List ℕ → List ℕ → List ℕ → List ℕ → List ℕ
the_numbers_by stride n k B O E N = numbers (the_leaves_by n k B O) ++ (numbers (the_eps_by k E O) ++ numbers (the_joins_by stride n k B N))

-- there is room for them
abbrev pub Roomy : ℕ → ℕ → ℕ → List ℕ → List ℕ → List ℕ → List ℕ → List ℕ → Type 0
Roomy stride n k B O E N W = length (the_numbers_by stride n k B O E N) ≤ length W

-- how many places come next after q, and how many rules there are in all
unfoldable pub count_from : ℕ → ℕ → List ℕ → ℕ → ℕ
count_from stride k N q = count k (λ y. is_set N (q * stride + y))

unfoldable pub the_count_by : ℕ → ℕ → List ℕ → List ℕ → List ℕ → List ℕ → ℕ
the_count_by stride k B O E N = sum k (λ q. count_from stride k N q + (cond (is_set E q) 1 0 + cond (starts_at B O q) 1 0))

-- the marks of n symbols and k states in all
unfoldable pub the_mark_at : ℕ → ℕ → ℕ → ℕ
the_mark_at n start q = cond (ltb q n) (mark_for right_sort (cond (eqb q start) 1 0)) (mark_for left_sort 0)

unfoldable pub marks_for : ℕ → ℕ → ℕ → List ℕ
marks_for n start k = each k (λ q. the_mark_at n start q ∷ [])
