-- The search of one list of an index, place by place. Assumes nothing.
use Prim.Native.Nat.{ℕ, ◌+◌, ◌*◌, ◌/◌, ◌≤◌, ◌<◌, min}
use mathlib.Core.Path.{refl}
use mathlib.Core.List.{List}
use native.Mathlib.Omega.{arith}
use Rattle.std.specs.Prelude.{Some, None}
use lib.ListN.{length, get_or-eq_default}
use borrow.Author.Count.{below_more}
use Rattle.paper.specs.Limits.{at}
use Rattle.table.proofs.Rows.{row_below}
use Rattle.joins.specs.Target.{InList, JoinOf, Finds, found, nothing}

-- a row that is not whole is no join rule
pub not_whole : {w : ℕ} → 0 < w → (xs : List ℕ) {i l r : ℕ} → length xs / w ≤ i → ¬ JoinOf w xs i l r
not_whole positive xs {i} h (q, row) = let z = row_below positive (length xs) i row.inside in omega arith

-- the list of l is searched up to place k, and no join rule of l and r was found
pub record Searched (w : ℕ) (xs is : List ℕ) (l r k : ℕ) : Type 0 where
  pub from : at is l ≤ k
  pub before : (j : ℕ) → j < k → InList is l j → ¬ JoinOf w xs (at is j) l r

module _ (w : ℕ) (xs is : List ℕ) (l r : ℕ) where
  -- the index ends before it says where the list ends
  pub finds_short : length is ≤ l + 1 → Finds w xs is l r None
  finds_short h = nothing (λ j p. absurd (omega (arith, p.upto, get_or-eq_default {A = ℕ} is 0 {n = l + 1} h)))

  -- the index has no list of l
  pub finds_beyond : at is 0 ≤ l + 1 → Finds w xs is l r None
  finds_beyond h = nothing (λ j p. absurd (omega (arith, p.known)))

  pub searched_none : Searched w xs is l r (at is l)
  searched_none = record { from = omega arith; before = λ j h p. absurd (omega (arith, p.from)) }

  module _ {k : ℕ} (s : Searched w xs is l r k) where
    pub searched_more : ¬ JoinOf w xs (at is k) l r → Searched w xs is l r (k + 1)
    searched_more d = record { from = omega (arith, s.from); before = below_more _ _ s.before (λ p. d) }

    pub searched_end : min (at is (l + 1)) (length is) ≤ k → Finds w xs is l r None
    searched_end h = nothing (λ j p. s.before j (omega (arith, p.upto, p.inside)) p)

    pub searched_found : l + 1 < at is 0 → k < min (at is (l + 1)) (length is) → JoinOf w xs (at is k) l r
        → Finds w xs is l r (Some (at xs (at is k * w + 3)))
    searched_found h m (q, row) =
        found (record { known = h; from = s.from; upto = omega arith; inside = omega arith })
        (record { inside = row.inside; kind = row.kind; left = row.left; right = row.right; target = refl }) s.before
