-- What the receiver's moves read, on any slices: the first leaf rule of a symbol, a join looked up by the numbers of two states, and
-- whether a pair fails.
use Rattle.std.specs.Prelude.{ℕ, ◌+◌, ◌*◌, ◌-◌, ◌≤◌, ◌<◌, ◌≡◌, ◌≢◌, List, length, take, drop, Option, unwrap_or}
use Rattle.paper.specs.Limits.{at, leaf_kind}
use Rattle.table.specs.Rules.{Final}
use Rattle.joins.specs.Target.{Finds}
use Rattle.receiver.specs.Numbers.{numbers_each}
use Rattle.pairs.specs.declared.Pair.{Pair}
use Rattle.pairs.specs.declared.Sizes.{Sizes}
use Rattle.pairs.specs.Work.{RowIn}

-- rule i is a leaf rule of the symbol a
pub record LeafOf (w : ℕ) (xs : List ℕ) (a i : ℕ) : Type 0 where
  pub inside : RowIn w xs i
  pub kind : at xs (i * w) ≡ leaf_kind
  pub symbol : at xs (i * w + 1) ≡ a

-- the target of the first leaf rule of the symbol, or n if there is none
pub data FirstLeaf (w : ℕ) (xs : List ℕ) (n a : ℕ) : ℕ → Type 0 where
  found : {i : ℕ} → LeafOf w xs a i → ((j : ℕ) → j < i → ¬ LeafOf w xs a j) → FirstLeaf w xs n a (at xs (i * w + 3))
  nothing : ((j : ℕ) → ¬ LeafOf w xs a j) → FirstLeaf w xs n a n

-- where the number k of a receiver's state stands
abbrev pub number_at : ℕ → ℕ → ℕ
number_at q k = numbers_each * q + k

-- a slice of so many numbers has the index, and before its end the left number of x and the right number of y
pub record StepFits (z : Sizes) (size x y : ℕ) : Type 0 where
  pub long : z.base ≤ size
  pub index : z.index ≤ z.base
  pub left : number_at x 0 < z.base
  pub right : number_at y 1 < z.base

-- the join of x and y is looked up, or there is nothing to look in
pub data Stepped (w : ℕ) (xs : List ℕ) (z : Sizes) (ws : List ℕ) (x y : ℕ) : ℕ → Type 0 where
  looked : {o : Option ℕ} → StepFits z (length ws) x y
      → Finds w xs (take (z.base - z.index) (drop z.index ws)) (at ws (number_at x 0)) (at ws (number_at y 1)) o
      → Stepped w xs z ws x y (unwrap_or o z.receivers)
  nowhere : ¬ StepFits z (length ws) x y → Stepped w xs z ws x y z.receivers

-- the sender's state is final, and the number of the receiver's that says whether it reaches a final state is there and is not 1
pub record FailsAt (mS ws : List ℕ) (pair : Pair) : Type 0 where
  pub final : Final mS pair.p.0
  pub inside : number_at pair.q.0 2 < length ws
  pub no_end_of : at ws (number_at pair.q.0 2) ≢ 1
