-- The search of the inclusion test: what it is lent, and what its answer tells.
use Rattle.std.specs.Prelude.{ℕ, ◌≡◌, List, length, Option, Some, None}
use Rattle.paper.specs.Limits.{Limits, at}
use Rattle.tree.specs.Tree.{Tree}
use Rattle.table.specs.Rules.{Accepts}
use Rattle.pairs.specs.declared.Sizes.{Sizes}
use Rattle.pairs.specs.Work.{memory_of, Room}
use Rattle.moves.specs.Receiving.{Rules, Receiving}
use Rattle.steps.specs.Steps.{Sending}
use Rattle.inclusion.specs.Trace.{Failed}

-- what the search is lent: two tables, and a work slice in which no pair is found
pub record Searchable (L : Limits) (mS xS mB xB : List ℕ) (z : Sizes) (ws : List ℕ) : Type 0 where
  pub sender : Sending L z mS xS
  pub receiver : Receiving L z mB xB ws
  pub room : Room z (length ws)
  pub clear : (c : ℕ) → at (memory_of z ws).found c ≡ 0

-- what the search tells, the place of a pair that fails or none, the work slice being ws' at its end
pub data Found (L : Limits) (mS xS mB xB : List ℕ) (z : Sizes) (ws' : List ℕ) : Option ℕ → Type 0 where
  all_pass_of : ((t : Tree) → Accepts (Rules L xS) mS t → Accepts (Rules L xB) mB t) → Found L mS xS mB xB z ws' None
  one_fails_of : {i : ℕ} → Failed (Rules L xS) (Rules L xB) mS mB z.receivers z.pairs (memory_of z ws') i
      → Found L mS xS mB xB z ws' (Some i)

-- the search answers for every receiver's marks with which the rules and the numbers in the work slice agree
pub record Searches (L : Limits) (mS xS xB : List ℕ) (z : Sizes) (ws ws' : List ℕ) (o : Option ℕ) : Type 0 where
  pub size : length ws' ≡ length ws
  pub answer : (mB : List ℕ) → Searchable L mS xS mB xB z ws → Found L mS xS mB xB z ws' o
