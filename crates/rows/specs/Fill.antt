-- A stretch of a slice filled with one number.
use Rattle.std.specs.Prelude.{ℕ, ◌≤◌, ◌<◌, ◌≡◌, ◌⊎◌, List, length}
use Rattle.paper.specs.Limits.{at}

-- the numbers of o' from `from` on up to `to` are v, as far as there are any, and the others as in o
pub record Filled (o : List ℕ) (from to v : ℕ) (o' : List ℕ) : Type 0 where
  pub size : length o' ≡ length o
  pub inside : (i : ℕ) → from ≤ i → i < to → i < length o → at o' i ≡ v
  pub outside : (i : ℕ) → (i < from) ⊎ (to ≤ i) → at o' i ≡ at o i
