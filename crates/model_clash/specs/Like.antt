-- Two like places: in slices by state number, B has the symbol that each place bears, and N a flag where the place y can come next after
-- the state q, in rows of one stride.
use Rattle.std.specs.Prelude.{ℕ, ◌+◌, ◌*◌, ◌≤◌, ◌<◌, ◌≡◌, ◌≢◌, List, length, Option, Some, None}
use Rattle.paper.specs.Limits.{at}

-- y and z bear one symbol and can come next after q
pub record Like (stride : ℕ) (B N : List ℕ) (q y z : ℕ) : Type 0 where
  pub inside_y : y < length B
  pub inside_z : z < length B
  pub same : at B y ≡ at B z
  pub next_y : at N (q * stride + y) ≢ 0
  pub next_z : at N (q * stride + z) ≢ 0

-- they are two, from `from` on up to `to`
pub record Two (stride : ℕ) (B N : List ℕ) (q from to z y : ℕ) : Type 0 where
  pub low : from ≤ z
  pub apart : z < y
  pub high : y < to
  pub like : Like stride B N q y z

-- what the search finds after q
pub record Finds (stride : ℕ) (B N : List ℕ) (q from to : ℕ) (r : Option (ℕ × ℕ)) : Type 0 where
  pub pair : {z y : ℕ} → r ≡ Some (z, y) → Two stride B N q from to z y
  pub nothing : r ≡ None → (z y : ℕ) → ¬ Two stride B N q from to z y

-- after some state there are two like places
pub record Clash (stride : ℕ) (B N : List ℕ) (from to : ℕ) : Type 0 where
  pub state : ℕ
  pub low : from ≤ state
  pub high : state < to
  pub z : ℕ
  pub y : ℕ
  pub two : Two stride B N state from to z y
