-- What the scan of a model does to flags: it clears a stretch of them, and it sets, in rows of one stride, those that a link joins.
use Rattle.std.specs.Prelude.{ℕ, ◌+◌, ◌*◌, ◌-◌, ◌≤◌, ◌<◌, ◌≡◌, Bool, not, cond, ◌&&◌, List, length, ltb, eqb}
use Rattle.paper.specs.Limits.{Limits, at}

-- j is one of a, .., b - 1
unfoldable pub within : ℕ → ℕ → ℕ → Bool
within a b j = not (ltb j a) && ltb j b

-- a flag is set
unfoldable pub is_set : ℕ → Bool
is_set v = not (eqb v 0)

-- S' is S with v in each place that passes a test
pub record Painted (v : ℕ) (P : ℕ → Bool) (S S' : List ℕ) : Type 0 where
  pub size : length S' ≡ length S
  pub cell : (j : ℕ) → at S' j ≡ cond (P j) v (at S j)

-- the same by row and column
pub record Changed (stride v : ℕ) (P : ℕ → ℕ → Bool) (N N' : List ℕ) : Type 0 where
  pub size : length N' ≡ length N
  pub cell : (i y : ℕ) → y < stride → at N' (i * stride + y) ≡ cond (P i y) v (at N (i * stride + y))

-- the stretch from a to b, unless it is kept
unfoldable pub cleared : Bool → ℕ → ℕ → ℕ → Bool
cleared kept a b j = not kept && within a b j

-- the columns below p of the rows below k
unfoldable pub corner : ℕ → ℕ → ℕ → ℕ → Bool
corner k p i y = ltb i k && ltb y p

-- in the row that begins at `row`, the columns from a to b that are set in the first row of N
unfoldable pub rowed : List ℕ → ℕ → ℕ → ℕ → ℕ → Bool
rowed N row a b j = within (row + a) (row + b) j && is_set (at N (j - row))

-- in each row from c to d whose flag is set in E, the columns from a to b that are set in the first row of N
unfoldable pub joined : List ℕ → List ℕ → ℕ → ℕ → ℕ → ℕ → ℕ → ℕ → Bool
joined E N c d a b i y = (within c d i && is_set (at E i)) && (within a b y && is_set (at N y))

-- those rows and columns are there, and the first row is none of them
pub record Joinable (L : Limits) (E N : List ℕ) (c d a b : ℕ) : Type 0 where
  pub behind : 1 ≤ c
  pub rows : c ≤ d
  pub columns : a ≤ b
  pub narrow : b ≤ L.states
  pub ends : d ≤ length E
  pub next : d * L.states + b ≤ length N + L.states
