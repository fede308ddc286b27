-- The slices that the states of a text are kept in, as one struct: how long they are, what is kept in them, and that they stay the same.
use Rattle.std.specs.Prelude.{ℕ, ◌≡◌, List}
use Rattle.compiled.specs.States.{State}
use Rattle.model_fill.specs.declared.Slices.{Slices}
use Rattle.model_fill.specs.Kept.{Long, Kept}

-- the four slices have their lengths
abbrev pub LongIn : ℕ → Slices → Type 0
LongIn stride x = Long stride x.bears.now x.owners.now x.ends.now x.next.now

-- they hold what is known of the states S
abbrev pub KeptIn : ℕ → List State → Slices → Type 0
KeptIn stride S x = Kept stride S x.bears.now x.owners.now x.ends.now x.next.now

-- they are in the same slices as before
pub record Same (x y : Slices) : Type 0 where
  pub bears : y.bears.ghost_name ≡ x.bears.ghost_name
  pub owners : y.owners.ghost_name ≡ x.owners.ghost_name
  pub ends : y.ends.ghost_name ≡ x.ends.ghost_name
  pub next : y.next.ghost_name ≡ x.next.ghost_name
