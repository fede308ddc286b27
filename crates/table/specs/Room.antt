-- 1: a slice that a table is written to is too short.
use Rattle.std.specs.Prelude.{ℕ, ◌*◌, ◌<◌, ◌⊎◌, List, length}
use Rattle.std.proofs.Math.Decide.{dec_lt}
use Rattle.paper.specs.Limits.{Limits}
use Rattle.paper.specs.Tests.{dec_or}

-- the slice for the marks or that for the rules is too short for every table
abbrev pub NoRoom : Limits → List ℕ → List ℕ → Type 0
NoRoom L M W = (length M < L.states) ⊎ (length W < L.rules * L.width)

unfoldable pub no_room? : (L : Limits) (M W : List ℕ) → Dec (NoRoom L M W)
no_room? L M W = dec_or (dec_lt _ _) (dec_lt _ _)
