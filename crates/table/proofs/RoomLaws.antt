-- There is room for a table, from the tests that failed. Assumes nothing.
use Prim.Native.Nat.{◌*◌, ◌≤◌, ℕ}
use native.Mathlib.Omega.{arith}
use mathlib.Core.Logic.{⊎_elim}
use mathlib.Core.List.{List}
use lib.ListN.{length}
use Rattle.paper.specs.Limits.{Limits}
use Rattle.table.specs.Room.{NoRoom}

pub roomy : (L : Limits) (M W : List ℕ) → L.states ≤ length M → L.rules * L.width ≤ length W → ¬ NoRoom L M W
roomy L M W a b = ⊎_elim (λ x. omega arith) (λ x. omega arith)
