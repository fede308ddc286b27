-- `moves::leaf_state` meets its contract. The loop's invariant: none of the rules passed is a leaf rule of the symbol.
use Prim.Native.Nat.{ℕ, ◌<◌}
use Rattle.paper.specs.Limits.{limits}
use Rattle.moves.specs.Looked.{LeafOf}
use Rattle.moves.proofs.leaf_state.Given as goal

abbrev pub invariant-loop-i : goal.invariant-loop-i
invariant-loop-i l = ((j : ℕ) → j < l.i → ¬ LeafOf limits.width l.rules l.a j)
