-- Laws of stores that the writers share: what stands behind what, and how long it is.
use Prim.Native.Nat.{ℕ, suc, ◌+◌}
use mathlib.Core.Path.{◌≡◌, ap, sym, ◌∙◌}
use mathlib.Core.List.{List, [], ◌∷◌, ◌++◌}
use native.Mathlib.Nat.{add-zero, add-suc, suc-add}
use lib.ListN.{length, set}
use lib.Seq.{sets}

pub sets_append : (l : List ℕ) (i : ℕ) (vs ws : List ℕ) → sets (sets l i vs) (i + length vs) ws ≡ sets l i (vs ++ ws)
sets_append l i [] ws = ap (λ k. sets l k ws) (add-zero i)
sets_append l i (v ∷ vs) ws =
    ap (λ k. sets (sets (set l i v) (suc i) vs) k ws) (add-suc i (length vs) ∙ sym (suc-add i (length vs)))
    ∙ sets_append (set l i v) (suc i) vs ws

-- the same where the place is known by an equation, as a call's result is
pub sets_then : (l : List ℕ) (i : ℕ) (vs ws : List ℕ) {j : ℕ} → j ≡ i + length vs → sets (sets l i vs) j ws ≡ sets l i (vs ++ ws)
sets_then l i vs ws e = ap (λ k. sets (sets l i vs) k ws) e ∙ sets_append l i vs ws
