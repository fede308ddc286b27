-- The tree of a node: a leaf, or the join of its children's trees. Assumes nothing.
use Prim.Native.Nat.{ℕ, zero, suc, ◌+◌, ◌*◌, ◌<◌}
use mathlib.Core.Path.{◌≡◌, refl, ap₂, ◌∙◌}
use mathlib.Core.Logic.{◌≢◌, if_pos, if_neg, by_cases}
use mathlib.Core.List.{List, [], ◌∷◌}
use native.Mathlib.Decide.{ℕ_discrete}
use native.Mathlib.Omega.{arith}
use lib.ListN.{length, get_or, length-append, get_or-append}
use lib.Seq.{get_or_at}
use Rattle.paper.specs.Limits.{at}
use Rattle.tree.specs.Tree.{leaf, join, leaf_mark, node_tree, trees, tree_at}

length_trees : (xs : List ℕ) (n : ℕ) → length (trees xs n) ≡ n
unfolding trees
length_trees xs zero = refl
length_trees xs (suc n) =
    let ih = length_trees xs n in
    omega (arith, length-append (trees xs n) (node_tree (trees xs n) (at xs (2 * n)) (at xs (2 * n + 1)) ∷ []))

-- an earlier node's tree is in the list
trees_at : (xs : List ℕ) (n i : ℕ) → i < n → get_or (trees xs n) i (leaf 0) ≡ tree_at xs i
unfolding trees tree_at
trees_at xs zero i h = absurd (omega arith)
trees_at xs (suc n) i h =
    let l = length_trees xs n in
    by_cases (ℕ_discrete i n)
    (λ e. rw e (get_or_at (trees xs n) _ [] (leaf 0) n l))
    (λ d. get_or-append (trees xs n) _ (leaf 0) i (omega arith) ∙ trees_at xs n i (omega arith))

pub tree_at_leaf : (xs : List ℕ) (i : ℕ) → at xs (2 * i + 1) ≡ leaf_mark → tree_at xs i ≡ leaf (at xs (2 * i))
unfolding tree_at node_tree
tree_at_leaf xs i e = if_pos (ℕ_discrete (at xs (2 * i + 1)) leaf_mark) e _ _

pub tree_at_join : (xs : List ℕ) (i : ℕ) → at xs (2 * i + 1) ≢ leaf_mark → at xs (2 * i) < i → at xs (2 * i + 1) < i
    → tree_at xs i ≡ join (tree_at xs (at xs (2 * i))) (tree_at xs (at xs (2 * i + 1)))
unfolding tree_at node_tree
tree_at_join xs i d l r = if_neg (ℕ_discrete (at xs (2 * i + 1)) leaf_mark) d _ _ ∙ ap₂ join (trees_at xs i _ l) (trees_at xs i _ r)
