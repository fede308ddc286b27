-- Trees, and the tree of a node list: two numbers a node, a leaf is its symbol and the leaf mark, a join is two earlier nodes.
use Rattle.std.specs.Prelude.{ℕ, zero, suc, ◌+◌, ◌-◌, ◌*◌, ◌/◌, List, [], ◌∷◌, ◌++◌, length, get_or}
use Rattle.std.proofs.Math.Logic.{ite}
use Rattle.std.proofs.Math.Decide.{ℕ_discrete}
use Rattle.paper.specs.Limits.{at}

-- the binary form of documents: an element alone is a leaf; each child is joined on from the left
pub data Tree : Type 0 where
  leaf : (symbol : ℕ) → Tree
  join : Tree → Tree → Tree

-- the second number of a leaf, which tells it from a join
abbrev pub leaf_mark : ℕ
leaf_mark = 65535

-- the tree of a node with the numbers a and b, over the trees of the earlier nodes
unfoldable pub node_tree : List Tree → ℕ → ℕ → Tree
node_tree ts a b = ite (ℕ_discrete b leaf_mark) (leaf a) (join (get_or ts a (leaf 0)) (get_or ts b (leaf 0)))

-- the trees of the first n nodes
unfoldable pub trees : List ℕ → ℕ → List Tree
trees xs zero = []
trees xs (suc n) = let ts = trees xs n in ts ++ (node_tree ts (at xs (2 * n)) (at xs (2 * n + 1)) ∷ [])

-- the tree of node i
unfoldable pub tree_at : List ℕ → ℕ → Tree
tree_at xs i = node_tree (trees xs i) (at xs (2 * i)) (at xs (2 * i + 1))

-- the tree of a node list: its last node is the root
unfoldable pub tree_of : List ℕ → Tree
tree_of xs = tree_at xs (length xs / 2 - 1)
