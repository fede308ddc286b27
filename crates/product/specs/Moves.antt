-- The receiver's moves: to which base state its rules take a leaf, and a join of trees with given base states. The base state of a tree is
-- the target of the leaf or join rule at its top, before any ε step; n stands for none (the sink).
use Rattle.std.specs.Prelude.{ℕ, ◌≡◌, ◌⊎◌}
use Rattle.table.specs.Rules.{Rule, leaf_rule, join_rule, Reach}

-- a join rule takes trees with the base states x and y to q
pub record Move (R : Rule → Type 0) (x y q : ℕ) : Type 0 where
  pub left : ℕ
  pub right : ℕ
  pub from_x : Reach R x left
  pub from_y : Reach R y right
  pub rule : R (join_rule left right q)

-- q is the base state of a leaf, or n if it has none
abbrev pub LeafTo : (Rule → Type 0) → ℕ → ℕ → ℕ → Type 0
LeafTo R n a q = R (leaf_rule a q) ⊎ ((q ≡ n) × ((b : ℕ) → ¬ R (leaf_rule a b)))

-- q is the base state of a join of trees with the base states x and y, or n if it has none
abbrev pub JoinTo : (Rule → Type 0) → ℕ → ℕ → ℕ → ℕ → Type 0
JoinTo R n x y q = Move R x y q ⊎ ((q ≡ n) × ((b : ℕ) → ¬ Move R x y b))
