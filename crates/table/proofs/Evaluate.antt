-- Laws of evaluation, over any set of rules: every state of a tree is reached by ε steps from the target of a leaf or join rule at its
-- top, and the two clauses by which the paper says which states a tree has. Assumes nothing.
use Prim.Native.Nat.{ℕ}
use mathlib.Core.Logic.{◌↔◌}
use Rattle.tree.specs.Tree.{Tree, leaf, join}
use Rattle.table.specs.Rules.{Rule, leaf_rule, join_rule, eps_rule, Reach, here, step, Has, at_leaf, at_join, at_eps}

-- the target of a leaf or join rule at the tree's top, before any ε step
pub data Base (R : Rule → Type 0) : Tree → ℕ → Type 0 where
  base_leaf : {a q : ℕ} → R (leaf_rule a q) → Base R (leaf a) q
  base_join : {s t : Tree} {l r q : ℕ} → Has R s l → Has R t r → R (join_rule l r q) → Base R (join s t) q

module _ {R : Rule → Type 0} where
  pub reach_trans : {p q r : ℕ} → Reach R p q → Reach R q r → Reach R p r
  reach_trans h here = h
  reach_trans h (step k e) = step (reach_trans h k) e

  -- a set of states that is closed under ε rules and has p has all that p reaches
  pub reach_closed : (P : ℕ → Type 0) → ((q r : ℕ) → P q → R (eps_rule q r) → P r) → {p q : ℕ} → P p → Reach R p q → P q
  reach_closed P c h here = h
  reach_closed P c h (step k e) = c _ _ (reach_closed P c h k) e

  pub has_reach : {t : Tree} {p q : ℕ} → Has R t p → Reach R p q → Has R t q
  has_reach h here = h
  has_reach h (step k e) = at_eps (has_reach h k) e

  pub has_of_base : {t : Tree} {b : ℕ} → Base R t b → Has R t b
  has_of_base (base_leaf e) = at_leaf e
  has_of_base (base_join h k e) = at_join h k e

  -- every state of a tree is reached from a base state
  pub base_of_has : {t : Tree} {q : ℕ} → Has R t q → (b : ℕ) × Base R t b × Reach R b q
  base_of_has (at_leaf {q = q} e) = (q, base_leaf e, here)
  base_of_has (at_join {q = q} h k e) = (q, base_join h k e, here)
  base_of_has (at_eps h e) = let (b, c, d) = base_of_has h in (b, c, step d e)

  -- a leaf has the targets of its leaf rules and all that ε steps reach from them
  pub has_leaf : {a q : ℕ} → Has R (leaf a) q ↔ ((b : ℕ) × R (leaf_rule a b) × Reach R b q)
  has_leaf = (λ h. let (b, c, d) = base_of_has h in (b, inv c, d), λ x. has_reach (at_leaf x.1) x.2)
    where
      inv : {a b : ℕ} → Base R (leaf a) b → R (leaf_rule a b)
      inv (base_leaf e) = e

  -- a join has the targets of join rules whose left state the left tree has and whose right state the right tree has, with all that
  -- ε steps reach
  pub has_join : {s t : Tree} {q : ℕ}
      → Has R (join s t) q ↔ ((l r b : ℕ) × Has R s l × Has R t r × R (join_rule l r b) × Reach R b q)
  has_join = (λ h. let (b, c, d) = base_of_has h in inv c d, λ x. has_reach (at_join x.3 x.4 x.5) x.6)
    where
      inv : {s t : Tree} {b q : ℕ}
          → Base R (join s t) b → Reach R b q → (l r b : ℕ) × Has R s l × Has R t r × R (join_rule l r b) × Reach R b q
      inv (base_join {l = l} {r = r} {q = b} h k e) d = (l, r, b, h, k, e, d)
