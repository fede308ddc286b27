-- Deterministic factorized automata, over any set of rules, and that each tree has at most one base state under one. Assumes nothing.
use Prim.Native.Nat.{ℕ}
use mathlib.Core.Path.{◌≡◌, subst₂}
use mathlib.Core.Logic.{◌↔◌}
use mathlib.Core.List.{List}
use Rattle.tree.specs.Tree.{Tree, leaf, join}
use Rattle.table.specs.Rules.{Rule, leaf_rule, join_rule, Reach, Has}
use Rattle.table.proofs.Evaluate.{Base, base_leaf, base_join, has_reach, has_of_base, base_of_has}
use Rattle.receiver.specs.Receiver.{MayLeft, MayRight}

-- at most one state that p reaches satisfies P
abbrev pub SingleReach : (Rule → Type 0) → (ℕ → Type 0) → ℕ → Type 0
SingleReach R P p = (q r : ℕ) → Reach R p q → Reach R p r → P q → P r → q ≡ r

pub record Factorized (R : Rule → Type 0) (m : List ℕ) : Type 0 where
  pub leaf_single : (a p q : ℕ) → R (leaf_rule a p) → R (leaf_rule a q) → p ≡ q
  pub join_single : (l r p q : ℕ) → R (join_rule l r p) → R (join_rule l r q) → p ≡ q
  pub sorted : (l r q : ℕ) → R (join_rule l r q) → MayLeft m l × MayRight m r
  pub single_left : (p : ℕ) → SingleReach R (MayLeft m) p
  pub single_right : (p : ℕ) → SingleReach R (MayRight m) p

module _ {R : Rule → Type 0} {m : List ℕ} (f : Factorized R m) where
  -- of two states of a tree with one base state at most
  has_single : {t : Tree} → ((b c : ℕ) → Base R t b → Base R t c → b ≡ c) → (P : ℕ → Type 0) → ((p : ℕ) → SingleReach R P p)
      → {q r : ℕ} → Has R t q → Has R t r → P q → P r → q ≡ r
  has_single u P s {q} {r} h k x y =
      let (b, bh, bq) = base_of_has h in
      let (c, ch, cr) = base_of_has k in
      s b q r bq (rw (← u b c bh ch) at cr) x y

  pub base_unique : (t : Tree) (b c : ℕ) → Base R t b → Base R t c → b ≡ c
  base_unique (leaf a) b c (base_leaf x) (base_leaf y) = f.leaf_single a b c x y
  base_unique (join s t) b c (base_join {l = l} {r = r} h k x) (base_join {l = l'} {r = r'} h' k' y) =
      let el : l ≡ l' = has_single (base_unique s) (MayLeft m) f.single_left h h' (f.sorted l r b x).0 (f.sorted l' r' c y).0 in
      let er : r ≡ r' = has_single (base_unique t) (MayRight m) f.single_right k k' (f.sorted l r b x).1 (f.sorted l' r' c y).1 in
      f.join_single l' r' b c (subst₂ (λ u v. R (join_rule u v b)) el er x) y

  -- the states of a tree are those that its base state reaches
  pub has_from_base : (t : Tree) (b q : ℕ) → Base R t b → Has R t q ↔ Reach R b q
  has_from_base t b q h = (λ k. let (c, ch, cq) = base_of_has k in rw (base_unique t b c h ch) cq, has_reach (has_of_base h))
