-- The inclusion test: sender S with marks mS, deterministic factorized receiver B with marks m and states below n. The product works on
-- pairs (p, q), q the receiver's base state, or n where it has none. Assumes nothing.
use Prim.Native.Nat.{ℕ, ◌≤◌, ◌<◌}
use mathlib.Core.Path.{◌≡◌, refl, sym, ◌∙◌, subst₂}
use mathlib.Core.Logic.{◌↔◌, ◌⊎◌, inl, inr}
use mathlib.Core.List.{List}
use native.Mathlib.Omega.{arith}
use lib.ListN.{length, get_or-eq_default}
use Rattle.paper.specs.Limits.{at}
use Rattle.tree.specs.Tree.{Tree, leaf, join}
use Rattle.table.specs.Rules.{Rule, leaf_rule, join_rule, eps_rule, Reach, here, step, Has, at_leaf, at_join, at_eps, Final, Accepts}
use Rattle.table.proofs.Evaluate.{Base, base_leaf, base_join, has_reach, has_of_base, base_of_has}
use Rattle.receiver.specs.Receiver.{MayLeft, MayRight}
use Rattle.receiver.specs.Numbers.{OneOf, Ends}
use Rattle.product.specs.Moves.{Move, LeafTo, JoinTo}
use Rattle.product.proofs.Factor.{SingleReach, Factorized, has_from_base}

-- the rules name only states below n
pub record Bounded (R : Rule → Type 0) (n : ℕ) : Type 0 where
  pub leaf_to : (a q : ℕ) → R (leaf_rule a q) → q < n
  pub join_from : (l r q : ℕ) → R (join_rule l r q) → (l < n) × (r < n) × (q < n)
  pub eps_from : (p q : ℕ) → R (eps_rule p q) → (p < n) × (q < n)

-- q is the base state of the tree, or n if it has none
abbrev pub BaseOr : (Rule → Type 0) → ℕ → Tree → ℕ → Type 0
BaseOr R n t q = Base R t q ⊎ ((q ≡ n) × ((b : ℕ) → ¬ Base R t b))

-- W has each pair of sender state and receiver's base state that one rule more gives
pub record Closed (S B : Rule → Type 0) (n : ℕ) (W : ℕ → ℕ → Type 0) : Type 0 where
  pub leaves : (a p q : ℕ) → S (leaf_rule a p) → LeafTo B n a q → W p q
  pub joins : (l r p x y q : ℕ) → S (join_rule l r p) → W l x → W r y → JoinTo B n x y q → W p q
  pub eps : (p r q : ℕ) → S (eps_rule p r) → W p q → W r q

either_unique : {P : ℕ → Type 0} {n q r : ℕ} → ((q r : ℕ) → P q → P r → q ≡ r)
    → P q ⊎ ((q ≡ n) × ((b : ℕ) → ¬ P b)) → P r ⊎ ((r ≡ n) × ((b : ℕ) → ¬ P b)) → q ≡ r
either_unique {q = q} {r = r} u (inl x) (inl y) = u q r x y
either_unique {q = q} {r = r} u (inl x) (inr y) = absurd (y.1 q x)
either_unique {q = q} {r = r} u (inr x) (inl y) = absurd (x.1 r y)
either_unique u (inr x) (inr y) = x.0 ∙ sym y.0

-- reach from the sink is the sink alone
sink_reach : {R : Rule → Type 0} {n q : ℕ} → Bounded R n → Reach R n q → q ≡ n
sink_reach b here = refl
sink_reach {n} b (step {q = p} {r = q} h e) = absurd (let i = sink_reach b h in let k = b.eps_from p q e in omega arith)

sink_move_left : {R : Rule → Type 0} {n y q : ℕ} → Bounded R n → ¬ Move R n y q
sink_move_left {q} b m = let e = sink_reach b m.from_x in let k = b.join_from m.left m.right q m.rule in omega arith

sink_move_right : {R : Rule → Type 0} {n x q : ℕ} → Bounded R n → ¬ Move R x n q
sink_move_right {q} b m = let e = sink_reach b m.from_y in let k = b.join_from m.left m.right q m.rule in omega arith

module _ {B : Rule → Type 0} {m : List ℕ} {n : ℕ} (f : Factorized B m) (bd : Bounded B n) where
  pub move_unique : (x y q r : ℕ) → Move B x y q → Move B x y r → q ≡ r
  move_unique x y q r u v =
      let su = f.sorted u.left u.right q u.rule in
      let sv = f.sorted v.left v.right r v.rule in
      let el = f.single_left x u.left v.left u.from_x v.from_x su.0 sv.0 in
      let er = f.single_right y u.right v.right u.from_y v.from_y su.1 sv.1 in
      f.join_single v.left v.right q r (subst₂ (λ l k. B (join_rule l k q)) el er u.rule) v.rule

  -- the receiver's step as it is computed: the left state that x reaches, the right state that y reaches, and their join rule
  pub join_to_of : (x y l r q : ℕ) → OneOf B n (MayLeft m) x l → OneOf B n (MayRight m) y r
      → B (join_rule l r q) ⊎ ((q ≡ n) × ((b : ℕ) → ¬ B (join_rule l r b))) → JoinTo B n x y q
  join_to_of x y l r q u v (inl e) =
      let b = bd.join_from l r q e in
      inl (record { left = l; right = r; from_x = reach u b.0; from_y = reach v b.1; rule = e })
    where
      reach : {P : ℕ → Type 0} {x l : ℕ} → OneOf B n P x l → l < n → Reach B x l
      reach (inl h) k = h.0
      reach (inr h) k = absurd (let e = h.0 in omega arith)
  join_to_of x y l r q u v (inr d) = inr (
    d.0,
    λ b k.
        let s = f.sorted k.left k.right b k.rule in
        d.1 b (subst₂ (λ i j. B (join_rule i j b)) (same u (f.single_left x) k.from_x s.0) (same v (f.single_right y) k.from_y s.1) k.rule),
  )
    where
      same : {P : ℕ → Type 0} {x l i : ℕ} → OneOf B n P x l → SingleReach B P x → Reach B x i → P i → i ≡ l
      same {l = l} {i = i} (inl h) s k e = s i l k h.0 e h.1
      same {i = i} (inr h) s k e = absurd (h.1 i k e)

  -- the receiver's step is a function
  pub join_to_unique : (x y q r : ℕ) → JoinTo B n x y q → JoinTo B n x y r → q ≡ r
  join_to_unique x y q r = either_unique (move_unique x y)

  pub leaf_to_unique : (a q r : ℕ) → LeafTo B n a q → LeafTo B n a r → q ≡ r
  leaf_to_unique a q r = either_unique (f.leaf_single a)

  -- whatever state a tree has is reached from its base state
  pub reach_of_has : {t : Tree} {x q : ℕ} → BaseOr B n t x → Has B t q → Reach B x q
  reach_of_has {t} {x} {q} (inl h) k = (has_from_base f t x q h).0 k
  reach_of_has (inr h) k = let (c, ch, _) = base_of_has k in absurd (h.1 c ch)

  -- where x and y are the base states, or n, of s and t, a move from them is a base state of the join
  move_iff : {s t : Tree} {x y b : ℕ} → BaseOr B n s x → BaseOr B n t y → Move B x y b ↔ Base B (join s t) b
  move_iff {s} {t} {x} {y} {b} u v = (to u v, from)
    where
      to : BaseOr B n s x → BaseOr B n t y → Move B x y b → Base B (join s t) b
      to (inl h) (inl k) m = base_join (has_reach (has_of_base h) m.from_x) (has_reach (has_of_base k) m.from_y) m.rule
      to (inl h) (inr k) m = absurd (sink_move_right bd (rw k.0 at m))
      to (inr h) k m = absurd (sink_move_left bd (rw h.0 at m))

      from : Base B (join s t) b → Move B x y b
      from (base_join {l = l} {r = r} h k e) = record { left = l; right = r; from_x = reach_of_has u h; from_y = reach_of_has v k; rule = e }

  -- the base state, or n, of a join is what its parts' give
  pub base_or_join : {s t : Tree} {x y q : ℕ} → BaseOr B n s x → BaseOr B n t y → BaseOr B n (join s t) q ↔ JoinTo B n x y q
  base_or_join {s} {t} {x} {y} {q} u v = (to, from)
    where
      to : BaseOr B n (join s t) q → JoinTo B n x y q
      to (inl h) = inl ((move_iff u v).1 h)
      to (inr h) = inr (h.0, λ b m. h.1 b ((move_iff u v).0 m))

      from : JoinTo B n x y q → BaseOr B n (join s t) q
      from (inl m) = inl ((move_iff u v).0 m)
      from (inr h) = inr (h.0, λ b k. h.1 b ((move_iff u v).1 k))

  pub base_or_leaf : {a q : ℕ} → BaseOr B n (leaf a) q ↔ LeafTo B n a q
  base_or_leaf {a} {q} = (to, from)
    where
      inv : {b : ℕ} → Base B (leaf a) b → B (leaf_rule a b)
      inv (base_leaf e) = e

      to : BaseOr B n (leaf a) q → LeafTo B n a q
      to (inl h) = inl (inv h)
      to (inr h) = inr (h.0, λ b e. h.1 b (base_leaf e))

      from : LeafTo B n a q → BaseOr B n (leaf a) q
      from (inl e) = inl (base_leaf e)
      from (inr h) = inr (h.0, λ b k. h.1 b (inv k))

  -- a tree is accepted exactly if its base state reaches a final state
  pub accepts_iff : length m ≤ n → {t : Tree} {q : ℕ} → BaseOr B n t q → Accepts B m t ↔ Ends B m q
  accepts_iff lm {t} {q} u = (λ a. record { state = a.state; reached = reach_of_has u a.has; final = a.final }, λ e. from u e)
    where
      from : BaseOr B n t q → Ends B m q → Accepts B m t
      from (inl h) e = record { state = e.state; final = e.final; has = has_reach (has_of_base h) e.reached }
      from (inr h) e =
          let i : e.state ≡ n = sink_reach bd (rw h.0 at e.reached) in
          let z : at m e.state ≡ 0 = get_or-eq_default m 0 (omega arith) in
          absurd (omega (arith, e.final))

  -- where a leaf and a join each have a base state or provably none, so has every tree
  module _ (the_leaf_to : (a : ℕ) → (q : ℕ) × LeafTo B n a q) (the_join_to : (x y : ℕ) → (q : ℕ) × JoinTo B n x y q) where
    pub base_or_total : (t : Tree) → (q : ℕ) × BaseOr B n t q
    base_or_total (leaf a) = let (q, h) = the_leaf_to a in (q, base_or_leaf.1 h)
    base_or_total (join s t) =
        let (x, u) = base_or_total s in
        let (y, v) = base_or_total t in
        let (q, h) = the_join_to x y in
        (q, (base_or_join u v).1 h)

    module _ {S : Rule → Type 0} {W : ℕ → ℕ → Type 0} (c : Closed S B n W) where
      -- a closed set has every pair that a tree gives
      pub closed_all : {t : Tree} {p q : ℕ} → Has S t p → BaseOr B n t q → W p q
      closed_all {q} (at_leaf {a = a} {q = p} e) u = c.leaves a p q e (base_or_leaf.0 u)
      closed_all {q} (at_join {s = s} {t = t} {l = l} {r = r} {q = p} h k e) u =
          let (x, v) = base_or_total s in
          let (y, w) = base_or_total t in
          c.joins l r p x y q e (closed_all h v) (closed_all k w) ((base_or_join v w).0 u)
      closed_all {q} (at_eps {p = p} {q = r} h e) u = c.eps p r q e (closed_all h u)

      -- the answer "included": each pair of the set with a final sender state reaches a final receiver state
      pub included : {mS : List ℕ} → length m ≤ n → ((p q : ℕ) → W p q → Final mS p → Ends B m q)
          → (t : Tree) → Accepts S mS t → Accepts B m t
      included lm g t a =
          let (q, u) = base_or_total t in
          (accepts_iff lm u).1 (g a.state q (closed_all a.has u) a.final)

  -- the answer "witness": a tree with a final sender state whose receiver's base state reaches no final state
  pub witness : {S : Rule → Type 0} {mS : List ℕ} {t : Tree} {p q : ℕ} → length m ≤ n
      → Has S t p → BaseOr B n t q → Final mS p → ¬ Ends B m q → Accepts S mS t × ¬ Accepts B m t
  witness {p = p} lm h u e d = (record { state = p; final = e; has = h }, λ a. d ((accepts_iff lm u).0 a))
