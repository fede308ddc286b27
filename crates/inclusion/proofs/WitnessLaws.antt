-- The end of the walk up: the nodes are a tree that has the failing pair's states, so a witness. Assumes nothing.
use Prim.Native.Nat.{ℕ, zero, suc, ◌+◌, ◌*◌, ◌-◌, ◌≤◌, ◌<◌}
use mathlib.Core.Path.{◌≡◌, refl, sym, ap, ◌∙◌, subst}
use mathlib.Core.Logic.{◌⊎◌, inl, inr, by_cases, ⊎_elim}
use mathlib.Core.List.{List}
use native.Mathlib.Decide.{ℕ_discrete, dec_lt}
use native.Mathlib.Omega.{arith}
use lib.ListN.{length, take}
use lib.Seq.{get_or-take, length-take-le}
use Rattle.paper.specs.Limits.{limits, at}
use Rattle.tree.specs.Tree.{leaf, join, leaf_mark, tree_at, tree_of}
use Rattle.tree.specs.Nodes.{BadNode}
use Rattle.tree.specs.Nodes as nodes
use Rattle.tree.proofs.TreeLaws.{tree_at_leaf, tree_at_join}
use Rattle.tree.proofs.Exact.{length_good}
use Rattle.table.specs.Rules.{Rule, RulesOf, Has, at_leaf, at_join, at_eps}
use Rattle.product.proofs.Factor.{Factorized}
use Rattle.product.proofs.Include.{Bounded, BaseOr, base_or_leaf, base_or_join, witness}
use Rattle.product.proofs.Tables.{bounded, factorized}
use Rattle.table.proofs.Range.{symbol_below}
use Rattle.pairs.specs.Memory.{Memory, Marked, end_at, memory, with_found}
use Rattle.pairs.specs.declared.Sizes.{Sizes}
use Rattle.pairs.specs.State.{code, eps_mark, Origin}
use Rattle.pairs.proofs.MemoryLaws.{size_of}
use Rattle.pairs.proofs.StateLaws.{code_split}
use Rattle.inclusion.specs.Inclusion.{Lent, AcceptedBy, Good, GoodReceiver, most_nodes, ChildOf, Witnessed}
use Rattle.inclusion.specs.Trace.{Uses, Traced, Failed}
use Rattle.inclusion.specs.Write.{Wanted, Wanting, Writable, Writes}
use Rattle.inclusion.proofs.TraceLaws.{state_traced, most_few}
use Rattle.inclusion.proofs.WantLaws.{same_size, wanting_length}
use Rattle.inclusion.proofs.WriteLaws.{Numbered, Nodes, Writing, numbered_keep}

-- node v of the list has the pair's states
record Fits (S B : Rule → Type 0) (n : ℕ) (ns : List ℕ) (v p q : ℕ) : Type 0 where
  pub has : Has S (tree_at ns v) p
  pub base : BaseOr B n (tree_at ns v) q

module _ {b N : ℕ} {m : Memory} {i k : ℕ} {ls ns : List ℕ} (t : Traced b N m (i + 1)) (wa : Wanted m i 0) (n : Nodes m ls ns k (i + 1)) where
  -- a part's node is its pair's node, or a child of it
  linked : (c a : ℕ) → c ≤ i → Marked m.found (at m.queue c) → Uses m (at m.queue c) (at m.queue a)
      → (at ls (at m.queue a) ≡ at ls (at m.queue c)) ⊎ ChildOf ns (at ls (at m.queue a)) (at ls (at m.queue c))
  linked c a h mk u =
      let x = n.numbered c (omega arith) mk in
      let lt = x.below in
      let ct = n.count in
      let fw = t.few in
      let sm = t.small in
      by_cases (dec_lt (at m.rights (at m.queue c)) eps_mark)
      (λ l.
      let (ex, ey, lx, ly) = x.as_join l in
      inr (⊎_elim
      (λ e. let z = ap (λ (y : ℕ). at ls y) e.1 in (omega arith, ((λ y. absurd (omega arith)), inl (ex ∙ sym z))))
      (λ e. let z = ap (λ (y : ℕ). at ls y) e.1 in (omega arith, ((λ y. absurd (omega arith)), inr (ey ∙ sym z))))
      u))
      (λ l. inl (⊎_elim
      (λ e. ap (λ (y : ℕ). at ls y) e.1 ∙ sym (x.as_eps (omega (arith, e.0))))
      (λ e. absurd (omega (arith, e.0)))
      u))

  -- going up from a pair that is needed ends at the root or at a join
  up : (d a : ℕ) → a ≤ i → i ≤ a + d → Marked m.found (at m.queue a)
      → (at ls (at m.queue a) ≡ at ls (at m.queue i)) ⊎ ((v : ℕ) × (v < k) × ChildOf ns (at ls (at m.queue a)) v)
  up zero a h l mk = inl (ap (λ (x : ℕ). at ls (at m.queue x)) (omega arith))
  up (suc d) a h l mk = by_cases (ℕ_discrete a i)
      (λ (e : a ≡ i). inl (ap (λ (x : ℕ). at ls (at m.queue x)) e))
      (λ e.
      let (c, x, y, z, u) = wa.used a (omega arith) mk in
      ⊎_elim
      (λ (s : at ls (at m.queue a) ≡ at ls (at m.queue c)). rw s (up d c y (omega arith) z))
      (λ s. inr (at ls (at m.queue c), (n.numbered c (omega arith) z).below, s))
      (linked c a y z u))

  -- the root is the last node, and every other node a child of a later one
  root_last : at ls (at m.queue i) + 1 ≡ k
  root_last =
      let l = (n.numbered i (omega arith) wa.root).below in
      let (a, h, mk, e, x) = n.owned (k - 1) (omega arith) in
      ⊎_elim
      (λ (s : at ls (at m.queue a) ≡ at ls (at m.queue i)). omega arith)
      (λ s. absurd (let (v, y, z) = s in omega (arith, z.0)))
      (up i a (omega arith) (omega arith) mk)

  children : (v : ℕ) → v + 1 < k → (u : ℕ) × (u < k) × ChildOf ns v u
  children v h =
      let (a, l, mk, e, x) = n.owned v (omega arith) in
      let r = root_last in
      ⊎_elim
      (λ (s : at ls (at m.queue a) ≡ at ls (at m.queue i)). absurd (omega arith))
      (λ s. rw e at s)
      (up i a (omega arith) (omega arith) mk)

  -- no node has a fault where the leaves' symbols have none
  good_node : (symbols : ℕ) → ((a : ℕ) → a ≤ i → at m.rights (at m.queue a) ≡ leaf_mark → at m.lefts (at m.queue a) < symbols)
      → (v : ℕ) → v < k → ¬ BadNode symbols ns v
  good_node symbols s v h bad =
      let (a, l, mk, e, d) = n.owned v h in
      let x = n.numbered a l mk in
      let lo = t.low a l in
      let ct = n.count in
      let fw = t.few in
      let sm = t.small in
      by_cases (dec_lt (at m.rights (at m.queue a)) eps_mark)
      (λ y.
      let (ex, ey, lx, ly) = rw e at (x.as_join y) in
      ⊎_elim (λ z. omega (arith, z.0)) (λ z. ⊎_elim (λ u. omega arith) (λ u. omega arith) z.1) bad)
      (λ y.
      let r : at m.rights (at m.queue a) ≡ leaf_mark = omega arith in
      let (ex, ey) = rw e at (x.as_leaf r) in
      let z = s a (omega arith) r in
      ⊎_elim (λ u. omega (arith, u.1)) (λ u. u.0 ey) bad)

  -- each node has the states of its pair
  module _ {S B : Rule → Type 0} {mB : List ℕ} {w : ℕ} (fc : Factorized B mB) (bd : Bounded B w)
      (org : (j p q : ℕ) → j < i + 1 → q ≤ w → at m.queue j ≡ code w p q
      → Origin S B w m.queue j (at m.lefts (code w p q)) (at m.rights (code w p q)) p q) where
    fits_one : (a p q : ℕ) → a ≤ i → q ≤ w → Marked m.found (code w p q) → at m.queue a ≡ code w p q
        → Numbered m ls ns k (code w p q) (at ls (code w p q))
        → ((c r s : ℕ) → c < a → s ≤ w → Marked m.found (code w r s) → at m.queue c ≡ code w r s → Fits S B w ns (at ls (code w r s)) r s)
        → Origin S B w m.queue a (at m.lefts (code w p q)) (at m.rights (code w p q)) p q
        → Fits S B w ns (at ls (code w p q)) p q
    fits_one a p q h hq mk e x ih (inl o) =
        let v = at ls (code w p q) in
        let (ex, ey) = x.as_leaf o.mark in
        let tr : tree_at ns v ≡ leaf (at m.lefts (code w p q)) = tree_at_leaf ns v ey ∙ ap leaf ex in
        record { has = rw tr (at_leaf o.rule); base = rw tr ((base_or_leaf fc bd).1 o.base) }
    fits_one a p q h hq mk e x ih (inr (inl o)) =
        let ma = wa.closed a (omega arith) h (rw e mk) (at m.lefts (code w p q)) (rw e (inl (omega (arith, o.mark), refl))) in
        let f = ih o.place o.state q o.earlier hq (rw (← o.pair) ma) (o.there ∙ o.pair) in
        let ev : at ls (code w p q) ≡ at ls (code w o.state q) = x.as_eps o.mark ∙ ap (λ (y : ℕ). at ls y) o.pair in
        record { has = rw ev (at_eps f.has o.rule); base = rw ev f.base }
    fits_one a p q h hq mk e x ih (inr (inr o)) =
        let v = at ls (code w p q) in
        let mu : Marked m.found (at m.queue a) = rw e mk in
        let ma = wa.closed a (omega arith) h mu (at m.lefts (code w p q)) (rw e (inl (omega (arith, o.mark), refl))) in
        let mb = wa.closed a (omega arith) h mu (at m.rights (code w p q)) (rw e (inr (o.mark, refl))) in
        let f = ih o.place o.left o.x o.earlier o.x_small (rw (← o.pair) ma) (o.there ∙ o.pair) in
        let g = ih o.place2 o.right o.y o.earlier2 o.y_small (rw (← o.pair2) mb) (o.there2 ∙ o.pair2) in
        let (ex, ey, lx, ly) = x.as_join o.mark in
        let tr : tree_at ns v ≡ join (tree_at ns (at ls (code w o.left o.x))) (tree_at ns (at ls (code w o.right o.y))) =
        tree_at_join ns v (λ y. omega (arith, x.below, n.count, t.few, t.small)) (omega arith) (omega arith) ∙ rw (ex, ey, o.pair, o.pair2) in
        record { has = rw tr (at_join f.has g.has o.rule); base = rw tr ((base_or_join fc bd f.base g.base).1 o.base) }

    fits : (d a p q : ℕ) → a < d → a ≤ i → q ≤ w → Marked m.found (code w p q) → at m.queue a ≡ code w p q
        → Fits S B w ns (at ls (code w p q)) p q
    fits zero a p q l h hq mk e = absurd (omega arith)
    fits (suc d) a p q l h hq mk e =
        fits_one a p q h hq mk e (rw e at (n.numbered a (omega arith) (rw e mk)))
        (λ c r s x. fits d c r s (omega arith) (omega arith)) (org a p q (omega arith) hq e)

-- the first nodes of the slice alone
nodes_take : {m : Memory} {ls : List ℕ} (ws : List ℕ) {k j : ℕ} → Nodes m ls ws k j → Nodes m ls (take (2 * k) ws) k j
nodes_take {ls = ls} ws {k} n = record {
  count = n.count;
  numbered = λ a h x. numbered_keep ls ls ws (take (2 * k) ws) (omega arith) (λ j l. get_or-take (2 * k) ws j 0 l) (λ d u. refl) (n.numbered a h x);
  owned = n.owned;
}

-- a leaf's symbol is one of the sender's
leaf_symbol : {A : Lent} {B : Rule → Type 0} {n j p q : ℕ} {u : List ℕ} {a b : ℕ} → Good limits A → b ≡ leaf_mark
    → Origin (RulesOf limits.width A.rules) B n u j a b p q → a < A.symbols
leaf_symbol s e (inl o) =
    let (x, r) = o.rule in
    let l = symbol_below limits (omega arith) s x r.inside r.kind in
    omega (arith, r.left)
leaf_symbol s e (inr (inl o)) = absurd (omega (arith, o.mark))
leaf_symbol s e (inr (inr o)) = absurd (omega (arith, o.mark))

-- the last node is the root
tree_root : (ns : List ℕ) (v : ℕ) → length ns ≡ 2 * (v + 1) → tree_of ns ≡ tree_at ns v
unfolding tree_of
tree_root ns v e = ap (λ (x : ℕ). tree_at ns x) (omega arith)

-- the nodes written are the witness
module _ {b N : ℕ} (m : Memory) (f : List ℕ) {m' : Memory} {ws ws' : List ℕ} {i k : ℕ} (t : Traced b N (with_found m f) (i + 1))
    (wa : Wanted (with_found m f) i 0) (w : Writing (with_found m f) m' ws ws' i k (i + 1)) (room : 2 * N ≤ length ws)
    (A B : Lent) (sA : Good limits A) (sB : GoodReceiver limits B) (eN : N ≡ most_nodes A B)
    (fl : Failed (RulesOf limits.width A.rules) (RulesOf limits.width B.rules) A.marks B.marks (length B.marks) N m i) where
  list_long : length (take (2 * k) ws') ≡ 2 * k
  list_long = length-take-le (2 * k) ws' (omega (arith, w.size, w.nodes.count, t.few))

  leaf_below : (a : ℕ) → a ≤ i → at m.rights (at m.queue a) ≡ leaf_mark → at m.lefts (at m.queue a) < A.symbols
  leaf_below a h e =
      let (hq, c) = code_split (length B.marks) (at m.queue a) in
      subst (λ (x : ℕ). at m.lefts x < A.symbols) (sym c)
      (leaf_symbol sA (ap (λ (x : ℕ). at m.rights x) (sym c) ∙ e) (fl.state.origin a _ _ (let x = fl.inside in omega arith) hq c))

  list_sound : nodes.Sound limits A.symbols (take (2 * k) ws')
  list_sound =
      let n = nodes_take ws' w.nodes in
      let l = list_long in
      let r = root_last t wa n in
      let mf = most_few A B sA sB.0 in
      record {
        length_good_of = length_good limits (take (2 * k) ws') (λ x. omega arith) (λ x. omega arith) (omega (arith, n.count, t.few));
        nodes_good = λ v h. good_node t wa n A.symbols leaf_below v (omega arith);
      }

  list_judged : AcceptedBy limits A (tree_of (take (2 * k) ws')) × ¬ AcceptedBy limits B (tree_of (take (2 * k) ws'))
  list_judged =
      let n = nodes_take ws' w.nodes in
      let l = list_long in
      let fc = factorized limits (omega arith) sB.0 sB.1 in
      let bd = bounded limits (omega arith) sB.0 in
      let r : at m'.lefts (code (length B.marks) fl.p fl.q) + 1 ≡ k = rw fl.pair at (root_last t wa n) in
      let x = fits t wa n fc bd (λ j p q h. fl.state.origin j p q (let y = fl.inside in omega arith)) (suc i) i fl.p fl.q
      (omega arith) (omega arith) fl.q_small (rw fl.pair at wa.root) fl.pair in
      rw (tree_root (take (2 * k) ws') (at m'.lefts (code (length B.marks) fl.p fl.q)) (omega arith))
      (witness fc bd (omega arith) x.has x.base fl.final fl.no_end_of)

  witnessed : Witnessed limits A B ws ws' k
  witnessed =
      let n = nodes_take ws' w.nodes in
      record {
        few = omega (arith, n.count, t.few);
        inside = omega (arith, w.size, w.nodes.count, t.few);
        size = w.size;
        rest = w.rest;
        tree = list_sound;
        children = children t wa n;
        accepted = list_judged.0;
        rejected = list_judged.1;
      }

-- both walks done
pub writes_all : {z : Sizes} {W W₂ ws ws' : List ℕ} (W₁ : List ℕ) {i k j : ℕ} → Writable z W ws i
    → Wanting z.base z.pairs (memory z.base z.pairs W) (memory z.base z.pairs W₁) i 0
    → Writing (memory z.base z.pairs W₁) (memory z.base z.pairs W₂) ws ws' i k j → j ≡ i + 1 → Writes z W W₂ ws ws' i k
writes_all {z} {W} {W₂} {ws} {ws'} W₁ {i} {k} c v w e =
    let b = z.base in
    let N = z.pairs in
    let (t, wa, wr) = subst (λ (x : Memory). Traced b N x (i + 1) × Wanted x i 0 × Writing x (memory b N W₂) ws ws' i k (i + 1)) v.same
    (v.traced, v.wanted, rw e at w) in
    record {
      work_size = same_size b N W₁ W₂ (ap (λ (x : Memory). x.size) w.same) ∙ wanting_length W W₁ v;
      size = w.size;
      witnessed = witnessed (memory b N W) (memory b N W₁).found t wa wr c.room;
    }

-- where the search failed, the witness can be written
pub writable : {S B : Rule → Type 0} {mS mB : List ℕ} {n i : ℕ} {z : Sizes} {W ws : List ℕ} (T U : Lent) → Good limits T → Good limits U
    → z.pairs ≡ most_nodes T U → end_at z.base z.pairs ≤ length W → 2 * z.pairs ≤ length ws
    → Failed S B mS mB n z.pairs (memory z.base z.pairs W) i → Writable z W ws i
writable {i = i} {z} {W} T U s r e h l f = record {
  traced = state_traced f.state (rw (size_of z.base z.pairs W) h) (let x = most_few T U s r in omega arith) i f.inside;
  room = l;
}
