-- One node evaluated more: its set is the states that its tree has. And what the last node's set says. Assumes nothing.
use Prim.Native.Nat.{ℕ, ◌+◌, ◌*◌, ◌≤◌, ◌<◌}
use mathlib.Core.Path.{◌≡◌, refl, sym, ◌∙◌}
use mathlib.Core.Logic.{◌≢◌, ⊎_elim, by_cases}
use mathlib.Core.List.{List}
use native.Mathlib.Decide.{ℕ_discrete, dec_lt}
use native.Mathlib.Omega.{arith}
use lib.ListN.{length, get_or-eq_default}
use Rattle.paper.specs.Limits.{at}
use Rattle.tree.specs.Tree.{Tree, leaf, join, leaf_mark, tree_at}
use Rattle.tree.proofs.TreeLaws.{tree_at_leaf, tree_at_join}
use Rattle.table.specs.Rules.{RulesOf, Has, at_leaf, at_join, at_eps, Final, Accepts}
use Rattle.table.proofs.Evaluate.{Base, base_leaf, base_join, base_of_has, has_of_base, has_reach}
use Rattle.accept.specs.Work.{state, In, StatesBelow, Earlier, Fits, fits_leaf, fits_join, Gathered, Closed, Settled, HasFinal}

leaf_not_join : {a : ℕ} {s t : Tree} → leaf a ≡ join s t → ⊥
leaf_not_join e = let z : ◌≡◌ {A = ℕ} 0 1 = cc in omega arith

module _ (b w : ℕ) (xs ns : List ℕ) (below : StatesBelow w xs b) where
  pub has_below : {t : Tree} {q : ℕ} → Has (RulesOf w xs) t q → q < b
  has_below (at_leaf (k, x)) = rw x.target at (below.to k x.inside)
  has_below (at_join _ _ (k, x)) = rw x.target at (below.to k x.inside)
  has_below (at_eps _ (k, x)) = rw x.target at (below.to k x.inside)

  -- the rules that fit a node are those whose targets its tree has before any ε step
  module _ (i : ℕ) (s : List ℕ) (e : Earlier ns i) (g : Settled b (RulesOf w xs) ns s i) where
    base_of_fits : (k : ℕ) → k * w + w ≤ length xs → Fits b w xs k ns i s → Base (RulesOf w xs) (tree_at ns i) (at xs (k * w + 3))
    base_of_fits k l (fits_leaf m c d) =
        rw (tree_at_leaf ns i m)
        (base_leaf (k, record { inside = l; kind = c; left = d; right = below.third k l (λ z. omega arith); target = refl }))
    base_of_fits k l (fits_join m c x y) =
        let (o, p) = e m in
        let (q, r) = below.joins k l c in
        rw (tree_at_join ns i m o p)
        (base_join (g.sound _ _ o q x) (g.sound _ _ p r y) (k, record { inside = l; kind = c; left = refl; right = refl; target = refl }))

    fits_of_base : {t : Tree} {q : ℕ} → t ≡ tree_at ns i → Base (RulesOf w xs) t q
        → (k : ℕ) × (k * w + w ≤ length xs) × Fits b w xs k ns i s × (at xs (k * w + 3) ≡ q)
    fits_of_base z (base_leaf {a = a} (k, x)) = by_cases (ℕ_discrete (at ns (2 * i + 1)) leaf_mark)
        (λ m.
        let y : leaf a ≡ leaf (at ns (2 * i)) = z ∙ tree_at_leaf ns i m in
        let f : a ≡ at ns (2 * i) = cc in
        (k, x.inside, fits_leaf m x.kind (x.left ∙ f), x.target))
        (λ m. absurd (leaf_not_join (z ∙ tree_at_join ns i m (e m).0 (e m).1)))
    fits_of_base z (base_join {s = u} {t = v} {l = l} {r = r} h j (k, x)) = by_cases (ℕ_discrete (at ns (2 * i + 1)) leaf_mark)
        (λ m. absurd (leaf_not_join (sym (z ∙ tree_at_leaf ns i m))))
        (λ m.
        let (o, p) = e m in
        let y : join u v ≡ join (tree_at ns (at ns (2 * i))) (tree_at ns (at ns (2 * i + 1))) = z ∙ tree_at_join ns i m o p in
        let f : u ≡ tree_at ns (at ns (2 * i)) = cc in
        let d : v ≡ tree_at ns (at ns (2 * i + 1)) = cc in
        (k, x.inside, fits_join m x.kind (rw x.left (g.complete _ l o (rw f at h))) (rw x.right (g.complete _ r p (rw d at j))), x.target))

    module _ (t u : List ℕ) (x : Gathered b w xs (λ k. k * w + w ≤ length xs) ns i s t) (y : Closed b (RulesOf w xs) t i u) where
      kept : (j q : ℕ) → q < b → j ≢ i → state b u j q ≡ state b s j q
      kept j q h d = y.grown.nodes j q h d ∙ x.grown.nodes j q h d

      sound_here : (q : ℕ) → q < b → In b u i q → Has (RulesOf w xs) (tree_at ns i) q
      sound_here q h z =
          let (p, l, m, r) = y.only q h z in
          ⊎_elim
          (λ o. let f = g.empty i p (omega arith) l in absurd (omega arith))
          (λ (k, o, f, d). has_reach (has_of_base (rw d at (base_of_fits k o f))) r)
          (x.only p l m)

      complete_here : (q : ℕ) → Has (RulesOf w xs) (tree_at ns i) q → In b u i q
      complete_here q z =
          let (p, c, r) = base_of_has z in
          let (k, o, f, d) = fits_of_base refl c in
          y.all p q (has_below (has_of_base c)) (rw d at (x.all k o f)) r

      pub settled_next : Settled b (RulesOf w xs) ns u (i + 1)
      settled_next = record {
        sound = λ j q h l z. by_cases (ℕ_discrete j i)
            (λ d. rw d (sound_here q l (rw d at z)))
            (λ d. g.sound j q (omega arith) l (sym (kept j q l d) ∙ z));
        complete = λ j q h z. by_cases (ℕ_discrete j i)
            (λ d. rw d (complete_here q (rw d at z)))
            (λ d. kept j q (has_below z) d ∙ g.complete j q (omega arith) z);
        empty = λ j q h l. kept j q l (λ d. omega arith) ∙ g.empty j q (omega arith) l;
      }

  -- an evaluated node's tree is accepted exactly if a final state is in its set
  module _ (ms s : List ℕ) (n i : ℕ) (g : Settled b (RulesOf w xs) ns s n) (h : i < n) where
    pub accepts_of_final : length ms ≤ b → HasFinal b ms s i → Accepts (RulesOf w xs) ms (tree_at ns i)
    accepts_of_final m (q, l, (f, x)) = record { state = q; final = f; has = g.sound i q h (omega arith) x }

    pub final_of_accepts : Accepts (RulesOf w xs) ms (tree_at ns i) → HasFinal b ms s i
    final_of_accepts a = (a.state, inside a.state a.final, (a.final, g.complete i a.state h a.has))
      where
        inside : (q : ℕ) → Final ms q → q < length ms
        inside q f = by_cases (dec_lt q (length ms)) (λ l. l) (λ l. let z = get_or-eq_default ms 0 {n = q} (omega arith) in absurd (omega arith))
