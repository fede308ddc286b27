-- A table that has no fault names its own states alone, and one that also passes 7 to 9 is a deterministic factorized automaton; so a
-- closed set of pairs of two such tables decides inclusion. Assumes nothing.
use Prim.Native.Nat.{ℕ, ◌+◌, ◌*◌, ◌<◌, ◌≤◌}
use mathlib.Core.Path.{◌≡◌, refl, sym, ◌∙◌}
use mathlib.Core.Logic.{◌≢◌, ◌⊎◌, inl, inr, by_cases}
use mathlib.Core.List.{List}
use native.Mathlib.Decide.{ℕ_discrete, dec_lt}
use native.Mathlib.Omega.{arith}
use lib.ListN.{length}
use Rattle.paper.specs.Limits.{Limits, at, leaf_kind, join_kind, eps_kind}
use Rattle.tree.specs.Tree.{Tree}
use Rattle.paper.specs.Tests.{dec_or}
use Rattle.table.specs.Rules.{Rule, Row, RulesOf, Reach, here, step, Final, Accepts, sort_of, left_sort, right_sort, both_sort}
use Rattle.table.specs.Check.{Sound}
use Rattle.table.proofs.Rows.{row_below}
use Rattle.table.proofs.Range.{to_below, from_below, right_below}
use Rattle.receiver.specs.Receiver.{MayLeft, MayRight, Receives}
use Rattle.receiver.specs.Numbers.{Ends}
use Rattle.product.specs.Moves.{LeafTo, JoinTo}
use Rattle.product.proofs.Factor.{SingleReach, Factorized}
use Rattle.product.proofs.Include.{Bounded, Closed, included}
use Rattle.product.proofs.Decide.{dec_rule, the_leaf_to, the_join_to}

module _ (L : Limits) (wide : 0 < L.width) where
  module _ {symbols : ℕ} {ms xs : List ℕ} (s : Sound L symbols ms xs) where
    -- the rules of a table without a fault name its states alone
    pub bounded : Bounded (RulesOf L.width xs) (length ms)
    bounded = record {
      leaf_to = λ a q x. let (i, r) = x in let t = to_below L wide s i r.inside in omega (arith, r.target);
      join_from = λ a b q x.
          let (i, r) = x in
          let t = to_below L wide s i r.inside in
          let u = from_below L wide s i r.inside (omega (arith, r.kind)) in
          let v = right_below L wide s i r.inside r.kind in
          (omega (arith, r.left), omega (arith, r.right), omega (arith, r.target));
      eps_from = λ p q x.
          let (i, r) = x in
          let t = to_below L wide s i r.inside in
          let u = from_below L wide s i r.inside (omega (arith, r.kind)) in
          (omega (arith, r.left), omega (arith, r.target));
    }

    -- a state that no rule names reaches itself alone
    pub outside : {p q : ℕ} → length ms ≤ p → Reach (RulesOf L.width xs) p q → q ≡ p
    outside h here = refl
    outside {p} h (step {q = q} {r = r} k e) = let i : q ≡ p = outside h k in let l = bounded.eps_from q r e in absurd (omega arith)

    module _ (c : Receives L ms xs) where
      -- two rows with one left side are one row
      same_row : (i j k a b p q : ℕ) → k ≢ eps_kind → Row L.width xs i k a b p → Row L.width xs j k a b q → p ≡ q
      same_row i j k a b p q d r t = by_cases (ℕ_discrete i j)
          (λ e. cc)
          (λ e. by_cases (dec_lt j i)
          (λ l. absurd (c.left_sides_of i (row_below wide (length xs) i r.inside)
          ((λ z. d (sym r.kind ∙ z)), (j, l, ((t.kind ∙ sym r.kind), ((t.left ∙ sym r.left), (t.right ∙ sym r.right)))))))
          (λ l. absurd (c.left_sides_of j (row_below wide (length xs) j t.inside)
          ((λ z. d (sym t.kind ∙ z)), (i, omega arith, ((r.kind ∙ sym t.kind), ((r.left ∙ sym t.left), (r.right ∙ sym t.right))))))))

      single_of : (P : ℕ → Type 0) (p : ℕ)
          → ((q r : ℕ) → q ≢ r → P q → P r → Reach (RulesOf L.width xs) p q → ¬ Reach (RulesOf L.width xs) p r)
          → SingleReach (RulesOf L.width xs) P p
      single_of P p h q r a b x y = by_cases (ℕ_discrete q r) (λ e. e) (λ d. absurd (h q r d x y a b))

      alone : (P : ℕ → Type 0) (p : ℕ) → length ms ≤ p → SingleReach (RulesOf L.width xs) P p
      alone P p l q r h k x y = outside l h ∙ sym (outside l k)

      sorted_row : (l r q i : ℕ) → Row L.width xs i join_kind l r q → MayLeft ms l × MayRight ms r
      sorted_row l r q i y =
          let h = row_below wide (length xs) i y.inside in
          let sorts : ¬ ((¬ MayLeft ms l) ⊎ (¬ MayRight ms r)) = λ z. c.sorts i h (y.kind, rw (y.left, y.right) z) in (
            by_cases (dec_or (ℕ_discrete (sort_of (at ms l)) left_sort) (ℕ_discrete (sort_of (at ms l)) both_sort)) (λ e. e) (λ d. absurd (sorts (inl d))),
            by_cases (dec_or (ℕ_discrete (sort_of (at ms r)) right_sort) (ℕ_discrete (sort_of (at ms r)) both_sort)) (λ e. e) (λ d. absurd (sorts (inr d))),
          )

      pub factorized : Factorized (RulesOf L.width xs) ms
      factorized = record {
        leaf_single = λ a p q x y. same_row x.0 y.0 leaf_kind a 0 p q (omega arith) x.1 y.1;
        join_single = λ l r p q x y. same_row x.0 y.0 join_kind l r p q (omega arith) x.1 y.1;
        sorted = λ l r q x. sorted_row l r q x.0 x.1;
        single_left = λ p. by_cases (dec_lt p (length ms))
            (λ d. single_of (MayLeft ms) p (λ q r e x y h k. c.single p d (inl (q, r, e, (x, (y, (h, k)))))))
            (λ d. alone (MayLeft ms) p (omega arith));
        single_right = λ p. by_cases (dec_lt p (length ms))
            (λ d. single_of (MayRight ms) p (λ q r e x y h k. c.single p d (inr (q, r, e, (x, (y, (h, k)))))))
            (λ d. alone (MayRight ms) p (omega arith));
      }

-- W is closed, row by row of the sender's table
pub record ClosedRows (w : ℕ) (xs : List ℕ) (B : Rule → Type 0) (n : ℕ) (W : ℕ → ℕ → Type 0) : Type 0 where
  pub leaves : (i : ℕ) → i * w + w ≤ length xs → at xs (i * w) ≡ leaf_kind → (q : ℕ) → LeafTo B n (at xs (i * w + 1)) q
      → W (at xs (i * w + 3)) q
  pub joins : (i : ℕ) → i * w + w ≤ length xs → at xs (i * w) ≡ join_kind → (x y q : ℕ)
      → W (at xs (i * w + 1)) x → W (at xs (i * w + 2)) y → JoinTo B n x y q → W (at xs (i * w + 3)) q
  pub eps : (i : ℕ) → i * w + w ≤ length xs → at xs (i * w) ≡ eps_kind → (q : ℕ) → W (at xs (i * w + 1)) q → W (at xs (i * w + 3)) q

pub closed_of_rows : {w : ℕ} {xs : List ℕ} {B : Rule → Type 0} {n : ℕ} {W : ℕ → ℕ → Type 0} → ClosedRows w xs B n W
    → Closed (RulesOf w xs) B n W
closed_of_rows c = record {
  leaves = λ a p q (i, r) h. rw r.target at (c.leaves i r.inside r.kind q (rw r.left h));
  joins = λ a b p x y q (i, r) h k j. rw r.target at (c.joins i r.inside r.kind x y q (rw r.left h) (rw r.right k) j);
  eps = λ p r q (i, x) h. rw x.target at (c.eps i x.inside x.kind q (rw x.left h));
}

-- the answer "included" of two tables: W is the set of pairs found, closed, and each with a final sender state ends
pub tables_included : (L : Limits) → 0 < L.width → {symbols : ℕ} (mS xS mB xB : List ℕ) → Sound L symbols mB xB → Receives L mB xB
    → (W : ℕ → ℕ → Type 0) → Closed (RulesOf L.width xS) (RulesOf L.width xB) (length mB) W
    → ((p q : ℕ) → W p q → Final mS p → Ends (RulesOf L.width xB) mB q)
    → (t : Tree) → Accepts (RulesOf L.width xS) mS t → Accepts (RulesOf L.width xB) mB t
tables_included L h mS xS mB xB s c W cl g t =
    let b = bounded L h s in
    let d = dec_rule L.width xB h in
    included (factorized L h s c) b (the_leaf_to _ _ b d) (the_join_to _ _ b d) cl (omega arith) g t
