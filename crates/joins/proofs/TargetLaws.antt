-- What looking up a join rule tells: one answer, and in a right index what a search down all the rules finds. Assumes nothing.
use Prim.Native.Nat.{ℕ, ◌+◌, ◌≤◌, ◌<◌}
use mathlib.Core.Path.{◌≡◌, refl, sym, ap, ◌∙◌}
use mathlib.Core.Logic.{◌⊎◌, inl, inr, by_cases}
use mathlib.Core.List.{List}
use native.Mathlib.Decide.{ℕ_discrete, dec_lt}
use native.Mathlib.Omega.{arith}
use Rattle.std.specs.Prelude.{Option, Some, None, unwrap_or}
use lib.ListN.{length}
use Rattle.paper.specs.Limits.{at, join_kind}
use Rattle.table.specs.Rules.{Row, RulesOf, join_rule}
use Rattle.table.proofs.Rows.{row_below}
use Rattle.joins.specs.Index.{JoinAt, Indexed}
use Rattle.joins.specs.Target.{InList, JoinOf, Finds, found, nothing}
use Rattle.joins.proofs.IndexLaws.{begins_rise}

same_target : {w : ℕ} {xs : List ℕ} {l r i j p q : ℕ}
    → i ≡ j → Row w xs i join_kind l r p → Row w xs j join_kind l r q → p ≡ q
same_target e x y = sym x.target ∙ rw e y.target

module _ {w : ℕ} {xs is : List ℕ} {l r : ℕ} where
  pub target_unique : {p q : Option ℕ} → Finds w xs is l r p → Finds w xs is l r q → p ≡ q
  target_unique (found {k} a b c) (found {k = j} d e f) = by_cases (dec_lt k j) (λ h. absurd (f k h a (_, b)))
      (λ h. by_cases (dec_lt j k) (λ m. absurd (c j m d (_, e))) (λ m. let z : k ≡ j = omega arith in ap Some (same_target (ap (at is) z) b e)))
  target_unique (found {k} a b c) (nothing d) = absurd (d k a (_, b))
  target_unique (nothing c) (found {k} a b d) = absurd (c k a (_, b))
  target_unique (nothing c) (nothing d) = refl

-- rule i is the first join rule of l and r among all rules, and its target is q
pub record FirstJoin (w : ℕ) (xs : List ℕ) (l r q i : ℕ) : Type 0 where
  pub row : Row w xs i join_kind l r q
  pub before : (j : ℕ) → j < i → ¬ JoinOf w xs j l r

module _ {w : ℕ} (positive : 0 < w) {xs : List ℕ} {n : ℕ} {is : List ℕ} (x : Indexed w xs n is) {l r : ℕ} where
  -- the place in the index of a join rule
  place : {i : ℕ} → l < n → JoinOf w xs i l r → (k : ℕ) × InList is l k × (at is k ≡ i)
  place {i} h (q, row) =
      let here : JoinAt w xs i l = record { inside = row.inside; kind = row.kind; left = row.left } in
      let (k, a, b, c) = (x.lists l h).all i (row_below positive (length xs) i row.inside) here in
      let short = begins_rise x (l + 1) n (omega arith) (omega arith) in
      (k, record { known = omega (arith, x.first); from = a; upto = b; inside = omega (arith, x.ends) }, c)

  -- the first join rule of the two states in the table is found, or there is none
  pub target_first : {none : ℕ} {o : Option ℕ} → l < n → Finds w xs is l r o
      → ((i : ℕ) × FirstJoin w xs l r (unwrap_or o none) i) ⊎ ((unwrap_or o none ≡ none) × ((i : ℕ) → ¬ JoinOf w xs i l r))
  target_first h (found {k} a b c) = inl (at is k, record { row = b; before = before })
    where
      before : (j : ℕ) → j < at is k → ¬ JoinOf w xs j l r
      before j m o =
          let (i, p, e) = place h o in
          by_cases (dec_lt i k) (λ z. c i z p (rw e o))
          (λ z. by_cases (ℕ_discrete i k) (λ s. let t = ap (at is) s in omega arith)
          (λ s. let t = (x.lists l h).rising k i a.from (omega arith) p.upto in omega arith))
  target_first h (nothing c) = inr (refl, λ i o. let (k, p, e) = place h o in c k p (rw e o))

  -- a join rule of the two states is found, if there is one
  pub target_of : {none : ℕ} {o : Option ℕ} → l < n → Finds w xs is l r o
      → RulesOf w xs (join_rule l r (unwrap_or o none)) ⊎ ((unwrap_or o none ≡ none) × ((p : ℕ) → ¬ RulesOf w xs (join_rule l r p)))
  target_of {none} h f = go (target_first {none = none} h f)
    where
      go : {none q : ℕ} → ((i : ℕ) × FirstJoin w xs l r q i) ⊎ ((q ≡ none) × ((i : ℕ) → ¬ JoinOf w xs i l r))
          → RulesOf w xs (join_rule l r q) ⊎ ((q ≡ none) × ((p : ℕ) → ¬ RulesOf w xs (join_rule l r p)))
      go (inl (i, y)) = inl (i, y.row)
      go (inr (e, d)) = inr (e, λ p (i, y). d i (p, y))

  -- a left state that is not below the states has no rule in the index
  pub target_beyond : {o : Option ℕ} → n ≤ l → Finds w xs is l r o → o ≡ None
  target_beyond h (found a b c) = absurd (omega (arith, a.known, x.first))
  target_beyond h (nothing c) = refl
