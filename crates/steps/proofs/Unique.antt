-- The steps have one result: two work slices and counts that one step allows are equal. Assumes nothing.
use Prim.Native.Nat.{ℕ, zero, suc, ◌/◌}
use mathlib.Core.Path.{◌≡◌, refl, subst, subst₂}
use mathlib.Core.Logic.{inl, inr}
use mathlib.Core.List.{List}
use native.Mathlib.Omega.{arith}
use lib.ListN.{length}
use Rattle.paper.specs.Limits.{Limits}
use Rattle.pairs.specs.declared.Pair.{Pair}
use Rattle.paper.specs.declared.RuleRow.{RuleRow}
use Rattle.pairs.specs.declared.Sizes.{Sizes}
use Rattle.pairs.specs.Work.{Added}
use Rattle.pairs.proofs.Unique.{place_unique, added_unique}
use Rattle.moves.proofs.Unique.{leaf_unique, step_unique}
use Rattle.steps.specs.Runs.{When, does, skips, With, chooses, Then, follows, Times, none, more, row_at, LeafStep, Leaves, EpsSteps, Closing, ends, goes, JoinStep, RowSteps, Joins}

-- two results of a step are equal
abbrev pub Single : (List ℕ → ℕ → List ℕ → ℕ → Type 0) → Type 0
Single R = (ws : List ℕ) (k : ℕ) (us vs : List ℕ) (d e : ℕ) → R ws k us d → R ws k vs e → (us ≡ vs) × (d ≡ e)

when_single : {C : List ℕ → Type 0} {R : List ℕ → ℕ → List ℕ → ℕ → Type 0} → Single R → Single (When C R)
when_single s ws k us vs d e (does c r) (does b t) = s ws k us vs d e r t
when_single s ws k us vs d e (does c r) (skips n) = absurd (n c)
when_single s ws k us vs d e (skips n) (does c r) = absurd (n c)
when_single s ws k us vs d e (skips n) (skips m) = (refl, refl)

with_single : {Q : List ℕ → ℕ → Type 0} {R : ℕ → List ℕ → ℕ → List ℕ → ℕ → Type 0} → ((ws : List ℕ) (p q : ℕ) → Q ws p → Q ws q → p ≡ q)
    → ((q : ℕ) → Single (R q)) → Single (With Q R)
with_single {R = R} one s ws k us vs d e (chooses {q = p} a r) (chooses {q = q} b t) =
    s q ws k us vs d e (subst (λ (i : ℕ). R i ws k us d) (one ws p q a b) r) t

then_single : {P R : List ℕ → ℕ → List ℕ → ℕ → Type 0} → Single P → Single R → Single (Then P R)
then_single {R = R} s t ws k us vs d e (follows {ws' = xs} {k' = i} a b) (follows {ws' = ys} {k' = j} c f) =
    let (p, q) = s ws k xs ys i j a c in
    t ys j us vs d e (subst₂ (λ (l : List ℕ) (h : ℕ). R l h us d) p q b) f

times_single : {R : ℕ → List ℕ → ℕ → List ℕ → ℕ → Type 0} → ((n : ℕ) → Single (R n)) → (n : ℕ) → Single (Times R n)
times_single s zero ws k us vs d e none none = (refl, refl)
times_single {R} s (suc n) ws k us vs d e (more {ws' = xs} {k' = i} a b) (more {ws' = ys} {k' = j} c f) =
    let (p, q) = times_single s n ws k xs ys i j a c in
    s n ys j us vs d e (subst₂ (λ (l : List ℕ) (h : ℕ). R n l h us d) p q b) f

added_single : {z : Sizes} {c a b : ℕ} → Single (λ ws k. Added z ws k c a b)
added_single ws k us vs d e x y = added_unique x y

module _ (L : Limits) (z : Sizes) (xB : List ℕ) where
  leaf_single : (j : RuleRow) → Single (LeafStep L z xB j)
  leaf_single j = when_single (with_single (λ ws p q a b. leaf_unique a b) (λ q. added_single))

  join_single : (j : RuleRow) (x y : ℕ) → Single (JoinStep L z xB j x y)
  join_single j x y = when_single (with_single (λ ws p q a b. step_unique a b) (λ q. added_single))

  row_single : (pair : Pair) (j : RuleRow) → Single (RowSteps L z xB pair j)
  row_single pair j = when_single (times_single
      (λ y. then_single (when_single (join_single j pair.q.0 y)) (when_single (join_single j y pair.q.0))) (suc z.receivers))

  -- the leaf rules, and the join rules on a pair
  module _ (xS : List ℕ) where
    pub leaves_unique : Single (Leaves L z xS xB)
    leaves_unique = times_single (λ g. leaf_single (row_at L xS g)) (length xS / L.width)

    pub joins_unique : (pair : Pair) → Single (Joins L z xS xB pair)
    joins_unique pair = times_single (λ g. row_single pair (row_at L xS g)) (length xS / L.width)

-- the ε rules from a place of the queue on
module _ (L : Limits) (z : Sizes) (xS : List ℕ) where
  eps_single : (pair : Pair) (n : ℕ) → Single (EpsSteps L z xS pair n)
  eps_single pair = times_single (λ g. when_single added_single)

  pub closing_unique : (j : ℕ) → Single (Closing L z xS j)
  closing_unique j ws k us vs d e (ends h) (ends i) = (refl, refl)
  closing_unique j ws k us vs d e (ends (inl h)) (goes a b r s c) = absurd (omega arith)
  closing_unique j ws k us vs d e (ends (inr h)) (goes a b r s c) = absurd (omega arith)
  closing_unique j ws k us vs d e (goes a b r s c) (ends (inl h)) = absurd (omega arith)
  closing_unique j ws k us vs d e (goes a b r s c) (ends (inr h)) = absurd (omega arith)
  closing_unique j ws k us vs d e (goes {ws' = xs} {k' = i} {pair = p} _ _ r s c) (goes {ws' = ys} {k' = h} {pair = q} _ _ t u f) =
      let (x, y) = eps_single q (length xS / L.width) ws k xs ys i h (subst (λ (o : Pair). EpsSteps L z xS o (length xS / L.width) ws k xs i) (place_unique r t) s) u in
      closing_unique (suc j) ys h us vs d e (subst₂ (λ (l : List ℕ) (m : ℕ). Closing L z xS (suc j) l m us d) x y c) f
