-- The steps as the code makes them: with a row that was read and a pair's number that was reckoned; and one turn more of a loop. Assumes
-- nothing.
use Prim.Native.Nat.{ℕ, zero, suc, ◌+◌}
use mathlib.Core.Path.{◌≡◌, refl, subst}
use mathlib.Core.Logic.{◌≢◌}
use mathlib.Core.List.{List}
use native.Mathlib.Numerals.{add-one}
use Rattle.paper.specs.Limits.{Limits, leaf_kind, join_kind, eps_kind}
use Rattle.tree.specs.Tree.{leaf_mark}
use Rattle.pairs.specs.declared.Pair.{Pair}
use Rattle.paper.specs.declared.RuleRow.{RuleRow}
use Rattle.pairs.specs.declared.Sizes.{Sizes}
use Rattle.pairs.specs.State.{code, eps_mark}
use Rattle.pairs.specs.Work.{IsRow, Added, TakenAt}
use Rattle.moves.specs.Looked.{FirstLeaf, Stepped}
use Rattle.steps.specs.Runs.{does, skips, chooses, follows, Times, none, more, row_at, LeafStep, EpsStep, JoinStep, BothSteps, RowSteps}

pub times_more : {R : ℕ → List ℕ → ℕ → List ℕ → ℕ → Type 0} {n : ℕ} {ws ws' ws'' : List ℕ} {k k' k'' : ℕ} → Times R n ws k ws' k'
    → R n ws' k' ws'' k'' → Times R (n + 1) ws k ws'' k''
times_more a b = rw add-one (more a b)

module _ (L : Limits) {xS : List ℕ} {g : ℕ} {j : RuleRow} (o : IsRow L.width xS g j) where
  row_is : j ≡ row_at L xS g
  row_is = rw (← o.kind, ← o.left, ← o.right, ← o.to) refl

  -- a leaf rule, and any other
  module _ {z : Sizes} {xB ws : List ℕ} {k : ℕ} where
    pub leaf_skips : j.kind ≢ leaf_kind → LeafStep L z xB (row_at L xS g) ws k ws k
    leaf_skips d = subst (λ (i : RuleRow). LeafStep L z xB i ws k ws k) row_is (skips d)

    pub leaf_adds : {q c : ℕ} {ws' : List ℕ} {k' : ℕ} → j.kind ≡ leaf_kind → FirstLeaf L.width xB z.receivers j.left q
        → c ≡ code z.receivers j.to q → Added z ws k c j.left leaf_mark ws' k' → LeafStep L z xB (row_at L xS g) ws k ws' k'
    leaf_adds {ws' = ws'} {k' = k'} e f ec a = subst (λ (i : RuleRow). LeafStep L z xB i ws k ws' k') row_is (does e (chooses f (rw ec at a)))

    -- a join rule, and any other
    pub row_skips : {pair : Pair} → j.kind ≢ join_kind → RowSteps L z xB pair (row_at L xS g) ws k ws k
    row_skips {pair} d = subst (λ (i : RuleRow). RowSteps L z xB pair i ws k ws k) row_is (skips d)

    pub row_joins : {pair : Pair} {ws' : List ℕ} {k' : ℕ} → j.kind ≡ join_kind → Times (BothSteps L z xB j pair) (z.receivers + 1) ws k ws' k'
        → RowSteps L z xB pair (row_at L xS g) ws k ws' k'
    row_joins {pair} {ws'} {k'} e t = subst (λ (i : RuleRow). RowSteps L z xB pair i ws k ws' k') row_is (does e (rw add-one at t))

    -- a join rule that does not name the pair's state
    pub row_idles : {pair : Pair} → j.kind ≡ join_kind → j.left ≢ pair.p.0 → j.right ≢ pair.p.0 → RowSteps L z xB pair (row_at L xS g) ws k ws k
    row_idles {pair} e a b = subst (λ (i : RuleRow). RowSteps L z xB pair i ws k ws k) row_is (does e (all (suc z.receivers)))
      where
        all : (n : ℕ) → Times (BothSteps L z xB j pair) n ws k ws k
        all zero = none
        all (suc n) = more (all n) (follows (skips a) (skips b))

  -- an ε rule from the pair's state, and any other
  module _ {z : Sizes} {ws : List ℕ} {k : ℕ} (pair : Pair) where
    pub eps_skips : ¬ ((j.kind ≡ eps_kind) × (j.left ≡ pair.p.0)) → EpsStep z pair (row_at L xS g) ws k ws k
    eps_skips d = subst (λ (i : RuleRow). EpsStep z pair i ws k ws k) row_is (skips d)

    pub eps_adds : {a c : ℕ} {ws' : List ℕ} {k' : ℕ} → j.kind ≡ eps_kind → j.left ≡ pair.p.0 → a ≡ code z.receivers j.left pair.q.0
        → c ≡ code z.receivers j.to pair.q.0 → Added z ws k c a eps_mark ws' k' → EpsStep z pair (row_at L xS g) ws k ws' k'
    eps_adds {ws' = ws'} {k' = k'} e f ea ec a = subst (λ (i : RuleRow). EpsStep z pair i ws k ws' k') row_is (does (e, f) (rw (ea, ec) at a))

-- a join of two pairs
module _ (L : Limits) {z : Sizes} {xB ws : List ℕ} {k : ℕ} (j : RuleRow) {x y a : ℕ} (ea : a ≡ code z.receivers j.left x) where
  pub left_untaken : ¬ TakenAt z ws a → JoinStep L z xB j x y ws k ws k
  left_untaken d = skips (λ t. d (rw ea t.0))

  module _ {b : ℕ} (eb : b ≡ code z.receivers j.right y) where
    pub right_untaken : ¬ TakenAt z ws b → JoinStep L z xB j x y ws k ws k
    right_untaken d = skips (λ t. d (rw eb t.1))

    pub join_adds : {q c : ℕ} {ws' : List ℕ} {k' : ℕ} → TakenAt z ws a → TakenAt z ws b → Stepped L.width xB z ws x y q
        → c ≡ code z.receivers j.to q → Added z ws k c a b ws' k' → JoinStep L z xB j x y ws k ws' k'
    join_adds ta tb s ec r = does (rw ea at ta, rw eb at tb) (chooses s (rw (ea, eb, ec) at r))
