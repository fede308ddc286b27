-- What the steps of the search do to any work slice ws and a queue of k pairs: the slice ws' and the count k' after them. A step may depend
-- on a condition, on a number that is looked up, follow another one, or be done for one number after the other.
use Rattle.std.specs.Prelude.{ℕ, zero, suc, ◌+◌, ◌*◌, ◌/◌, ◌≤◌, ◌<◌, ◌≡◌, ◌⊎◌, List, length}
use Rattle.paper.specs.Limits.{Limits, at, leaf_kind, join_kind, eps_kind}
use Rattle.tree.specs.Tree.{leaf_mark}
use Rattle.pairs.specs.declared.Pair.{Pair}
use Rattle.paper.specs.declared.RuleRow.{RuleRow}
use Rattle.pairs.specs.declared.Sizes.{Sizes}
use Rattle.pairs.specs.State.{code, eps_mark}
use Rattle.pairs.specs.Work.{PlaceRead, Added, TakenAt}
use Rattle.moves.specs.Looked.{FirstLeaf, Stepped}

-- a step, if the condition holds
pub data When (C : List ℕ → Type 0) (R : List ℕ → ℕ → List ℕ → ℕ → Type 0) : List ℕ → ℕ → List ℕ → ℕ → Type 0 where
  does : {ws ws' : List ℕ} {k k' : ℕ} → C ws → R ws k ws' k' → When C R ws k ws' k'
  skips : {ws : List ℕ} {k : ℕ} → ¬ C ws → When C R ws k ws k

-- a step with a number that is looked up
pub data With (Q : List ℕ → ℕ → Type 0) (R : ℕ → List ℕ → ℕ → List ℕ → ℕ → Type 0) : List ℕ → ℕ → List ℕ → ℕ → Type 0 where
  chooses : {ws ws' : List ℕ} {k k' q : ℕ} → Q ws q → R q ws k ws' k' → With Q R ws k ws' k'

-- a step, then another one
pub data Then (P R : List ℕ → ℕ → List ℕ → ℕ → Type 0) : List ℕ → ℕ → List ℕ → ℕ → Type 0 where
  follows : {ws ws' ws'' : List ℕ} {k k' k'' : ℕ} → P ws k ws' k' → R ws' k' ws'' k'' → Then P R ws k ws'' k''

-- steps for 0, 1, .. up to n
pub data Times (R : ℕ → List ℕ → ℕ → List ℕ → ℕ → Type 0) : ℕ → List ℕ → ℕ → List ℕ → ℕ → Type 0 where
  none : {ws : List ℕ} {k : ℕ} → Times R zero ws k ws k
  more : {n : ℕ} {ws ws' ws'' : List ℕ} {k k' k'' : ℕ} → Times R n ws k ws' k' → R n ws' k' ws'' k'' → Times R (suc n) ws k ws'' k''

-- the numbers of rule g
abbrev pub row_at : Limits → List ℕ → ℕ → RuleRow
row_at L xs g = record {
  kind = at xs (g * L.width);
  left = at xs (g * L.width + 1);
  right = at xs (g * L.width + 2);
  to = at xs (g * L.width + 3);
}

-- the sender's rule j, if it is a leaf rule, adds the pair of its target and the receiver's base state
abbrev pub LeafStep : Limits → Sizes → List ℕ → RuleRow → List ℕ → ℕ → List ℕ → ℕ → Type 0
LeafStep L z xB j = When (λ _. j.kind ≡ leaf_kind) (With (λ _ q. FirstLeaf L.width xB z.receivers j.left q)
    (λ q ws k. Added z ws k (code z.receivers j.to q) j.left leaf_mark))

abbrev pub Leaves : Limits → Sizes → List ℕ → List ℕ → List ℕ → ℕ → List ℕ → ℕ → Type 0
Leaves L z xS xB = Times (λ g. LeafStep L z xB (row_at L xS g)) (length xS / L.width)

-- the sender's rule j, if it is an ε rule from the pair's state, adds the pair of its target
abbrev pub EpsStep : Sizes → Pair → RuleRow → List ℕ → ℕ → List ℕ → ℕ → Type 0
EpsStep z pair j = When (λ _. (j.kind ≡ eps_kind) × (j.left ≡ pair.p.0))
    (λ ws k. Added z ws k (code z.receivers j.to pair.q.0) (code z.receivers j.left pair.q.0) eps_mark)

abbrev pub EpsSteps : Limits → Sizes → List ℕ → Pair → ℕ → List ℕ → ℕ → List ℕ → ℕ → Type 0
EpsSteps L z xS pair = Times (λ g. EpsStep z pair (row_at L xS g))

-- the ε rules are used on the pairs of the queue, from place j on
pub data Closing (L : Limits) (z : Sizes) (xS : List ℕ) : ℕ → List ℕ → ℕ → List ℕ → ℕ → Type 0 where
  ends : {j : ℕ} {ws : List ℕ} {k : ℕ} → (z.pairs ≤ j) ⊎ (k ≤ j) → Closing L z xS j ws k ws k
  goes : {j : ℕ} {ws ws' ws'' : List ℕ} {k k' k'' : ℕ} {pair : Pair} → j < z.pairs → j < k → PlaceRead z ws j pair
      → EpsSteps L z xS pair (length xS / L.width) ws k ws' k' → Closing L z xS (suc j) ws' k' ws'' k'' → Closing L z xS j ws k ws'' k''

-- the join rule j joins the pairs of its states with x and y, if both are taken
abbrev pub JoinStep : Limits → Sizes → List ℕ → RuleRow → ℕ → ℕ → List ℕ → ℕ → List ℕ → ℕ → Type 0
JoinStep L z xB j x y =
    let a = code z.receivers j.left x in
    let b = code z.receivers j.right y in
    When (λ ws. TakenAt z ws a × TakenAt z ws b)
    (With (λ ws q. Stepped L.width xB z ws x y q) (λ q ws k. Added z ws k (code z.receivers j.to q) a b))

-- it joins a pair with the pair of y that fits, as its left part and as its right part
abbrev pub BothSteps : Limits → Sizes → List ℕ → RuleRow → Pair → ℕ → List ℕ → ℕ → List ℕ → ℕ → Type 0
BothSteps L z xB j pair y = Then
    (When (λ _. j.left ≡ pair.p.0) (JoinStep L z xB j pair.q.0 y))
    (When (λ _. j.right ≡ pair.p.0) (JoinStep L z xB j y pair.q.0))

-- the sender's rule j, if it is a join rule, joins a pair with the pairs of all receiver's states
abbrev pub RowSteps : Limits → Sizes → List ℕ → Pair → RuleRow → List ℕ → ℕ → List ℕ → ℕ → Type 0
RowSteps L z xB pair j = When (λ _. j.kind ≡ join_kind) (Times (BothSteps L z xB j pair) (suc z.receivers))

abbrev pub Joins : Limits → Sizes → List ℕ → List ℕ → Pair → List ℕ → ℕ → List ℕ → ℕ → Type 0
Joins L z xS xB pair = Times (λ g. RowSteps L z xB pair (row_at L xS g)) (length xS / L.width)
