-- What the private functions look for and do: the first thing that is wrong, the set of left sides seen, the flags of the states that are
-- reached, the one state on a side. Nothing of it stands in the contract of a public function.
use Rattle.std.specs.Prelude.{ℕ, ◌+◌, ◌*◌, ◌/◌, ◌≤◌, ◌<◌, ◌≡◌, ◌≢◌, ◌⊎◌, ◌↔◌, Bool, true, false, List, [], ◌∷◌, length, get_or, drop, Option, Some, None, Result, Ok, Err}
use Rattle.std.proofs.Math.Logic.{ite}
use Rattle.std.proofs.Math.Decide.{ℕ_discrete}
use Rattle.paper.specs.Limits.{Limits, at, leaf_kind, join_kind, eps_kind}
use Rattle.paper.specs.Told.{Told, Tells, passes}
use Rattle.paper.specs.First.{NoneWrong, FindsWrong}
use Rattle.bits.specs.Bits.{word, bit_at}
use Rattle.table.specs.Rules.{Rule, RulesOf, Reach, sort_of, left_sort, right_sort, both_sort, Final}
use Rattle.table.specs.Check.{Sound}
use Rattle.receiver.specs.Receiver.{LeftSideAgain, NotSingle}
use Rattle.receiver.specs.Numbers.{OneOf, Ends, NumbersOf, number, numbers_each, numbers_size}
use Rattle.receiver.specs.Check.{ReceiverChecked}
use Rattle.factorized.specs.declared.NotOne.{NotOne}

-- the rules name states below n and symbols below the most, and the third number of a leaf or ε rule is 0
pub record InRange (L : Limits) (xs : List ℕ) (n : ℕ) : Type 0 where
  pub kinds : (k : ℕ) → k < length xs / L.width → at xs (k * L.width) ≤ eps_kind
  pub leaves : (k : ℕ) → k < length xs / L.width → at xs (k * L.width) ≡ leaf_kind
      → (at xs (k * L.width + 1) < L.symbols) × (at xs (k * L.width + 2) ≡ 0)
  pub joins : (k : ℕ) → k < length xs / L.width → at xs (k * L.width) ≡ join_kind
      → (at xs (k * L.width + 1) < n) × (at xs (k * L.width + 2) < n)
  pub epsilons : (k : ℕ) → k < length xs / L.width → at xs (k * L.width) ≡ eps_kind
      → (at xs (k * L.width + 1) < n) × (at xs (k * L.width + 2) ≡ 0)
  pub targets : (k : ℕ) → k < length xs / L.width → at xs (k * L.width + 3) < n

-- the rules name states of the table, which are not too many
pub record Ranged (L : Limits) (ms xs : List ℕ) : Type 0 where
  pub rules : InRange L xs (length ms)
  pub few : length ms ≤ L.states

-- the number of a left side: a leaf rule's symbol; behind all symbols, a join rule's two states
unfoldable pub side_of : Limits → ℕ → ℕ → ℕ → ℕ
side_of L k a b = ite (ℕ_discrete k leaf_kind) a (L.symbols + a * L.states + b)

-- that of rule i
abbrev pub rule_side : Limits → List ℕ → ℕ → ℕ
rule_side L xs i = let r = i * L.width in side_of L (at xs r) (at xs (r + 1)) (at xs (r + 2))

-- so many words has a set of left sides, one bit each
abbrev pub side_words : Limits → ℕ
side_words L = (L.symbols + L.states * L.states) / word + 1

-- the words ws are the set of the left sides of the first i rules, ε rules apart
pub record Seen (L : Limits) (xs : List ℕ) (i : ℕ) (ws : List ℕ) : Type 0 where
  pub long : length ws ≡ side_words L
  pub only : (s : ℕ) → bit_at ws s ≡ 1 → (j : ℕ) × (j < i) × (at xs (j * L.width) ≢ eps_kind) × (rule_side L xs j ≡ s)
  pub all : (j : ℕ) → j < i → at xs (j * L.width) ≢ eps_kind → bit_at ws (rule_side L xs j) ≡ 1

-- whether rule i has an earlier left side; if not, its own is in the set then
pub record Looked (L : Limits) (xs : List ℕ) (i : ℕ) (again : Bool) (ws : List ℕ) : Type 0 where
  pub tells : Tells again (LeftSideAgain L xs i)
  pub long : length ws ≡ side_words L
  pub seen : again ≡ false → Seen L xs (i + 1) ws

-- a state with the mark m, state q, may stand on side s
abbrev pub OnSide : ℕ → ℕ → Type 0
OnSide m s = (sort_of m ≡ s) ⊎ (sort_of m ≡ both_sort)

abbrev pub Stands : List ℕ → ℕ → ℕ → Type 0
Stands ms s q = OnSide (at ms q) s

-- state q is flagged
abbrev pub Flagged : List Bool → ℕ → Type 0
Flagged fs q = get_or fs q false ≡ true

-- how many states are not flagged
unfoldable pub zeros : List Bool → ℕ
zeros [] = 0
zeros (true ∷ fs) = zeros fs
zeros (false ∷ fs) = 1 + zeros fs

-- rule k flags nothing
abbrev pub RowClosed : ℕ → List ℕ → List Bool → ℕ → Type 0
RowClosed w xs fs k = at xs (k * w) ≡ eps_kind → Flagged fs (at xs (k * w + 1)) → Flagged fs (at xs (k * w + 3))

-- ε steps flag r states
pub record Stepped (R : Rule → Type 0) (fs : List Bool) (r : ℕ) (gs : List Bool) : Type 0 where
  pub long : length gs ≡ length fs
  pub holds : (q : ℕ) → Flagged fs q → Flagged gs q
  pub only : (q : ℕ) → Flagged gs q → (p : ℕ) × Flagged fs p × Reach R p q
  pub same : r ≡ 0 → gs ≡ fs
  pub count : zeros gs + r ≡ zeros fs

-- rule k, as an ε step, flags r states
pub record Rowed (w : ℕ) (xs : List ℕ) (k : ℕ) (fs : List Bool) (r : ℕ) (gs : List Bool) : Type 0 where
  pub stepped : Stepped (RulesOf w xs) fs r gs
  pub closed : RowClosed w xs gs k

-- the first k rules, as ε steps in order, flag r states; where r is 0, none of them flags anything
pub record Passed (w : ℕ) (xs : List ℕ) (k : ℕ) (fs : List Bool) (r : ℕ) (gs : List Bool) : Type 0 where
  pub stepped : Stepped (RulesOf w xs) fs r gs
  pub closed : r ≡ 0 → (j : ℕ) → j < k → RowClosed w xs gs j

-- exactly what ε steps reach from the flagged states is flagged then
pub record Closed (R : Rule → Type 0) (fs gs : List Bool) : Type 0 where
  pub long : length gs ≡ length fs
  pub exact : (q : ℕ) → Flagged gs q ↔ ((p : ℕ) × Flagged fs p × Reach R p q)

-- exactly what ε steps reach from p is flagged
pub record Reached (R : Rule → Type 0) (p : ℕ) (fs : List Bool) : Type 0 where
  pub exact : (q : ℕ) → Flagged fs q ↔ Reach R p q

-- state q is flagged, and may stand on side s
abbrev pub StandsFlagged : List ℕ → List Bool → ℕ → ℕ → Type 0
StandsFlagged ms fs s q = Flagged fs q × Stands ms s q

-- the one of the first k numbers that has P, if one has it
pub data Single (P : ℕ → Type 0) (k : ℕ) : Option ℕ → Type 0 where
  none : ((q : ℕ) → q < k → ¬ P q) → Single P k None
  one : {l : ℕ} → l < k → P l → ((q : ℕ) → q < k → P q → q ≡ l) → Single P k (Some l)

-- two numbers have P
abbrev pub Two : (ℕ → Type 0) → Type 0
Two P = (p q : ℕ) × (p ≢ q) × P p × P q

-- the one of the first n numbers that has P, if one has it, is told, or that two have it
abbrev pub TheOne : (ℕ → Type 0) → ℕ → Result (Option ℕ) NotOne → Type 0
TheOne P n (Ok found) = Single P n found
TheOne P n (Err two) = Two P

-- a final state is flagged
abbrev pub FinalFlagged : List ℕ → List Bool → Type 0
FinalFlagged ms fs = (q : ℕ) × (q < length ms) × Flagged fs q × Final ms q

-- e is 1 if P holds, else 0
pub record IsBit (P : Type 0) (e : ℕ) : Type 0 where
  pub most : e ≤ 1
  pub says : e ≡ 1 ↔ P

-- the numbers of state p in ns are its own
pub record NumbersAt (L : Limits) (ms xs ns : List ℕ) (p : ℕ) : Type 0 where
  pub left : OneOf (RulesOf L.width xs) (length ms) (Stands ms left_sort) p (number ns p 0)
  pub right : OneOf (RulesOf L.width xs) (length ms) (Stands ms right_sort) p (number ns p 1)
  pub ends : IsBit (Ends (RulesOf L.width xs) ms p) (number ns p 2)

-- whether the ε reach of state p is not single; if it is, its numbers are in os then, behind the earlier ones
pub record Numbered (L : Limits) (ms xs : List ℕ) (p : ℕ) (ns : List ℕ) (split : Bool) (os : List ℕ) : Type 0 where
  pub tells : Tells split (NotSingle L ms xs p)
  pub long : length os ≡ length ns
  pub earlier : (i : ℕ) → i < numbers_each * p → at os i ≡ at ns i
  pub numbers : split ≡ false → NumbersAt L ms xs os p

-- the first p states have their numbers in ns, and their ε reach is single
pub record Listed (L : Limits) (ms xs : List ℕ) (p : ℕ) (ns : List ℕ) : Type 0 where
  pub long : length ns ≡ numbers_size L.states
  pub numbers : (q : ℕ) → q < p → NumbersAt L ms xs ns q
  pub single : NoneWrong (NotSingle L ms xs) p

-- the first state whose ε reach is not single is told; where none is, ns has the numbers of all states and of the sink
pub record AllNumbered (L : Limits) (ms xs : List ℕ) (found : Option ℕ) (ns : List ℕ) : Type 0 where
  pub first : FindsWrong (NotSingle L ms xs) (length ms + 1) found
  pub long : length ns ≡ numbers_size L.states
  pub numbers : found ≡ None → NumbersOf L ms xs ns

-- what is told of a sound table, with the numbers ns where it passes
pub record Received (L : Limits) (ms xs ns : List ℕ) (t : Told) : Type 0 where
  pub checked : (symbols : ℕ) → Sound L symbols ms xs → ReceiverChecked L symbols ms xs t
  pub long : length ns ≡ numbers_size L.states
  pub numbers : t ≡ passes → NumbersOf L ms xs ns

-- the first n numbers of ns are copied to the front of os, if it has room for them
pub record Copied (ns : List ℕ) (n : ℕ) (os os' : List ℕ) : Type 0 where
  pub size : length os' ≡ length os
  pub front : n ≤ length os → (i : ℕ) → i < n → at os' i ≡ at ns i
  pub rest : drop n os' ≡ drop n os
  pub short : length os < n → os' ≡ os
