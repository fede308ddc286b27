-- The work memory of the evaluation, a set of states for each node, one bit a state; and what each private function does to
-- it. Nothing of it stands in the contract of a public function.
use Rattle.std.specs.Prelude.{ℕ, zero, suc, ◌+◌, ◌-◌, ◌*◌, ◌/◌, ◌≤◌, ◌<◌, ◌≡◌, ◌≢◌, ◌⊎◌, List, length}
use Rattle.paper.specs.Limits.{limits, at, leaf_kind, join_kind, eps_kind}
use Rattle.bits.specs.Bits.{word, bit_at}
use Rattle.tree.specs.Tree.{leaf_mark, tree_at}
use Rattle.table.specs.Rules.{Rule, RulesOf, Reach, Has, Final}

-- so many words has the set of a node, and so many bits
abbrev pub words : ℕ
words = 4

abbrev pub span : ℕ
span = words * word

-- 1 if state q is in the set of node i, else 0, where a set has b bits
unfoldable pub state : ℕ → List ℕ → ℕ → ℕ → ℕ
state b s i q = bit_at s (i * b + q)

-- state q is in the set of node i
abbrev pub In : ℕ → List ℕ → ℕ → ℕ → Type 0
In b s i q = state b s i q ≡ 1

-- how many of the first n numbers f does not hold
unfoldable pub missing : (ℕ → ℕ) → ℕ → ℕ
missing f zero = 0
missing f (suc n) = missing f n + (1 - f n)

-- the rules name states below n, and the third number of a leaf or ε rule is 0
pub record StatesBelow (w : ℕ) (xs : List ℕ) (n : ℕ) : Type 0 where
  pub third : (k : ℕ) → k * w + w ≤ length xs → at xs (k * w) ≢ join_kind → at xs (k * w + 2) ≡ 0
  pub to : (k : ℕ) → k * w + w ≤ length xs → at xs (k * w + 3) < n
  pub joins : (k : ℕ) → k * w + w ≤ length xs → at xs (k * w) ≡ join_kind → (at xs (k * w + 1) < n) × (at xs (k * w + 2) < n)
  pub epsilons : (k : ℕ) → k * w + w ≤ length xs → at xs (k * w) ≡ eps_kind → at xs (k * w + 1) < n

-- node i is a leaf, or its children are earlier
abbrev pub Earlier : List ℕ → ℕ → Type 0
Earlier ns i = at ns (2 * i + 1) ≢ leaf_mark → (at ns (2 * i) < i) × (at ns (2 * i + 1) < i)

-- the work memory has a set for each node that a tree can have, and i is such a node
pub record Room (s : List ℕ) (i : ℕ) : Type 0 where
  pub long : length s ≡ words * limits.nodes
  pub inside : i < limits.nodes

-- node i stands in the node list, with a set of its own
pub record Ready (ns s : List ℕ) (i : ℕ) : Type 0 where
  pub room : Room s i
  pub node : 2 * i + 2 ≤ length ns
  pub earlier : Earlier ns i

-- a table's rules, of which rule k is one
pub record Usable (w : ℕ) (xs : List ℕ) (n k : ℕ) : Type 0 where
  pub states : StatesBelow w xs n
  pub row : k * w + w ≤ length xs

-- t is s with the state q put into the set of node i
pub record Added (b : ℕ) (s : List ℕ) (i q : ℕ) (t : List ℕ) : Type 0 where
  pub long : length t ≡ length s
  pub here : In b t i q
  pub nodes : (j p : ℕ) → p < b → j ≢ i → state b t j p ≡ state b s j p
  pub states : (p : ℕ) → p < b → p ≢ q → state b t i p ≡ state b s i p

-- t is s with some states more in the set of node i
pub record Grown (b : ℕ) (s : List ℕ) (i : ℕ) (t : List ℕ) : Type 0 where
  pub long : length t ≡ length s
  pub nodes : (j p : ℕ) → p < b → j ≢ i → state b t j p ≡ state b s j p
  pub holds : (p : ℕ) → p < b → In b s i p → In b t i p

-- rule k gives node i its target: a leaf rule of the node's symbol, or a join rule whose states the children have
pub data Fits (b w : ℕ) (xs : List ℕ) (k : ℕ) (ns : List ℕ) (i : ℕ) (s : List ℕ) : Type 0 where
  fits_leaf : at ns (2 * i + 1) ≡ leaf_mark → at xs (k * w) ≡ leaf_kind → at xs (k * w + 1) ≡ at ns (2 * i) → Fits b w xs k ns i s
  fits_join : at ns (2 * i + 1) ≢ leaf_mark → at xs (k * w) ≡ join_kind → In b s (at ns (2 * i)) (at xs (k * w + 1))
      → In b s (at ns (2 * i + 1)) (at xs (k * w + 2)) → Fits b w xs k ns i s

-- what the rules k with K k add to the set of node i before any ε step
pub record Gathered (b w : ℕ) (xs : List ℕ) (K : ℕ → Type 0) (ns : List ℕ) (i : ℕ) (s t : List ℕ) : Type 0 where
  pub grown : Grown b s i t
  pub all : (k : ℕ) → K k → Fits b w xs k ns i s → In b t i (at xs (k * w + 3))
  pub only : (p : ℕ) → p < b → In b t i p
      → In b s i p ⊎ ((k : ℕ) × K k × Fits b w xs k ns i s × (at xs (k * w + 3) ≡ p))

-- rule k adds nothing to the set of node i
abbrev pub RowClosed : ℕ → ℕ → List ℕ → List ℕ → ℕ → ℕ → Type 0
RowClosed b w xs s i k = at xs (k * w) ≡ eps_kind → In b s i (at xs (k * w + 1)) → In b s i (at xs (k * w + 3))

-- ε steps put r states into the set of node i
pub record Stepped (b : ℕ) (R : Rule → Type 0) (s : List ℕ) (i : ℕ) (t : List ℕ) (r : ℕ) : Type 0 where
  pub grown : Grown b s i t
  pub only : (q : ℕ) → q < b → In b t i q → (p : ℕ) × (p < b) × In b s i p × Reach R p q
  pub same : r ≡ 0 → t ≡ s
  pub count : missing (state b t i) b + r ≡ missing (state b s i) b

-- the rules k with K k, as ε steps in order, put r states into the set of node i; where r is 0, none of them adds anything
pub record Passed (b w : ℕ) (xs : List ℕ) (K : ℕ → Type 0) (s : List ℕ) (i : ℕ) (t : List ℕ) (r : ℕ) : Type 0 where
  pub stepped : Stepped b (RulesOf w xs) s i t r
  pub closed : r ≡ 0 → (k : ℕ) → K k → RowClosed b w xs t i k

-- the set of node i has all that ε steps reach from what it had
pub record Closed (b : ℕ) (R : Rule → Type 0) (s : List ℕ) (i : ℕ) (t : List ℕ) : Type 0 where
  pub grown : Grown b s i t
  pub only : (q : ℕ) → q < b → In b t i q → (p : ℕ) × (p < b) × In b s i p × Reach R p q
  pub all : (p q : ℕ) → p < b → In b s i p → Reach R p q → In b t i q

-- the sets of the first n nodes are the states that their trees have, and the others are empty
pub record Settled (b : ℕ) (R : Rule → Type 0) (ns s : List ℕ) (n : ℕ) : Type 0 where
  pub sound : (j q : ℕ) → j < n → q < b → In b s j q → Has R (tree_at ns j) q
  pub complete : (j q : ℕ) → j < n → Has R (tree_at ns j) q → In b s j q
  pub empty : (j q : ℕ) → n ≤ j → q < b → state b s j q ≡ 0

-- rule k gives node i its target
abbrev pub FitsRow : List ℕ → ℕ → List ℕ → ℕ → List ℕ → Type 0
FitsRow xs k ns i s = Fits span limits.width xs k ns i s

-- what one rule, and what all rules add before any ε step
abbrev pub GatherRow : List ℕ → ℕ → List ℕ → ℕ → List ℕ → List ℕ → Type 0
GatherRow xs k ns i s t = Gathered span limits.width xs (λ j. j ≡ k) ns i s t

abbrev pub GatherAll : List ℕ → List ℕ → ℕ → List ℕ → List ℕ → Type 0
GatherAll xs ns i s t = Gathered span limits.width xs (λ j. j * limits.width + limits.width ≤ length xs) ns i s t

-- what one rule, and what all rules in order add as ε steps
abbrev pub PassedRow : List ℕ → ℕ → List ℕ → ℕ → List ℕ → ℕ → Type 0
PassedRow xs k s i t r = Passed span limits.width xs (λ j. j ≡ k) s i t r

abbrev pub PassedAll : List ℕ → List ℕ → ℕ → List ℕ → ℕ → Type 0
PassedAll xs s i t r = Passed span limits.width xs (λ j. j * limits.width + limits.width ≤ length xs) s i t r

-- the set of node i has all that the table's ε rules reach from what it had
abbrev pub ClosedAll : List ℕ → List ℕ → ℕ → List ℕ → Type 0
ClosedAll xs s i t = Closed span (RulesOf limits.width xs) s i t

-- q is a final state, and in the set of node i
abbrev pub IsFinal : ℕ → List ℕ → List ℕ → ℕ → ℕ → Type 0
IsFinal b ms s i q = Final ms q × In b s i q

-- a final state is in the set of node i
abbrev pub HasFinal : ℕ → List ℕ → List ℕ → ℕ → Type 0
HasFinal b ms s i = (q : ℕ) × (q < length ms) × IsFinal b ms s i q

-- a table and a node list that can be evaluated
pub record Evaluable (xs ns : List ℕ) : Type 0 where
  pub states : StatesBelow limits.width xs span
  pub few : length ns ≤ 2 * limits.nodes
  pub earlier : (i : ℕ) → 2 * i + 2 ≤ length ns → Earlier ns i

-- the evaluation has come to node i
pub record Going (xs ns s : List ℕ) (i : ℕ) : Type 0 where
  pub can : Evaluable xs ns
  pub long : length s ≡ words * limits.nodes
  pub settled : Settled span (RulesOf limits.width xs) ns s i

-- all nodes are evaluated
abbrev pub Evaluated : List ℕ → List ℕ → List ℕ → Type 0
Evaluated xs ns s = Going xs ns s (length ns / 2)

-- a tree of at least one node, and no more states than a set can hold
pub record Judgeable (ms xs ns : List ℕ) : Type 0 where
  pub can : Evaluable xs ns
  pub marks : length ms ≤ span
  pub some : 2 ≤ length ns
