-- The steps of the search: what it stands on, and what each step does to the work slice, as facts of its parts.
use Rattle.std.specs.Prelude.{ℕ, ◌+◌, ◌*◌, ◌≤◌, ◌<◌, ◌≡◌, List, length}
use Rattle.paper.specs.Limits.{Limits, at, leaf_kind, join_kind, eps_kind}
use Rattle.table.specs.Rules.{Rule, join_rule}
use Rattle.table.specs.Check.{Sound}
use Rattle.product.specs.Moves.{LeafTo, JoinTo}
use Rattle.pairs.specs.declared.Pair.{Pair}
use Rattle.paper.specs.declared.RuleRow.{RuleRow}
use Rattle.pairs.specs.declared.Sizes.{Sizes}
use Rattle.pairs.specs.Memory.{Memory, Marked, Taken}
use Rattle.pairs.specs.State.{code, Grew}
use Rattle.pairs.specs.Work.{memory_of, Working, RowIn}
use Rattle.moves.specs.Receiving.{Rules, ReceiverOf}
use Rattle.steps.specs.Runs.{row_at}

-- the sender's table has no fault, and the pairs are those of its states
pub record Sending (L : Limits) (z : Sizes) (mS xS : List ℕ) : Type 0 where
  pub symbols : ℕ
  pub sound : Sound L symbols mS xS
  pub pairs : z.pairs ≡ length mS * (z.receivers + 1)

-- the sender and the receiver are there, and k pairs are found
pub record Ready (L : Limits) (z : Sizes) (xS xB ws : List ℕ) (k : ℕ) : Type 0 where
  pub sender : (mS : List ℕ) × Sending L z mS xS
  pub receiver : ReceiverOf L z xB ws
  pub working : Working z ws k

-- the pairs of the sender's state p are among those that there is room for
abbrev pub Inside : Sizes → ℕ → Type 0
Inside z p = code z.receivers p z.receivers < z.pairs

-- the pair is found
pub record FoundPair (z : Sizes) (ws : List ℕ) (pair : Pair) : Type 0 where
  pub small : pair.q.0 ≤ z.receivers
  pub found : Marked (memory_of z ws).found (code z.receivers pair.p.0 pair.q.0)

-- the search went on from k pairs found to k', and then D holds
pub record Did (S B : Rule → Type 0) (z : Sizes) (ws : List ℕ) (k : ℕ) (ws' : List ℕ) (k' : ℕ) (D : Memory → Type 0) : Type 0 where
  pub grew : Grew S B z.receivers z.pairs (memory_of z ws) k (memory_of z ws') k'
  pub done : D (memory_of z ws')

-- rule g of the sender, if it is a leaf rule, has its pair
pub record LeafDone (L : Limits) (z : Sizes) (xS xB : List ℕ) (g : ℕ) (m : Memory) : Type 0 where
  pub holds : at xS (g * L.width) ≡ leaf_kind → (q : ℕ) → LeafTo (Rules L xB) z.receivers (at xS (g * L.width + 1)) q
      → Marked m.found (code z.receivers (at xS (g * L.width + 3)) q)

-- rule g of the sender, if it is an ε rule from the pair's state, has its pair
pub record EpsDone (L : Limits) (z : Sizes) (xS : List ℕ) (p q g : ℕ) (m : Memory) : Type 0 where
  pub holds : at xS (g * L.width) ≡ eps_kind → at xS (g * L.width + 1) ≡ p
      → Marked m.found (code z.receivers (at xS (g * L.width + 3)) q)

-- all ε rules of the sender have their pairs with the pairs from place a of the queue up to e
abbrev pub EpsFrom : Limits → Sizes → List ℕ → ℕ → ℕ → Memory → Type 0
EpsFrom L z xS a e m =
    (j p q : ℕ) → a ≤ j → j < e → q ≤ z.receivers → at m.queue j ≡ code z.receivers p q
    → (g : ℕ) → RowIn L.width xS g → EpsDone L z xS p q g m

-- a row as a join rule, and this rule alone
abbrev pub the_rule_of : RuleRow → Rule
the_rule_of j = join_rule j.left j.right j.to

abbrev pub Only : RuleRow → Rule → Type 0
Only j r = r ≡ the_rule_of j

-- the receiver is there, and the three states of the join rule have room
pub record Joining (L : Limits) (z : Sizes) (xB ws : List ℕ) (j : RuleRow) (k : ℕ) : Type 0 where
  pub working : Working z ws k
  pub receiver : ReceiverOf L z xB ws
  pub left : Inside z j.left
  pub right : Inside z j.right
  pub to : Inside z j.to

-- its left state's pair with x and its right state's pair with y are joined, if both are taken
pub record Joined (L : Limits) (z : Sizes) (xB : List ℕ) (j : RuleRow) (x y : ℕ) (m : Memory) : Type 0 where
  pub holds : Taken m.found (code z.receivers j.left x) → Taken m.found (code z.receivers j.right y)
      → (q : ℕ) → JoinTo (Rules L xB) z.receivers x y q → Marked m.found (code z.receivers j.to q)

-- a pair is joined with the pair of y that fits, as the left part and as the right part
pub record BothJoined (L : Limits) (z : Sizes) (xB : List ℕ) (j : RuleRow) (pair : Pair) (y : ℕ) (m : Memory) : Type 0 where
  pub left : j.left ≡ pair.p.0 → Joined L z xB j pair.q.0 y m
  pub right : j.right ≡ pair.p.0 → Joined L z xB j y pair.q.0 m

-- a pair is joined by rule g of the sender, if it is a join rule, with all taken pairs
pub record JoinDone (L : Limits) (z : Sizes) (xS xB : List ℕ) (pair : Pair) (g : ℕ) (m : Memory) : Type 0 where
  pub holds : at xS (g * L.width) ≡ join_kind → (y : ℕ) → y < z.receivers + 1 → BothJoined L z xB (row_at L xS g) pair y m
