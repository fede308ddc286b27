-- A receiver as the search has it: its rules, and at the front of the work slice the numbers of its states and the index of its join rules.
use Rattle.std.specs.Prelude.{ℕ, ◌+◌, ◌*◌, ◌≤◌, ◌≡◌, ◌≢◌, List, length, drop}
use Rattle.paper.specs.Limits.{Limits, at, join_kind}
use Rattle.table.specs.Rules.{Rule, RulesOf, Final}
use Rattle.table.specs.Check.{Sound}
use Rattle.joins.specs.Index.{Indexed}
use Rattle.receiver.specs.Receiver.{Receives}
use Rattle.receiver.specs.Numbers.{number, numbers_size, NumbersOf}
use Rattle.pairs.specs.declared.Pair.{Pair}
use Rattle.pairs.specs.declared.Sizes.{Sizes}
use Rattle.pairs.specs.Work.{memory_of, RowIn}

-- the rules of a table
abbrev pub Rules : Limits → List ℕ → Rule → Type 0
Rules L xs = RulesOf L.width xs

-- the receiver's table has no fault and is deterministic and factorized; first in the work slice stand the numbers of its states, then the
-- index of its join rules
pub record Receiving (L : Limits) (z : Sizes) (mB xB ws : List ℕ) : Type 0 where
  pub symbols : ℕ
  pub sound : Sound L symbols mB xB
  pub receives : Receives L mB xB
  pub states : length mB ≡ z.receivers
  pub numbers_in : numbers_size z.receivers ≤ z.index
  pub index_in : z.index ≤ z.base
  pub numbers : NumbersOf L mB xB (memory_of z ws).fixed
  pub index : Indexed L.width xB z.receivers (drop z.index (memory_of z ws).fixed)

-- the rules are a receiver's, of some marks, and the work slice has its numbers and its index
abbrev pub ReceiverOf : Limits → Sizes → List ℕ → List ℕ → Type 0
ReceiverOf L z xB ws = (mB : List ℕ) × Receiving L z mB xB ws

-- the third number of a leaf or ε rule is 0
abbrev pub Plain : Limits → List ℕ → Type 0
Plain L xs = (i : ℕ) → RowIn L.width xs i → at xs (i * L.width) ≢ join_kind → at xs (i * L.width + 2) ≡ 0

-- the front of the work slice has the numbers of the receiver's states
pub record Numbered (z : Sizes) (ws : List ℕ) : Type 0 where
  pub inside : numbers_size z.receivers ≤ z.base
  pub long : z.base ≤ length ws

-- the pair fails: the sender's state is final, and the receiver's numbers do not say that it reaches a final state
abbrev pub Fails : Sizes → List ℕ → List ℕ → Pair → Type 0
Fails z mS ws pair = Final mS pair.p.0 × (number (memory_of z ws).fixed pair.q.0 2 ≢ 1)
