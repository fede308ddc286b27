-- The three numbers of a receiver's state: the one state that it reaches by ε steps and that may stand left, the one that may stand
-- right, and whether it reaches a final state. The number n of states stands for no state; as a state it reaches nothing else.
use Rattle.std.specs.Prelude.{ℕ, ◌+◌, ◌*◌, ◌≤◌, ◌≡◌, ◌↔◌, ◌⊎◌, List, length}
use Rattle.paper.specs.Limits.{Limits, at}
use Rattle.table.specs.Rules.{Rule, RulesOf, Reach, Final}
use Rattle.receiver.specs.Receiver.{MayLeft, MayRight}

-- l is the state that p reaches and that has the property P, or n if p reaches none
abbrev pub OneOf : (Rule → Type 0) → ℕ → (ℕ → Type 0) → ℕ → ℕ → Type 0
OneOf R n P p l = (Reach R p l × P l) ⊎ ((l ≡ n) × ((q : ℕ) → Reach R p q → ¬ P q))

-- a final state is reached from p
pub record Ends (R : Rule → Type 0) (ms : List ℕ) (p : ℕ) : Type 0 where
  pub state : ℕ
  pub reached : Reach R p state
  pub final : Final ms state

-- so many numbers has a state
abbrev pub numbers_each : ℕ
numbers_each = 3

-- so many numbers have n states and the sink
abbrev pub numbers_size : ℕ → ℕ
numbers_size n = numbers_each * (n + 1)

-- number k of state p
abbrev pub number : List ℕ → ℕ → ℕ → ℕ
number ns p k = at ns (numbers_each * p + k)

-- the numbers at the front of ns are those of the table's states and of the sink
pub record NumbersOf (L : Limits) (ms xs ns : List ℕ) : Type 0 where
  pub lefts : (p : ℕ) → p ≤ length ms → OneOf (RulesOf L.width xs) (length ms) (MayLeft ms) p (number ns p 0)
  pub rights : (p : ℕ) → p ≤ length ms → OneOf (RulesOf L.width xs) (length ms) (MayRight ms) p (number ns p 1)
  pub ends : (p : ℕ) → p ≤ length ms → number ns p 2 ≡ 1 ↔ Ends (RulesOf L.width xs) ms p
  pub bits : (p : ℕ) → p ≤ length ms → number ns p 2 ≤ 1
