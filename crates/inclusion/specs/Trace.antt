-- What a witness is written from: the queue of the pairs found, each behind its parts, whatever tables they are of; and the pair that
-- fails.
use Rattle.std.specs.Prelude.{ℕ, ◌≤◌, ◌<◌, ◌≡◌, ◌⊎◌, List, length}
use Rattle.paper.specs.Limits.{at}
use Rattle.tree.specs.Tree.{leaf_mark}
use Rattle.table.specs.Rules.{Rule, Final}
use Rattle.receiver.specs.Numbers.{Ends}
use Rattle.pairs.specs.Memory.{Memory, end_at}
use Rattle.pairs.specs.State.{code, eps_mark, State}
use Rattle.inclusion.specs.declared.witness.Entry.{Entry}

-- the pair d is a part of the pair c: one of c's two numbers names it
abbrev pub Uses : Memory → ℕ → ℕ → Type 0
Uses m c d =
    ((at m.rights c < leaf_mark) × (d ≡ at m.lefts c)) ⊎ ((at m.rights c < eps_mark) × (d ≡ at m.rights c))

-- the first k places of the queue, of N pairs in a memory that begins at b: each pair stands there once, behind its parts
pub record Traced (b N : ℕ) (m : Memory) (k : ℕ) : Type 0 where
  pub room : end_at b N ≤ m.size
  pub small : N < eps_mark
  pub few : k ≤ N
  pub found_size : length m.found ≡ N
  pub lefts_size : length m.lefts ≡ N
  pub inside : (j : ℕ) → j < k → at m.queue j < N
  pub distinct : (i j : ℕ) → i < k → j < k → at m.queue i ≡ at m.queue j → i ≡ j
  pub low : (j : ℕ) → j < k → at m.rights (at m.queue j) ≤ leaf_mark
  pub parts : (j d : ℕ) → j < k → Uses m (at m.queue j) d → (a : ℕ) × (a < j) × (at m.queue a ≡ d)

-- the pair at place j and its parts are numbers of pairs
pub record Ready (b N : ℕ) (m : Memory) (j : ℕ) : Type 0 where
  pub room : end_at b N ≤ m.size
  pub small : N < eps_mark
  pub place : j < N
  pub pair : at m.queue j < N
  pub low : at m.rights (at m.queue j) ≤ leaf_mark
  pub first : at m.rights (at m.queue j) < leaf_mark → at m.lefts (at m.queue j) < N
  pub second : at m.rights (at m.queue j) < eps_mark → at m.rights (at m.queue j) < N

-- what is kept of the pair at place j
pub record EntryAt (m : Memory) (j : ℕ) (r : Entry) : Type 0 where
  pub pair : r.pair ≡ at m.queue j
  pub mark : r.mark ≡ at m.found (at m.queue j)
  pub left : r.left ≡ at m.lefts (at m.queue j)
  pub right : r.right ≡ at m.rights (at m.queue j)

-- the pair at place i of the queue fails: its sender's state is final, and its receiver's state reaches no final state
pub record Failed (S B : Rule → Type 0) (mS mB : List ℕ) (n N : ℕ) (m : Memory) (i : ℕ) : Type 0 where
  pub count : ℕ
  pub state : State S B n N m count
  pub inside : i < count
  pub p : ℕ
  pub q : ℕ
  pub q_small : q ≤ n
  pub pair : at m.queue i ≡ code n p q
  pub final : Final mS p
  pub no_end_of : ¬ Ends B mB q
