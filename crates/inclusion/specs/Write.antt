-- The two walks that write a witness: down the queue, marking the pairs that the failing pair needs, then up, writing a node for each; and
-- what they come to.
use Rattle.std.specs.Prelude.{ℕ, ◌+◌, ◌*◌, ◌≤◌, ◌<◌, ◌≡◌, List, length, set}
use Rattle.paper.specs.Limits.{at, limits}
use Rattle.tree.specs.Tree.{leaf_mark}
use Rattle.table.specs.Rules.{RulesOf}
use Rattle.pairs.specs.Memory.{Memory, Marked, memory, with_found, with_lefts}
use Rattle.pairs.specs.State.{eps_mark}
use Rattle.pairs.specs.declared.Sizes.{Sizes}
use Rattle.inclusion.specs.Inclusion.{Lent, Good, GoodReceiver, most_nodes, Witnessed}
use Rattle.inclusion.specs.Trace.{Uses, Traced, Failed}

-- the memory changed in the found part alone
abbrev pub FoundOnly : Memory → Memory → Type 0
FoundOnly m m' = m' ≡ with_found m m'.found

-- the mark of a pair that is needed
abbrev pub need_mark : ℕ
need_mark = 1

-- the parts of the pair c are marked, if it is marked
pub data WantPair (m : Memory) (c : ℕ) : Memory → Type 0 where
  want_none : at m.found c ≡ 0 → WantPair m c m
  want_leaf_of : at m.rights c ≡ leaf_mark → WantPair m c m
  want_eps_of : Marked m.found c → at m.rights c ≡ eps_mark → WantPair m c (with_found m (set m.found (at m.lefts c) need_mark))
  want_join_of : Marked m.found c → at m.rights c < eps_mark
      → WantPair m c (with_found m (set (set m.found (at m.lefts c) need_mark) (at m.rights c) need_mark))

-- one place of the walk down
abbrev pub WantRow : Memory → ℕ → Memory → Type 0
WantRow m j m' = WantPair m (at m.queue j) m'

-- the walk down from place i has come to place j: the pair at i is marked, the parts of marked pairs from j on are, and each marked pair
-- but that at i is a part of a marked pair behind it
pub record Wanted (m : Memory) (i j : ℕ) : Type 0 where
  pub root : Marked m.found (at m.queue i)
  pub closed : (a : ℕ) → j ≤ a → a ≤ i → Marked m.found (at m.queue a) → (d : ℕ) → Uses m (at m.queue a) d → Marked m.found d
  pub used : (a : ℕ) → a < i → Marked m.found (at m.queue a)
      → (c : ℕ) × (a < c) × (c ≤ i) × Marked m.found (at m.queue c) × Uses m (at m.queue c) (at m.queue a)

-- the walk down began with the memory m, which is now m'
pub record Wanting (b N : ℕ) (m m' : Memory) (i j : ℕ) : Type 0 where
  pub same : FoundOnly m m'
  pub traced : Traced b N m' (i + 1)
  pub wanted : Wanted m' i j

-- the pair c, if it is marked, gets a node, k nodes being there, or the node of its part, if an ε rule gave it; the number of its node
-- stands then in place of its left number
pub data WritePair (m : Memory) (ws : List ℕ) (k c : ℕ) : Memory → List ℕ → ℕ → Type 0 where
  write_none_of : at m.found c ≡ 0 → WritePair m ws k c m ws k
  write_leaf_of : Marked m.found c → at m.rights c ≡ leaf_mark
      → WritePair m ws k c (with_lefts m (set m.lefts c k)) (set (set ws (2 * k) (at m.lefts c)) (2 * k + 1) leaf_mark) (k + 1)
  write_eps_of : Marked m.found c → at m.rights c ≡ eps_mark
      → WritePair m ws k c (with_lefts m (set m.lefts c (at m.lefts (at m.lefts c)))) ws k
  write_join_of : Marked m.found c → at m.rights c < eps_mark
      → WritePair m ws k c (with_lefts m (set m.lefts c k))
      (set (set ws (2 * k) (at m.lefts (at m.lefts c))) (2 * k + 1) (at m.lefts (at m.rights c))) (k + 1)

-- one place of the walk up, in the slices themselves
abbrev pub WriteRow : ℕ → ℕ → List ℕ → List ℕ → ℕ → ℕ → List ℕ → List ℕ → ℕ → Type 0
WriteRow b N W ws k j W' ws' k' = WritePair (memory b N W) ws k (at (memory b N W).queue j) (memory b N W') ws' k'

-- the witness of the pair at place i can be written
pub record Writable (z : Sizes) (W ws : List ℕ) (i : ℕ) : Type 0 where
  pub traced : Traced z.base z.pairs (memory z.base z.pairs W) (i + 1)
  pub room : 2 * z.pairs ≤ length ws

-- the work memory W is then W', and the witness slice ws is ws': whatever tables the pairs are of, if the pair at place i fails, the first
-- k nodes are a witness
pub record Writes (z : Sizes) (W W' ws ws' : List ℕ) (i k : ℕ) : Type 0 where
  pub work_size : length W' ≡ length W
  pub size : length ws' ≡ length ws
  pub witnessed : (A B : Lent) → Good limits A → GoodReceiver limits B → z.pairs ≡ most_nodes A B
      → Failed (RulesOf limits.width A.rules) (RulesOf limits.width B.rules) A.marks B.marks (length B.marks) z.pairs
      (memory z.base z.pairs W) i
      → Witnessed limits A B ws ws' k
