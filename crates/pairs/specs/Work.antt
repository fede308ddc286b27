-- The work slice of a search: what the functions that read and write it do, on any slice; and what that is in the slice of a search.
use Rattle.std.specs.Prelude.{ℕ, ◌+◌, ◌*◌, ◌/◌, ◌%◌, ◌≤◌, ◌<◌, ◌≡◌, List, length, set}
use Rattle.paper.specs.Limits.{at}
use Rattle.tree.specs.Tree.{leaf_mark}
use Rattle.pairs.specs.declared.Pair.{Pair}
use Rattle.pairs.specs.declared.Queue.{Queue}
use Rattle.paper.specs.declared.RuleRow.{RuleRow}
use Rattle.pairs.specs.declared.Sizes.{Sizes}
use Rattle.pairs.specs.Memory.{Memory, memory, found_at, the_queue_at, the_lefts_at, the_rights_at, end_at, found_mark, taken_mark, taking}
use Rattle.pairs.specs.State.{code, eps_mark, Queued}

-- the parts of the work slice
abbrev pub memory_of : Sizes → List ℕ → Memory
memory_of z ws = memory z.base z.pairs ws

-- a slice of so many numbers has room for every pair, and numbers of pairs are none of the marks
pub record Room (z : Sizes) (size : ℕ) : Type 0 where
  pub few : z.pairs < eps_mark
  pub long : end_at z.base z.pairs ≤ size

-- rule i stands whole in the rules
abbrev pub RowIn : ℕ → List ℕ → ℕ → Type 0
RowIn w xs i = i * w + w ≤ length xs

-- r has the numbers of rule i
pub record IsRow (w : ℕ) (xs : List ℕ) (i : ℕ) (r : RuleRow) : Type 0 where
  pub kind : r.kind ≡ at xs (i * w)
  pub left : r.left ≡ at xs (i * w + 1)
  pub right : r.right ≡ at xs (i * w + 2)
  pub to : r.to ≡ at xs (i * w + 3)

-- rule i is read: its numbers, or zeros where it does not stand whole in the rules
pub record RowRead (w : ℕ) (xs : List ℕ) (i : ℕ) (r : RuleRow) : Type 0 where
  pub inside : RowIn w xs i → IsRow w xs i r
  pub outside : ¬ RowIn w xs i → r ≡ record { kind = 0; left = 0; right = 0; to = 0 }

-- the pair has the number c
abbrev pub HasNumber : ℕ → ℕ → Pair → Type 0
HasNumber n c pair = (pair.p.0 ≡ c / (n + 1)) × (pair.q.0 ≡ c % (n + 1))

-- there is a place i of the queue
abbrev pub PlaceIn : Sizes → ℕ → ℕ → Type 0
PlaceIn z size i = Room z size × (i < z.pairs)

-- the pair at place i of the queue is read: that of the number there, or that of 0 where there is no such place
pub record PlaceRead (z : Sizes) (ws : List ℕ) (i : ℕ) (pair : Pair) : Type 0 where
  pub inside : PlaceIn z (length ws) i → HasNumber z.receivers (at ws (the_queue_at z.base z.pairs + i)) pair
  pub outside : ¬ PlaceIn z (length ws) i → HasNumber z.receivers 0 pair

-- so the slice is where the pair c is taken
abbrev pub taken_slice : Sizes → List ℕ → ℕ → List ℕ
taken_slice z ws c = set ws (found_at z.base z.pairs + c) taken_mark

-- the pair at place i of the queue is read and taken, where there is room and its number is that of a pair
pub record TakeRead (z : Sizes) (ws : List ℕ) (i : ℕ) (ws' : List ℕ) (pair : Pair) : Type 0 where
  pub read : PlaceRead z ws i pair
  pub inside : PlaceIn z (length ws) (code z.receivers pair.p.0 pair.q.0)
      → ws' ≡ taken_slice z ws (code z.receivers pair.p.0 pair.q.0)
  pub outside : ¬ PlaceIn z (length ws) (code z.receivers pair.p.0 pair.q.0) → ws' ≡ ws

-- there is room for the pair c, with the numbers a and b, in a queue of k pairs
pub record Fits (z : Sizes) (size k c a b : ℕ) : Type 0 where
  pub room : Room z size
  pub place : k < z.pairs
  pub pair : c < z.pairs
  pub first : a ≤ leaf_mark
  pub second : b ≤ leaf_mark

-- so the slice is where the pair c stands at place k of the queue, with the numbers a and b
abbrev pub put_slice : Sizes → List ℕ → ℕ → ℕ → ℕ → ℕ → List ℕ
put_slice z ws k c a b =
    let u = set ws (found_at z.base z.pairs + c) found_mark in
    let v = set u (the_queue_at z.base z.pairs + k) c in
    set (set v (the_lefts_at z.base z.pairs + c) a) (the_rights_at z.base z.pairs + c) b

-- the pair c is put at place k, the end of the queue, if there is room for it and it is not found: the slice, and the queue's count
pub data Added (z : Sizes) (ws : List ℕ) (k c a b : ℕ) : List ℕ → ℕ → Type 0 where
  new : Fits z (length ws) k c a b → at ws (found_at z.base z.pairs + c) ≡ 0 → Added z ws k c a b (put_slice z ws k c a b) (k + 1)
  old : ¬ (Fits z (length ws) k c a b × (at ws (found_at z.base z.pairs + c) ≡ 0)) → Added z ws k c a b ws k

-- there is room, c is the number of a pair, and the pair is taken
pub record TakenAt (z : Sizes) (ws : List ℕ) (c : ℕ) : Type 0 where
  pub place : PlaceIn z (length ws) c
  pub taken : at ws (found_at z.base z.pairs + c) ≡ taken_mark

-- the queue is in the same slice as before, and its sizes stay
pub record Kept (q q' : Queue) : Type 0 where
  pub sizes : q'.sizes ≡ q.sizes
  pub same : q'.work.ghost_name ≡ q.work.ghost_name
  pub long : length q'.work.now ≡ length q.work.now

-- the work slice of a search: there is room, and k pairs are found
pub record Working (z : Sizes) (ws : List ℕ) (k : ℕ) : Type 0 where
  pub room : Room z (length ws)
  pub queued : Queued z.pairs (memory_of z ws) k

-- the pair at place i of its queue
pub record PairAt (z : Sizes) (ws : List ℕ) (i : ℕ) (pair : Pair) : Type 0 where
  pub small : pair.q.0 ≤ z.receivers
  pub there : at (memory_of z ws).queue i ≡ code z.receivers pair.p.0 pair.q.0

-- that pair is taken
pub record Took (z : Sizes) (ws : List ℕ) (i : ℕ) (ws' : List ℕ) (pair : Pair) : Type 0 where
  pub pair_at_lem : PairAt z ws i pair
  pub taken : memory_of z ws' ≡ taking (memory_of z ws) (at (memory_of z ws).queue i)
