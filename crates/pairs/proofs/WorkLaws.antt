-- The work slice read and written, in the slice of a search: a pair of the queue, a pair taken, a pair added. Assumes nothing.
use Prim.Native.Nat.{ℕ, ◌+◌, ◌<◌, ◌≤◌}
use mathlib.Core.Path.{refl, sym, ap, ◌∙◌}
use mathlib.Core.Logic.{inl, inr, by_cases}
use mathlib.Core.List.{List}
use native.Mathlib.Decide.{ℕ_discrete}
use native.Mathlib.Omega.{arith}
use Rattle.paper.specs.Limits.{at}
use Rattle.tree.specs.Tree.{leaf_mark}
use Rattle.pairs.specs.declared.Pair.{Pair}
use Rattle.pairs.specs.declared.Queue.{Queue}
use Rattle.pairs.specs.declared.Sizes.{Sizes}
use Rattle.pairs.specs.Memory.{the_queue_at, Taken, taking}
use Rattle.pairs.specs.State.{code, Put}
use Rattle.pairs.specs.Work.{memory_of, PlaceRead, TakeRead, Added, new, old, TakenAt, Kept, Working, PairAt, Took}
use Rattle.pairs.proofs.MemoryLaws.{found_at_lem, queue_at, set_putting, set_taking}
use Rattle.pairs.proofs.StateLaws.{code_split, listed_inside, room}

-- what stays of a queue, in no step and in one after another
pub kept_here : {q : Queue} → Kept q q
kept_here = record { sizes = refl; same = refl; long = refl }

pub kept_then : {q q' q'' : Queue} → Kept q q' → Kept q' q'' → Kept q q''
kept_then x y = record { sizes = y.sizes ∙ x.sizes; same = y.same ∙ x.same; long = y.long ∙ x.long }

module _ {z : Sizes} {ws : List ℕ} {k : ℕ} (w : Working z ws k) where
  -- a pair of the queue that was read
  pub pair_read : {i : ℕ} {pair : Pair} → i < k → PlaceRead z ws i pair → PairAt z ws i pair
  pair_read {i} h r =
      let below : i < z.pairs = omega (arith, w.queued.count) in
      let (ep, eq) = r.inside (w.room, below) in
      let (a, b) = code_split z.receivers (at ws (the_queue_at z.base z.pairs + i)) in
      record { small = rw eq a; there = queue_at z.base z.pairs ws i below ∙ rw (ep, eq) b }

  -- and taken
  pub took : {i : ℕ} {ws' : List ℕ} {pair : Pair} → i < k → TakeRead z ws i ws' pair → Took z ws i ws' pair
  took {i} {pair = pair} h r =
      let a = pair_read h r.read in
      let c = code z.receivers pair.p.0 pair.q.0 in
      let below : c < z.pairs = rw (← a.there) (listed_inside w.queued i h) in
      record {
        pair_at_lem = a;
        taken = rw (r.inside (w.room, below)) (set_taking z.base z.pairs ws c below ∙ ap (λ (d : ℕ). taking (memory_of z ws) d) (sym a.there));
      }

  module _ {c : ℕ} (h : c < z.pairs) where
    -- whether a pair is taken
    pub taken_at : TakenAt z ws c → Taken (memory_of z ws).found c
    taken_at t = found_at_lem z.base z.pairs ws c h ∙ t.taken

    pub at_taken : Taken (memory_of z ws).found c → TakenAt z ws c
    at_taken t = record { place = (w.room, h); taken = sym (found_at_lem z.base z.pairs ws c h) ∙ t }

    -- a pair is added, or there
    pub added_put : {a b : ℕ} {ws' : List ℕ} {k' : ℕ} → a ≤ leaf_mark → b ≤ leaf_mark → Added z ws k c a b ws' k'
        → Put (memory_of z ws) k c a b (memory_of z ws') k'
    added_put {a} {b} x y (new f e) = inr (
      found_at_lem z.base z.pairs ws c h ∙ e,
      (set_putting z.base z.pairs ws k c a b f.place h, refl),
    )
    added_put x y (old n) = inl (
      rw (found_at_lem z.base z.pairs ws c h) (by_cases (ℕ_discrete (at ws (z.base + c)) 0)
          (λ e.
          let f = room w.queued c h (found_at_lem z.base z.pairs ws c h ∙ e) in
          absurd (n (record { room = w.room; place = f; pair = h; first = x; second = y }, e)))
          (λ d. omega arith)),
      (refl, refl),
    )
