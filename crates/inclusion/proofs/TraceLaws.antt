-- Laws of the queue that a witness is written from: the search leaves it so, its pairs and their parts are numbers of pairs, and these are
-- few. Assumes nothing.
use Prim.Native.Nat.{ℕ, ◌+◌, ◌≤◌, ◌<◌}
use mathlib.Core.Path.{◌≡◌, refl, sym, ap, ◌∙◌}
use mathlib.Core.Logic.{◌≢◌, inl, inr, by_cases}
use mathlib.Core.List.{List}
use native.Mathlib.Decide.{dec_lt}
use native.Mathlib.Nat.{mul-le-mul}
use native.Mathlib.Omega.{arith}
use lib.ListN.{length}
use Rattle.paper.specs.Limits.{limits, at}
use Rattle.tree.specs.Tree.{leaf_mark}
use Rattle.table.specs.Rules.{Rule}
use Rattle.pairs.specs.Memory.{Memory, found_at, the_queue_at, the_lefts_at, the_rights_at, end_at, memory, with_lefts}
use Rattle.pairs.specs.State.{eps_mark, Origin, State}
use Rattle.pairs.proofs.MemoryLaws.{size_of, found_at_lem, queue_at, lefts_at, rights_at}
use Rattle.pairs.proofs.StateLaws.{code_split, listed_inside}
use Rattle.inclusion.specs.Inclusion.{Lent, Good, most_nodes}
use Rattle.inclusion.specs.Trace.{Uses, Traced, Ready, EntryAt}
use Rattle.inclusion.specs.declared.witness.Entry.{Entry}

-- where a pair came from: its parts stand before it
module _ {S B : Rule → Type 0} {n j p q : ℕ} (m : Memory) (c : ℕ) where
  origin_low : {a b : ℕ} → b ≡ at m.rights c → Origin S B n m.queue j a b p q → at m.rights c ≤ leaf_mark
  origin_low e (inl o) = omega (arith, o.mark)
  origin_low e (inr (inl o)) = omega (arith, o.mark)
  origin_low e (inr (inr o)) = omega (arith, o.mark)

  origin_parts : {a b : ℕ} → a ≡ at m.lefts c → b ≡ at m.rights c → Origin S B n m.queue j a b p q
      → (d : ℕ) → Uses m c d → (i : ℕ) × (i < j) × (at m.queue i ≡ d)
  origin_parts ea eb (inl o) d (inl u) = absurd (omega (arith, o.mark, u.0))
  origin_parts ea eb (inl o) d (inr u) = absurd (omega (arith, o.mark, u.0))
  origin_parts ea eb (inr (inl o)) d (inl u) = (o.place, o.earlier, o.there ∙ ea ∙ sym u.1)
  origin_parts ea eb (inr (inl o)) d (inr u) = absurd (omega (arith, o.mark, u.0))
  origin_parts ea eb (inr (inr o)) d (inl u) = (o.place, o.earlier, o.there ∙ ea ∙ sym u.1)
  origin_parts ea eb (inr (inr o)) d (inr u) = (o.place2, o.earlier2, o.there2 ∙ eb ∙ sym u.1)

-- the search leaves the queue so
pub state_traced : {S B : Rule → Type 0} {n b N : ℕ} {m : Memory} {k : ℕ} → State S B n N m k → end_at b N ≤ m.size → N < eps_mark
    → (i : ℕ) → i < k → Traced b N m (i + 1)
state_traced {n = n} {m = m} s h l i hi =
    let u = s.queued in
    record {
      room = h;
      small = l;
      few = omega (arith, u.count);
      found_size = u.found_size;
      lefts_size = u.lefts_size;
      inside = λ j x. listed_inside u j (omega arith);
      distinct = λ a c x y. u.distinct a c (omega arith) (omega arith);
      low = λ j x.
          let (hq, e) = code_split n (at m.queue j) in
          origin_low m (at m.queue j) (ap (λ (c : ℕ). at m.rights c) (sym e)) (s.origin j _ _ (omega arith) hq e);
      parts = λ j d x.
          let (hq, e) = code_split n (at m.queue j) in
          origin_parts m (at m.queue j) (ap (λ (c : ℕ). at m.lefts c) (sym e)) (ap (λ (c : ℕ). at m.rights c) (sym e))
          (s.origin j _ _ (omega arith) hq e) d;
    }

module _ {b N : ℕ} {m : Memory} {k : ℕ} (t : Traced b N m k) where
  -- a part stands before its pair, wherever it stands
  pub uses_earlier : (j a : ℕ) → j < k → a < k → Uses m (at m.queue j) (at m.queue a) → a < j
  uses_earlier j a h l u =
      let (c, x, e) = t.parts j (at m.queue a) h u in
      let z : c ≡ a = t.distinct c a (omega arith) l e in
      omega arith

  uses_inside : (j d : ℕ) → j < k → Uses m (at m.queue j) d → d < N
  uses_inside j d h u = let (a, x, e) = t.parts j d h u in let y = t.inside a (omega arith) in omega arith

  -- each place can be walked over, and still if the left numbers of other places changed
  pub ready_lefts : (ls : List ℕ) (j : ℕ) → j < k → at ls (at m.queue j) ≡ at m.lefts (at m.queue j) → Ready b N (with_lefts m ls) j
  ready_lefts ls j h e = record {
    room = t.room;
    small = t.small;
    place = omega (arith, t.few);
    pair = t.inside j h;
    low = t.low j h;
    first = λ l. let y = uses_inside j (at m.lefts (at m.queue j)) h (inl (l, refl)) in omega arith;
    second = λ l. uses_inside j (at m.rights (at m.queue j)) h (inr (l, refl));
  }

  pub traced_ready : (j : ℕ) → j < k → Ready b N m j
  traced_ready j h = ready_lefts m.lefts j h refl

-- the pair at place j of the slice
abbrev pub pair_at : ℕ → ℕ → List ℕ → ℕ → ℕ
pair_at b N ws j = at ws (the_queue_at b N + j)

-- what `Ready` says of the numbers of the slice itself
pub record Placed (b N : ℕ) (ws : List ℕ) (j : ℕ) : Type 0 where
  pub room : end_at b N ≤ length ws
  pub small : N < eps_mark
  pub place : j < N
  pub pair : pair_at b N ws j < N

-- and of what was read at place j
pub record Seen (b N : ℕ) (ws : List ℕ) (r : Entry) : Type 0 where
  pub room : end_at b N ≤ length ws
  pub small : N < eps_mark
  pub pair : r.pair < N
  pub first : r.right ≢ leaf_mark → r.left < N
  pub join : r.right ≢ leaf_mark → r.right ≢ eps_mark → r.right < eps_mark
  pub second : r.right ≢ leaf_mark → r.right ≢ eps_mark → r.right < N

module _ {b N : ℕ} (ws : List ℕ) {j : ℕ} (y : Ready b N (memory b N ws) j) where
  pub placed : Placed b N ws j
  placed = record {
    room = rw (size_of b N ws) at y.room;
    small = y.small;
    place = y.place;
    pair = rw (queue_at b N ws j y.place) at y.pair;
  }

  pub entry_at : {r : Entry} → r.pair ≡ pair_at b N ws j → r.mark ≡ at ws (found_at b N + r.pair) → r.left ≡ at ws (the_lefts_at b N + r.pair)
      → r.right ≡ at ws (the_rights_at b N + r.pair) → EntryAt (memory b N ws) j r
  entry_at {r} e f g h =
      let q = e ∙ sym (queue_at b N ws j y.place) in
      let l : r.pair < N = let x = y.pair in omega arith in
      record {
        pair = q;
        mark = rw (← q) (f ∙ sym (found_at_lem b N ws r.pair l));
        left = rw (← q) (g ∙ sym (lefts_at b N ws r.pair l));
        right = rw (← q) (h ∙ sym (rights_at b N ws r.pair l));
      }

  pub seen : {r : Entry} → EntryAt (memory b N ws) j r → Seen b N ws r
  seen e =
      let p = e.pair in
      let l = e.left in
      let r = e.right in
      let lo = y.low in
      record {
        room = placed.room;
        small = y.small;
        pair = let x = y.pair in omega arith;
        first = λ d. let x = y.first (omega arith) in omega arith;
        join = λ d i. omega arith;
        second = λ d i. let x = y.second (omega arith) in omega arith;
      }

-- the pairs of two tables without a fault are few
pub most_few : (A B : Lent) → Good limits A → Good limits B → most_nodes A B ≤ limits.nodes
most_few A B s r =
    let x = few A s in
    let y = few B r in
    omega (arith, mul-le-mul {n₁ = length A.marks} {m₁ = length B.marks + 1} {n₂ = limits.states} {m₂ = limits.states + 1} x (omega arith))
  where
    few : (T : Lent) → Good limits T → length T.marks ≤ limits.states
    few T s = by_cases (dec_lt limits.states (length T.marks)) (λ h. absurd (s.size_good (inr (inr (inl h))))) (λ h. omega arith)
