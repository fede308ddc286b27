-- The walk down the queue: taking the marks away, one place of it, at the start, and after one place more. Assumes nothing.
use Prim.Native.Nat.{ℕ, ◌+◌, ◌≤◌, ◌<◌, ◌*◌, ◌-◌}
use mathlib.Core.Path.{◌≡◌, refl, sym, ap, ◌∙◌, subst}
use mathlib.Core.Logic.{◌≢◌, ◌⊎◌, inl, inr, by_cases, ⊎_elim}
use mathlib.Core.List.{List}
use native.Mathlib.Decide.{ℕ_discrete, dec_lt}
use native.Mathlib.Omega.{arith}
use lib.ListN.{length, set, length-set, get_or-eq_default}
use lib.Seq.{get_or-set_same, get_or-set_other}
use Rattle.paper.specs.Limits.{at}
use Rattle.tree.specs.Tree.{leaf_mark}
use Rattle.pairs.specs.Memory.{Memory, Marked, found_at, memory, with_found}
use Rattle.pairs.specs.State.{eps_mark}
use Rattle.pairs.proofs.MemoryLaws.{marked_inside, size_of, set_found, found_long, queue_at}
use Rattle.inclusion.specs.Trace.{Uses, Traced, EntryAt}
use Rattle.inclusion.specs.declared.witness.Entry.{Entry}
use Rattle.inclusion.specs.Write.{FoundOnly, need_mark, WantPair, want_none, want_leaf_of, want_eps_of, want_join_of, WantRow, Wanted, Wanting}
use lib.ListN.{take, drop, replicate, length-replicate}
use Rattle.std.proofs.lemmas.List.{get_or-replicate}
use borrow.Rule.Slice.PartMut.{put_mid}
use Rattle.std.proofs.Common.{rules}
use Rattle.std.proofs.lemmas.Slice.{overwrites, take-put_mid_below, between-put_mid, drop-put_mid}
use Rattle.inclusion.proofs.TraceLaws.{pair_at, Placed, Seen, placed, uses_earlier, traced_ready}

-- one change of the marks behind another
pub found_more : (m m' m'' : Memory) (xs : List ℕ) → FoundOnly m m' → m'' ≡ with_found m' xs → FoundOnly m m''
found_more m m' m'' xs a b =
    let e : m'' ≡ with_found m xs = b ∙ ap (λ (x : Memory). with_found x xs) a in
    e ∙ ap (λ (x : Memory). with_found m x.found) (sym e)

-- all marks written at once
fill_found : (b N : ℕ) (ws zs : List ℕ) → length zs ≡ N → b + N ≤ length ws → memory b N (put_mid b N ws zs) ≡ with_found (memory b N ws) zs
unfolding memory
fill_found b N ws zs e h =
    let l : length (put_mid b N ws zs) ≡ length ws = search (rules, overwrites) in
    let w : b + N - b ≡ N = omega arith in
    let g = between-put_mid b N ws zs (b + N) (omega arith) (omega (arith, e)) in
    let f : take N (drop b (put_mid b N ws zs)) ≡ zs = rw w at g in
    rw (
      l,
      take-put_mid_below b N ws zs b (omega arith) (omega arith),
      f,
      drop-put_mid b N ws zs (b + N) (omega arith) (omega arith) e,
      drop-put_mid b N ws zs (b + 2 * N) (omega arith) (omega arith) e,
      drop-put_mid b N ws zs (b + 3 * N) (omega arith) (omega arith) e,
    ) refl

-- a memory with the same size is that of a slice of the same length
pub same_size : (b N : ℕ) (ws ws' : List ℕ) → (memory b N ws').size ≡ (memory b N ws).size → length ws' ≡ length ws
same_size b N ws ws' e = sym (size_of b N ws') ∙ e ∙ size_of b N ws

-- the first c marks are taken away
pub record Clearing (b N : ℕ) (ws ws' : List ℕ) (c : ℕ) : Type 0 where
  pub size : length ws' ≡ length ws
  pub same : FoundOnly (memory b N ws) (memory b N ws')
  pub zero : (d : ℕ) → d < c → at (memory b N ws').found d ≡ 0

-- the queue is as it was where the marks alone changed
traced_found : {b N : ℕ} {m : Memory} {k : ℕ} → Traced b N m k → (xs : List ℕ) → length xs ≡ N → Traced b N (with_found m xs) k
traced_found t xs e = record {
  room = t.room;
  small = t.small;
  few = t.few;
  found_size = e;
  lefts_size = t.lefts_size;
  inside = t.inside;
  distinct = t.distinct;
  low = t.low;
  parts = t.parts;
}

clearing_traced : {b N : ℕ} {ws ws' : List ℕ} {c q : ℕ} → Traced b N (memory b N ws) q → Clearing b N ws ws' c → Traced b N (memory b N ws') q
clearing_traced {b} {N} {ws} {ws'} {q = q} t k =
    subst (λ (x : Memory). Traced b N x q) (sym k.same)
    (traced_found t (memory b N ws').found (found_long b N ws' (omega (arith, t.room, size_of b N ws, k.size))))

-- the marks stand within the slice
pub marks_inside : {b N q : ℕ} (ws : List ℕ) → Traced b N (memory b N ws) q → b + N ≤ length ws
marks_inside {b} {N} ws t = omega (arith, t.room, size_of b N ws)

module _ {b N : ℕ} {ws : List ℕ} where
  -- all marks are taken away at once
  pub clearing_all : {zs : List ℕ} {k m q : ℕ} → Traced b N (memory b N ws) q → k ≡ N → m ≡ N → zs ≡ replicate m 0
      → Clearing b N ws (put_mid b k ws zs) N
  clearing_all {zs} {k} {m} t d e z =
      let l : length zs ≡ N = ap (λ (x : List ℕ). length x) z ∙ length-replicate {A = ℕ} m 0 ∙ e in
      let h = marks_inside ws t in
      let f = fill_found b N ws zs l h in
      rw d (record {
        size = search (rules, overwrites);
        same = found_more (memory b N ws) (memory b N ws) _ zs refl f;
        zero = λ x r. ap (λ (y : Memory). at y.found x) f ∙ ap (λ (y : List ℕ). at y x) z ∙ get_or-replicate m x 0 0 (omega arith);
      })

-- one place of the walk, from what was read there
module _ {b N : ℕ} {ws : List ℕ} {j : ℕ} {r : Entry} (s : Seen b N ws r) (e : EntryAt (memory b N ws) j r) where
  pub want_none_lem : r.mark ≡ 0 → WantRow (memory b N ws) j (memory b N ws)
  want_none_lem h = want_none (sym e.mark ∙ h)

  pub want_leaf : r.right ≡ leaf_mark → WantRow (memory b N ws) j (memory b N ws)
  want_leaf h = want_leaf_of (sym e.right ∙ h)

  pub want_eps : r.mark ≢ 0 → r.right ≡ eps_mark
      → WantRow (memory b N ws) j (memory b N (set ws (found_at b N + r.left) need_mark))
  want_eps d h =
      let x = e.mark in
      let y = e.right in
      rw (set_found b N ws r.left need_mark (s.first (omega arith)), e.left) (want_eps_of (omega arith) (omega arith))

  pub want_join : r.mark ≢ 0 → r.right ≢ leaf_mark → r.right ≢ eps_mark
      → WantRow (memory b N ws) j (memory b N (set (set ws (found_at b N + r.left) need_mark) (found_at b N + r.right) need_mark))
  want_join d h i =
      let x = e.mark in
      let y = e.right in
      let z = s.join h i in
      rw (
        set_found b N (set ws (found_at b N + r.left) need_mark) r.right need_mark (s.second h i),
        set_found b N ws r.left need_mark (s.first h),
        e.left,
        e.right,
      ) (want_join_of (omega arith) (omega arith))

-- marks set
set_marked : (f : List ℕ) (c d : ℕ) → Marked f d → Marked (set f c need_mark) d
set_marked f c d h = by_cases (ℕ_discrete d c)
    (λ e. rw (e, get_or-set_same f c need_mark 0 (rw e at (marked_inside f d h))) (omega arith))
    (λ e. rw (get_or-set_other f c d need_mark 0 e) h)

set_only : (f : List ℕ) (c d : ℕ) → Marked (set f c need_mark) d → Marked f d ⊎ (d ≡ c)
set_only f c d h = by_cases (ℕ_discrete d c) (λ e. inr e) (λ e. inl (rw (get_or-set_other f c d need_mark 0 e) at h))

set_here : (f : List ℕ) (c : ℕ) → c < length f → Marked (set f c need_mark) c
set_here f c h = rw (get_or-set_same f c need_mark 0 h) (omega arith)

-- what a place marks
record Marks (m m' : Memory) (c : ℕ) : Type 0 where
  pub same : FoundOnly m m'
  pub long : length m'.found ≡ length m.found
  pub kept : (d : ℕ) → Marked m.found d → Marked m'.found d
  pub closed : Marked m.found c → (d : ℕ) → Uses m c d → Marked m'.found d
  pub only : (d : ℕ) → Marked m'.found d → Marked m.found d ⊎ (Marked m.found c × Uses m c d)

module _ {m : Memory} {c : ℕ} (first : at m.rights c < leaf_mark → at m.lefts c < length m.found)
    (second : at m.rights c < eps_mark → at m.rights c < length m.found) where
  marks : {m' : Memory} → WantPair m c m' → Marks m m' c
  marks (want_none e) = record { same = refl; long = refl; kept = λ d h. h; closed = λ h. absurd (omega arith); only = λ d h. inl h }
  marks (want_leaf_of e) = record {
    same = refl;
    long = refl;
    kept = λ d h. h;
    closed = λ h d. ⊎_elim (λ x. absurd (omega (arith, x.0))) (λ x. absurd (omega (arith, x.0)));
    only = λ d h. inl h;
  }
  marks (want_eps_of k e) =
      let f = m.found in
      let a = at m.lefts c in
      record {
        same = refl;
        long = length-set f a need_mark;
        kept = set_marked f a;
        closed = λ h d. ⊎_elim (λ x. rw x.1 (set_here f a (first (omega arith)))) (λ x. absurd (omega (arith, x.0)));
        only = λ d h. ⊎_elim (λ x. inl x) (λ x. inr (k, inl (omega arith, x))) (set_only f a d h);
      }
  marks (want_join_of k e) =
      let f = m.found in
      let a = at m.lefts c in
      let b = at m.rights c in
      let g = set f a need_mark in
      let l = length-set f a need_mark in
      record {
        same = refl;
        long = length-set g b need_mark ∙ l;
        kept = λ d h. set_marked g b d (set_marked f a d h);
        closed = λ h d. ⊎_elim
            (λ x. rw x.1 (set_marked g b a (set_here f a (first (omega arith)))))
            (λ x. rw x.1 (set_here g b (let y = second e in omega arith)));
        only = λ d h. ⊎_elim
            (λ (x : Marked g d). ⊎_elim (λ y. inl y) (λ y. inr (k, inl (omega arith, y))) (set_only f a d x))
            (λ x. inr (k, inr (e, x)))
            (set_only g b d h);
      }

-- the places from j on are done, with that of place j
wanted_more : {b N : ℕ} {m m' : Memory} {i j : ℕ} → Traced b N m (i + 1) → j ≤ i → Wanted m i (j + 1) → Marks m m' (at m.queue j)
    → Wanted (with_found m m'.found) i j
wanted_more {m} {m'} {i} {j} t hj w s = record {
  root = s.kept (at m.queue i) w.root;
  closed = λ a ha hi k d x.
      let old : Marked m.found (at m.queue a) =
      ⊎_elim (λ y. y) (λ y. absurd (let z = uses_earlier t j a (omega arith) (omega arith) y.1 in omega arith)) (s.only (at m.queue a) k) in
      by_cases (ℕ_discrete a j)
      (λ (e : a ≡ j). s.closed (rw e at old) d (rw e at x))
      (λ e. s.kept d (w.closed a (omega arith) hi old d x));
  used = λ a ha k. ⊎_elim
      (λ y. let (c, x, z, v, u) = w.used a ha y in (c, x, z, s.kept (at m.queue c) v, u))
      (λ y. (j, uses_earlier t j a (omega arith) (omega arith) y.1, hj, s.kept (at m.queue j) y.0, y.1))
      (s.only (at m.queue a) k);
}

-- the walk begins: the pair at place i alone is marked
wanting_root : {b N : ℕ} {m : Memory} {i : ℕ} → Traced b N m (i + 1) → (f : List ℕ) → length f ≡ N → ((c : ℕ) → at f c ≡ 0)
    → Wanting b N m (with_found m (set f (at m.queue i) need_mark)) i (i + 1)
wanting_root {m} {i} t f l z =
    let c = at m.queue i in
    record {
      same = refl;
      traced = traced_found t (set f c need_mark) (length-set f c need_mark ∙ l);
      wanted = record {
        root = set_here f c (let x = t.inside i (omega arith) in omega arith);
        closed = λ a x y. absurd (omega arith);
        used = λ a x k. ⊎_elim
            (λ y. absurd (omega (arith, z (at m.queue a))))
            (λ y. absurd (let e = t.distinct a i (omega arith) (omega arith) y in omega arith))
            (set_only f c (at m.queue a) k);
      };
    }

module _ {b N : ℕ} {ws ws' : List ℕ} {i c : ℕ} (t : Traced b N (memory b N ws) (i + 1)) (k : Clearing b N ws ws' c) where
  pub clearing_placed : Placed b N ws' i
  clearing_placed = placed ws' (traced_ready (clearing_traced t k) i (omega arith))

  pub wanting_none : N ≤ c → Wanting b N (memory b N ws) (memory b N (set ws' (found_at b N + pair_at b N ws' i) need_mark)) i (i + 1)
  wanting_none h =
      let f = (memory b N ws').found in
      let p = pair_at b N ws' i in
      let l : length f ≡ N = (clearing_traced t k).found_size in
      let z : (d : ℕ) → at f d ≡ 0 = λ d. by_cases (dec_lt d c) (λ x. k.zero d x) (λ x. get_or-eq_default f 0 {n = d} (omega arith)) in
      let e = queue_at b N ws' i clearing_placed.place in
      let w = rw e at (wanting_root (clearing_traced t k) f l z) in
      let m = set_found b N ws' p need_mark clearing_placed.pair in
      rw m (record { same = found_more (memory b N ws) (memory b N ws') _ (set f p need_mark) k.same refl; traced = w.traced; wanted = w.wanted })

module _ {b N : ℕ} {m m' : Memory} {i : ℕ} where
  -- where it began is of no matter
  pub wanting_here : {j : ℕ} → Wanting b N m m' i j → Wanting b N m' m' i j
  wanting_here w = record { same = refl; traced = w.traced; wanted = w.wanted }

  pub wanting_from : {m'' : Memory} {k j : ℕ} → Wanting b N m m' i k → Wanting b N m' m'' i j → Wanting b N m m'' i j
  wanting_from {m''} v w = record { same = found_more m m' m'' m''.found v.same w.same; traced = w.traced; wanted = w.wanted }

  -- one place more
  pub wanting_more : {m'' : Memory} {k j : ℕ} → j ≤ i → k ≡ j + 1 → Wanting b N m m' i k → WantRow m' j m'' → Wanting b N m m'' i j
  wanting_more {m''} {j = j} h e w r =
      let t = w.traced in
      let y = traced_ready t j (omega arith) in
      let s : Marks m' m'' (at m'.queue j) =
      marks (λ x. let z = y.first x in omega (arith, t.found_size)) (λ x. let z = y.second x in omega (arith, t.found_size)) r in
      record {
        same = found_more m m' m'' m''.found w.same s.same;
        traced = subst (λ (x : Memory). Traced b N x (i + 1)) (sym s.same) (traced_found t m''.found (s.long ∙ t.found_size));
        wanted = subst (λ (x : Memory). Wanted x i j) (sym s.same) (wanted_more t h (rw e at w.wanted) s);
      }

pub wanting_length : {b N : ℕ} (ws ws' : List ℕ) {i j : ℕ} → Wanting b N (memory b N ws) (memory b N ws') i j → length ws' ≡ length ws
wanting_length {b} {N} ws ws' w = same_size b N ws ws' (ap (λ (x : Memory). x.size) w.same)
