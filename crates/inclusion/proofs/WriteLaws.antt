-- The walk up the queue: one place of it, at the start, and after one place more. Assumes nothing.
use Prim.Native.Nat.{ℕ, ◌+◌, ◌*◌, ◌-◌, ◌≤◌, ◌<◌}
use mathlib.Core.Path.{◌≡◌, refl, sym, ap, ◌∙◌, subst}
use mathlib.Core.Logic.{◌≢◌, inl, inr, by_cases}
use mathlib.Core.List.{List}
use native.Mathlib.Decide.{ℕ_discrete, dec_lt}
use native.Mathlib.Omega.{arith}
use lib.ListN.{length, drop, set, length-set}
use lib.Seq.{get_or-set_same, get_or-set_other, drop-set-lt, drop-drop}
use Rattle.paper.specs.Limits.{at}
use Rattle.tree.specs.Tree.{leaf_mark}
use Rattle.pairs.specs.Memory.{Memory, Marked, the_lefts_at, memory, with_lefts}
use Rattle.pairs.specs.State.{eps_mark, Keeps}
use Rattle.pairs.proofs.MemoryLaws.{set_lefts, lefts_at}
use Rattle.inclusion.specs.Trace.{Uses, Traced, Ready, EntryAt}
use Rattle.inclusion.specs.declared.witness.Entry.{Entry}
use Rattle.inclusion.specs.Write.{WritePair, write_none_of, write_leaf_of, write_eps_of, write_join_of, WriteRow, Wanted}
use Rattle.inclusion.proofs.TraceLaws.{Seen, ready_lefts}

-- node v is a leaf of the symbol a, or a join of the nodes x and y, which are earlier
abbrev pub LeafNode : List ℕ → ℕ → ℕ → Type 0
LeafNode ws v a = (at ws (2 * v) ≡ a) × (at ws (2 * v + 1) ≡ leaf_mark)

abbrev pub JoinNode : List ℕ → ℕ → ℕ → ℕ → Type 0
JoinNode ws v x y = (at ws (2 * v) ≡ x) × (at ws (2 * v + 1) ≡ y) × (x < v) × (y < v)

-- node v of the first k of ws is that of the pair c of the memory m; ls are the numbers of the nodes of c's parts
pub record Numbered (m : Memory) (ls ws : List ℕ) (k c v : ℕ) : Type 0 where
  pub below : v < k
  pub as_leaf : at m.rights c ≡ leaf_mark → LeafNode ws v (at m.lefts c)
  pub as_eps : at m.rights c ≡ eps_mark → v ≡ at ls (at m.lefts c)
  pub as_join : at m.rights c < eps_mark → JoinNode ws v (at ls (at m.lefts c)) (at ls (at m.rights c))

-- the marked pairs before place j have their nodes, k in all, and each node is that of one of them
pub record Nodes (m : Memory) (ls ws : List ℕ) (k j : ℕ) : Type 0 where
  pub count : k ≤ j
  pub numbered : (a : ℕ) → a < j → Marked m.found (at m.queue a) → Numbered m ls ws k (at m.queue a) (at ls (at m.queue a))
  pub owned : (v : ℕ) → v < k → (a : ℕ) × (a < j) × Marked m.found (at m.queue a) × (at ls (at m.queue a) ≡ v)
      × (at m.rights (at m.queue a) ≢ eps_mark)

-- the walk up to place i has come to place j; it began with the memory m and the slice ws, which are now m' and ws'
pub record Writing (m m' : Memory) (ws ws' : List ℕ) (i k j : ℕ) : Type 0 where
  pub same : m' ≡ with_lefts m m'.lefts
  pub long : length m'.lefts ≡ length m.lefts
  pub later : (a : ℕ) → j ≤ a → a ≤ i → at m'.lefts (at m.queue a) ≡ at m.lefts (at m.queue a)
  pub size : length ws' ≡ length ws
  pub rest : drop (2 * k) ws' ≡ drop (2 * k) ws
  pub nodes : Nodes m m'.lefts ws' k j

-- one place of the walk, from what was read there
module _ {b N : ℕ} {ws : List ℕ} {j : ℕ} {r : Entry} (s : Seen b N ws r) (e : EntryAt (memory b N ws) j r) {out : List ℕ} {k : ℕ} where
  pub write_none : r.mark ≡ 0 → WriteRow b N ws out k j ws out k
  write_none h = write_none_of (sym e.mark ∙ h)

  write_leaf_lem : {out' : List ℕ} → r.mark ≢ 0 → r.right ≡ leaf_mark → out' ≡ set (set out (2 * k) r.left) (2 * k + 1) leaf_mark
      → WriteRow b N ws out k j (set ws (the_lefts_at b N + r.pair) k) out' (k + 1)
  write_leaf_lem d h o =
      let x = e.mark in
      let y = e.right in
      rw (o, set_lefts b N ws r.pair k s.pair, e.left, e.pair) (write_leaf_of (omega arith) (omega arith))

  pub write_eps_lem : {x : ℕ} → r.mark ≢ 0 → r.right ≡ eps_mark → (r.right ≢ leaf_mark → x ≡ at ws (the_lefts_at b N + r.left))
      → WriteRow b N ws out k j (set ws (the_lefts_at b N + r.pair) x) out k
  write_eps_lem {x} d h i =
      let y = e.mark in
      let z = e.right in
      let n : r.right ≢ leaf_mark = λ l. omega arith in
      let v : x ≡ at (memory b N ws).lefts r.left = i n ∙ sym (lefts_at b N ws r.left (s.first n)) in
      rw (set_lefts b N ws r.pair x s.pair, v, e.left, e.pair) (write_eps_of (omega arith) (omega arith))

  write_join_lem : {x y : ℕ} {out' : List ℕ} → r.mark ≢ 0 → r.right ≢ leaf_mark → r.right ≢ eps_mark
      → x ≡ at ws (the_lefts_at b N + r.left) → y ≡ at ws (the_lefts_at b N + r.right) → out' ≡ set (set out (2 * k) x) (2 * k + 1) y
      → WriteRow b N ws out k j (set ws (the_lefts_at b N + r.pair) k) out' (k + 1)
  write_join_lem {x} {y} d h i ex ey o =
      let z = e.mark in
      let l = e.right in
      let n = s.join h i in
      let u : x ≡ at (memory b N ws).lefts r.left = ex ∙ sym (lefts_at b N ws r.left (s.first h)) in
      let v : y ≡ at (memory b N ws).lefts r.right = ey ∙ sym (lefts_at b N ws r.right (s.second h i)) in
      rw (o, set_lefts b N ws r.pair k s.pair, u, v, e.left, e.right, e.pair) (write_join_of (omega arith) (omega arith))

  -- a leaf or a join, its two numbers as `part` tells them
  pub write_node_lem : {x y : ℕ} {out' : List ℕ} → r.mark ≢ 0 → r.right ≢ eps_mark
      → (r.right ≡ leaf_mark → x ≡ r.left) × (r.right ≢ leaf_mark → x ≡ at ws (the_lefts_at b N + r.left))
      → (r.right ≡ leaf_mark → y ≡ r.right) × (r.right ≢ leaf_mark → y ≡ at ws (the_lefts_at b N + r.right))
      → out' ≡ set (set out (2 * k) x) (2 * k + 1) y
      → WriteRow b N ws out k j (set ws (the_lefts_at b N + r.pair) k) out' (k + 1)
  write_node_lem d i fx fy o = by_cases (ℕ_discrete r.right leaf_mark)
      (λ h. write_leaf_lem d h (o ∙ rw (fx.0 h, fy.0 h, h)))
      (λ h. write_join_lem d h i (fx.1 h) (fy.1 h) o)

-- two numbers stored behind k nodes
record Stored (out out' : List ℕ) (k x y : ℕ) : Type 0 where
  pub long : length out' ≡ length out
  pub keep : Keeps out out' (2 * k)
  pub first : at out' (2 * k) ≡ x
  pub second : at out' (2 * k + 1) ≡ y
  pub rest : drop (2 * (k + 1)) out' ≡ drop (2 * (k + 1)) out

stored : (out : List ℕ) (k x y : ℕ) → 2 * k + 1 < length out → Stored out (set (set out (2 * k) x) (2 * k + 1) y) k x y
stored out k x y h =
    let o = set out (2 * k) x in
    let l = length-set out (2 * k) x in
    record {
      long = length-set o (2 * k + 1) y ∙ l;
      keep = λ j i. get_or-set_other o (2 * k + 1) j y 0 (omega arith) ∙ get_or-set_other out (2 * k) j x 0 (omega arith);
      first = get_or-set_other o (2 * k + 1) (2 * k) y 0 (omega arith) ∙ get_or-set_same out (2 * k) x 0 (omega arith);
      second = get_or-set_same o (2 * k + 1) y 0 (omega arith);
      rest = drop-set-lt (2 * (k + 1)) o (2 * k + 1) y (omega arith) ∙ drop-set-lt (2 * (k + 1)) out (2 * k) x (omega arith);
    }

-- a node stays that of its pair
pub numbered_keep : {m : Memory} (ls ls' ws ws' : List ℕ) {k k' c v : ℕ} → k ≤ k' → Keeps ws ws' (2 * k)
    → ((d : ℕ) → Uses m c d → at ls' d ≡ at ls d) → Numbered m ls ws k c v → Numbered m ls' ws' k' c v
numbered_keep {m} ls ls' ws ws' {v = v} h kp p n =
    let lt = n.below in
    let e1 = kp (2 * v) (omega arith) in
    let e2 = kp (2 * v + 1) (omega arith) in
    record {
      below = omega arith;
      as_leaf = λ e. rw (e1, e2) (n.as_leaf e);
      as_eps = λ e. n.as_eps e ∙ sym (p _ (inl (omega arith, refl)));
      as_join = λ e. rw (e1, e2, p _ (inl (omega arith, refl)), p _ (inr (e, refl))) (n.as_join e);
    }

-- what is the same behind k nodes is so behind more
drop_on : {k k' : ℕ} (xs ys : List ℕ) → k ≤ k' → drop (2 * k) xs ≡ drop (2 * k) ys → drop (2 * k') xs ≡ drop (2 * k') ys
drop_on {k} {k'} xs ys h e =
    let i : 2 * k' ≡ 2 * k + 2 * (k' - k) = omega arith in
    rw i (sym (drop-drop (2 * (k' - k)) (2 * k) xs) ∙ ap (λ (zs : List ℕ). drop (2 * (k' - k)) zs) e ∙ drop-drop (2 * (k' - k)) (2 * k) ys)

module _ {b N : ℕ} {m : Memory} {i : ℕ} (t : Traced b N m (i + 1)) where
  -- nothing is written
  pub writing_none : (ws : List ℕ) → Writing m m ws ws i 0 0
  writing_none ws = record {
    same = refl;
    long = refl;
    later = λ a h l. refl;
    size = refl;
    rest = refl;
    nodes = record { count = omega arith; numbered = λ a h. absurd (omega arith); owned = λ v h. absurd (omega arith) };
  }

  -- the next place can be walked over
  pub writing_ready : {m' : Memory} {ws ws' : List ℕ} {k j : ℕ} → j ≤ i → Writing m m' ws ws' i k j → Ready b N m' j
  writing_ready {m'} {j = j} h w =
      subst (λ (x : Memory). Ready b N x j) (sym w.same) (ready_lefts t m'.lefts j (omega arith) (w.later j (omega arith) h))

  module _ (wa : Wanted m i 0) {ls ws ws' : List ℕ} {k j : ℕ} (hj : j ≤ i) (w : Writing m (with_lefts m ls) ws ws' i k j) where
    -- a part of the pair at place j has its node
    part_below : (d : ℕ) → Marked m.found (at m.queue j) → Uses m (at m.queue j) d → at ls d < k
    part_below d mk u =
        let (a, h, e) = t.parts j d (omega arith) u in
        rw (← e) (w.nodes.numbered a h (rw e (wa.closed j (omega arith) hj mk d u))).below

    row_none : at m.found (at m.queue j) ≡ 0 → Writing m (with_lefts m ls) ws ws' i k (j + 1)
    row_none z =
        let n = w.nodes in
        let old : (a : ℕ) → a < j + 1 → Marked m.found (at m.queue a) → a < j = λ a h mk. by_cases (ℕ_discrete a j)
        (λ (e : a ≡ j). absurd (let y : at m.found (at m.queue a) ≡ 0 = rw e z in omega arith))
        (λ e. omega arith) in
        record {
          same = w.same;
          long = w.long;
          later = λ a h. w.later a (omega arith);
          size = w.size;
          rest = w.rest;
          nodes = record {
            count = omega (arith, n.count);
            numbered = λ a h mk. n.numbered a (old a h mk) mk;
            owned = λ v h. let (a, x, y, z, u) = n.owned v h in (a, omega arith, y, z, u);
          };
        }

    -- the pair at place j gets the node v
    row_node : (v k' : ℕ) (ws'' : List ℕ) → k ≤ k' → k' ≤ k + 1 → length ws'' ≡ length ws' → Keeps ws' ws'' (2 * k)
        → drop (2 * k') ws'' ≡ drop (2 * k') ws' → Marked m.found (at m.queue j) → Numbered m ls ws'' k' (at m.queue j) v
        → (k < k' → (v ≡ k) × (at m.rights (at m.queue j) ≢ eps_mark))
        → Writing m (with_lefts m (set ls (at m.queue j) v)) ws ws'' i k' (j + 1)
    row_node v k' ws'' lo hi sz kp rs mk nb own =
        let n = w.nodes in
        let ct = n.count in
        let c = at m.queue j in
        let ls' = set ls c v in
        let here : at ls' c ≡ v = get_or-set_same ls c v 0 (let x = t.inside j (omega arith) in omega (arith, t.lefts_size, w.long)) in
        let other : (a : ℕ) → a ≤ i → a ≢ j → at ls' (at m.queue a) ≡ at ls (at m.queue a) =
        λ a h d. get_or-set_other ls c (at m.queue a) v 0 (λ e. d (t.distinct a j (omega arith) (omega arith) e)) in
        let part : (a d : ℕ) → a ≤ j → Uses m (at m.queue a) d → at ls' d ≡ at ls d =
        λ a d h u. let (x, y, z) = t.parts a d (omega arith) u in rw (← z) (other x (omega arith) (omega arith)) in
        record {
          same = refl;
          long = length-set ls c v ∙ w.long;
          later = λ a h l. other a l (omega arith) ∙ w.later a (omega arith) l;
          size = sz ∙ w.size;
          rest = rs ∙ drop_on ws' ws lo w.rest;
          nodes = record {
            count = omega arith;
            numbered = λ a h x. by_cases (ℕ_discrete a j)
                (λ (e : a ≡ j). rw (e, here) (numbered_keep ls ls' ws'' ws'' (omega arith) (λ y _. refl) (λ d. part j d (omega arith)) nb))
                (λ e. rw (other a (omega arith) e) (numbered_keep ls ls' ws' ws'' lo kp (λ d. part a d (omega arith)) (n.numbered a (omega arith) x)));
            owned = λ x h. by_cases (dec_lt x k)
                (λ y. let (a, l, p, q, r) = n.owned x y in (a, omega arith, p, other a (omega arith) (omega arith) ∙ q, r))
                (λ y. let (p, q) = own (omega arith) in (j, omega arith, mk, here ∙ p ∙ omega arith, q));
          };
        }

    -- there is room for one node more
    row_room : 2 * N ≤ length ws → 2 * k + 1 < length ws'
    row_room h = omega (arith, w.nodes.count, w.size, t.few)

    row_more : {m'' : Memory} {ws'' : List ℕ} {k' : ℕ} → 2 * N ≤ length ws → WritePair (with_lefts m ls) ws' k (at m.queue j) m'' ws'' k'
        → Writing m m'' ws ws'' i k' (j + 1)
    row_more h (write_none_of z) = row_none z
    row_more h (write_leaf_of mk e) =
        let el = w.later j (omega arith) hj in
        let o = stored ws' k (at ls (at m.queue j)) leaf_mark (row_room h) in
        row_node k (k + 1) _ (omega arith) (omega arith) o.long o.keep o.rest mk
        (record {
          below = omega arith;
          as_leaf = λ x. (o.first ∙ el, o.second);
          as_eps = λ x. absurd (omega arith);
          as_join = λ x. absurd (omega arith);
        })
        (λ x. (refl, λ y. absurd (omega arith)))
    row_more h (write_eps_of mk e) =
        let el : at ls (at m.queue j) ≡ at m.lefts (at m.queue j) = w.later j (omega arith) hj in
        let ev = ap (λ (x : ℕ). at ls x) el in
        let lt = part_below (at m.lefts (at m.queue j)) mk (inl (omega arith, refl)) in
        row_node (at ls (at ls (at m.queue j))) k ws' (omega arith) (omega arith) refl (λ x y. refl) refl mk
        (record {
          below = omega arith;
          as_leaf = λ x. absurd (omega arith);
          as_eps = λ x. ev;
          as_join = λ x. absurd (omega arith);
        })
        (λ x. absurd (omega arith))
    row_more h (write_join_of mk e) =
        let el : at ls (at m.queue j) ≡ at m.lefts (at m.queue j) = w.later j (omega arith) hj in
        let ex = ap (λ (x : ℕ). at ls x) el in
        let x = part_below (at m.lefts (at m.queue j)) mk (inl (omega arith, refl)) in
        let y = part_below (at m.rights (at m.queue j)) mk (inr (e, refl)) in
        let o = stored ws' k (at ls (at ls (at m.queue j))) (at ls (at m.rights (at m.queue j))) (row_room h) in
        row_node k (k + 1) _ (omega arith) (omega arith) o.long o.keep o.rest mk
        (record {
          below = omega arith;
          as_leaf = λ z. absurd (omega arith);
          as_eps = λ z. absurd (omega arith);
          as_join = λ z. (o.first ∙ ex, o.second, x, y);
        })
        (λ z. (refl, λ u. absurd (omega arith)))

  -- one place more
  pub writing_more : Wanted m i 0 → {m' m'' : Memory} {ws ws' ws'' : List ℕ} {k k' j : ℕ} → j ≤ i → 2 * N ≤ length ws
      → Writing m m' ws ws' i k j → WritePair m' ws' k (at m'.queue j) m'' ws'' k' → Writing m m'' ws ws'' i k' (j + 1)
  writing_more wa {m'} {m''} {ws} {ws'} {ws''} {k} {k'} {j} hj h w r =
      let (v, s) = subst (λ (x : Memory). Writing m x ws ws' i k j × WritePair x ws' k (at x.queue j) m'' ws'' k') w.same (w, r) in
      row_more wa hj v h s
