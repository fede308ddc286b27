-- One step of the search: what stays, what a leaf, an ε and a join rule add, and one turn more of a loop over rules. Assumes nothing.
use Prim.Native.Nat.{ℕ, zero, suc, ◌+◌, ◌*◌, ◌/◌, ◌≤◌, ◌<◌}
use mathlib.Core.Path.{◌≡◌, refl, sym, ap, ◌∙◌}
use mathlib.Core.Logic.{inl, inr, by_cases, ⊎_elim}
use mathlib.Core.List.{List}
use native.Mathlib.Decide.{ℕ_discrete}
use native.Mathlib.Omega.{arith}
use borrow.Author.Count.{below_more}
use lib.ListN.{length}
use Rattle.paper.specs.Limits.{Limits, at, leaf_kind, join_kind, eps_kind}
use Rattle.tree.specs.Tree.{leaf_mark}
use Rattle.table.specs.Rules.{Rule, Row}
use Rattle.table.proofs.Rows.{row_whole, row_below}
use Rattle.product.proofs.Include.{join_to_unique, leaf_to_unique}
use Rattle.table.proofs.Range.{symbols_few, third_zero, to_below, symbol_below, from_below, right_below}
use Rattle.pairs.specs.declared.Pair.{Pair}
use Rattle.paper.specs.declared.RuleRow.{RuleRow}
use Rattle.pairs.specs.declared.Sizes.{Sizes}
use Rattle.pairs.specs.Memory.{Memory, memory}
use Rattle.pairs.specs.State.{code, eps_mark, Grew}
use Rattle.pairs.specs.Work.{memory_of, RowIn, Working, PairAt}
use Rattle.pairs.proofs.MemoryLaws.{marked_inside}
use Rattle.pairs.proofs.StateLaws.{code_one, code_inside, grew_none, grew_more, grew_in, grew_marked, put_grew}
use Rattle.pairs.proofs.WorkLaws.{pair_read, taken_at, at_taken, added_put}
use Rattle.moves.specs.Receiving.{Rules, ReceiverOf}
use Rattle.moves.proofs.MoveLaws.{receiving_as, receiver_bounded, receiver_factorized, leaf_small, join_small, leaf_to, step_to}
use Rattle.steps.specs.Runs.{When, does, skips, chooses, follows, Times, none, more, row_at, LeafStep, Leaves, EpsStep, EpsSteps, Closing, ends, goes, JoinStep, BothSteps, RowSteps, Joins}
use Rattle.steps.specs.Steps.{Ready, Inside, FoundPair, Did, LeafDone, EpsDone, EpsFrom, Only, Joining, Joined, BothJoined, JoinDone}

-- after a step of the search the slice is as long, and the room and the receiver are there
module _ {S B : Rule → Type 0} {z : Sizes} {ws ws' : List ℕ} {k k' : ℕ} {D : Memory → Type 0} where
  pub did_size : Did S B z ws k ws' k' D → length ws' ≡ length ws
  unfolding memory
  did_size d = d.grew.size

  pub did_working : Working z ws k → Did S B z ws k ws' k' D → Working z ws' k'
  did_working w d = record { room = rw (did_size d) w.room; queued = d.grew.queued }

  pub did_receiver : {L : Limits} {xB : List ℕ} → ReceiverOf L z xB ws → Did S B z ws k ws' k' D → ReceiverOf L z xB ws'
  did_receiver (mB, r) d = (mB, receiving_as d.grew.fixed r)

  pub did_ready : {L : Limits} {xS xB : List ℕ} → Ready L z xS xB ws k → Did S B z ws k ws' k' D → Ready L z xS xB ws' k'
  did_ready r d = record { sender = r.sender; receiver = did_receiver r.receiver d; working = did_working r.working d }

  pub did_joining : {L : Limits} {xB : List ℕ} {j : RuleRow} → Joining L z xB ws j k → Did S B z ws k ws' k' D → Joining L z xB ws' j k'
  did_joining w d = record {
    working = did_working w.working d;
    receiver = did_receiver w.receiver d;
    left = w.left;
    right = w.right;
    to = w.to;
  }

  pub did_found : {pair : Pair} → FoundPair z ws pair → Did S B z ws k ws' k' D → FoundPair z ws' pair
  did_found f d = record { small = f.small; found = grew_marked d.grew _ f.found }

  -- the same with less said
  pub did_as : {E : Memory → Type 0} → (D (memory_of z ws') → E (memory_of z ws')) → Did S B z ws k ws' k' D → Did S B z ws k ws' k' E
  did_as h d = record { grew = d.grew; done = h d.done }

-- nothing to do
pub idle : {S B : Rule → Type 0} {z : Sizes} {ws : List ℕ} {k : ℕ} {D : Memory → Type 0} → Working z ws k → D (memory_of z ws)
    → Did S B z ws k ws k D
idle w d = record { grew = grew_none w.queued; done = d }

-- what has been done stays done
module _ {S B : Rule → Type 0} {n N : ℕ} {m m' : Memory} {k k' : ℕ} (g : Grew S B n N m k m' k') where
  pub leaf_keep : (L : Limits) (z : Sizes) (xS xB : List ℕ) (h : ℕ) → LeafDone L z xS xB h m → LeafDone L z xS xB h m'
  leaf_keep L z xS xB h d = record { holds = λ e q t. grew_marked g _ (d.holds e q t) }

  pub eps_keep : (L : Limits) (z : Sizes) (xS : List ℕ) (p q h : ℕ) → EpsDone L z xS p q h m → EpsDone L z xS p q h m'
  eps_keep L z xS p q h d = record { holds = λ e t. grew_marked g _ (d.holds e t) }

  pub joined_keep : (L : Limits) (z : Sizes) (xB : List ℕ) (j : RuleRow) (x y : ℕ) → Joined L z xB j x y m → Joined L z xB j x y m'
  joined_keep L z xB j x y d = record { holds = λ t u q e. grew_marked g _ (d.holds (g.taken _ t) (g.taken _ u) q e) }

  both_keep : (L : Limits) (z : Sizes) (xB : List ℕ) (j : RuleRow) (pair : Pair) (h : ℕ) → BothJoined L z xB j pair h m
      → BothJoined L z xB j pair h m'
  both_keep L z xB j pair h d = record {
    left = λ e. joined_keep L z xB j pair.q.0 h (d.left e);
    right = λ e. joined_keep L z xB j h pair.q.0 (d.right e);
  }

  join_keep : (L : Limits) (z : Sizes) (xS xB : List ℕ) (pair : Pair) (h : ℕ) → JoinDone L z xS xB pair h m → JoinDone L z xS xB pair h m'
  join_keep L z xS xB pair h d = record { holds = λ e y u. both_keep L z xB (row_at L xS h) pair y (d.holds e y u) }

-- a loop that does P of one number after the other: before the first, and one more
module _ {S B : Rule → Type 0} {z : Sizes} {ws : List ℕ} {k : ℕ} (P : ℕ → Memory → Type 0) where
  pub loop_none : Working z ws k → Did S B z ws k ws k (λ m. (h : ℕ) → h < 0 → P h m)
  loop_none w = idle w (λ h i. absurd (omega arith))

  loop_more : {ws' ws'' : List ℕ} {k' k'' : ℕ} (i : ℕ)
      → (Grew S B z.receivers z.pairs (memory_of z ws') k' (memory_of z ws'') k'' → (h : ℕ) → P h (memory_of z ws') → P h (memory_of z ws''))
      → Did S B z ws k ws' k' (λ m. (h : ℕ) → h < i → P h m) → Did S B z ws' k' ws'' k'' (P i)
      → Did S B z ws k ws'' k'' (λ m. (h : ℕ) → h < i + 1 → P h m)
  loop_more {ws'' = ws''} i keep a b = record {
    grew = grew_more a.grew b.grew;
    done = below_more (λ (h : ℕ). P h (memory_of z ws'')) i (λ h u. keep b.grew h (a.done h u)) b.done;
  }

module _ {L : Limits} {S B : Rule → Type 0} {z : Sizes} {ws ws' ws'' : List ℕ} {k k' k'' i : ℕ} where
  pub leaves_more : {xS xB : List ℕ} → Did S B z ws k ws' k' (λ m. (h : ℕ) → h < i → LeafDone L z xS xB h m)
      → Did S B z ws' k' ws'' k'' (LeafDone L z xS xB i) → Did S B z ws k ws'' k'' (λ m. (h : ℕ) → h < i + 1 → LeafDone L z xS xB h m)
  leaves_more {xS} {xB} = loop_more (LeafDone L z xS xB) i (λ g. leaf_keep g L z xS xB)

  pub eps_more : {xS : List ℕ} {p q : ℕ} → Did S B z ws k ws' k' (λ m. (h : ℕ) → h < i → EpsDone L z xS p q h m)
      → Did S B z ws' k' ws'' k'' (EpsDone L z xS p q i) → Did S B z ws k ws'' k'' (λ m. (h : ℕ) → h < i + 1 → EpsDone L z xS p q h m)
  eps_more {xS} {p} {q} = loop_more (EpsDone L z xS p q) i (λ g. eps_keep g L z xS p q)

  pub both_more : {xB : List ℕ} {j : RuleRow} {pair : Pair} → Did S B z ws k ws' k' (λ m. (h : ℕ) → h < i → BothJoined L z xB j pair h m)
      → Did S B z ws' k' ws'' k'' (BothJoined L z xB j pair i) → Did S B z ws k ws'' k'' (λ m. (h : ℕ) → h < i + 1 → BothJoined L z xB j pair h m)
  both_more {xB} {j} {pair} = loop_more (BothJoined L z xB j pair) i (λ g. both_keep g L z xB j pair)

  pub joins_more : {xS xB : List ℕ} {pair : Pair} → Did S B z ws k ws' k' (λ m. (h : ℕ) → h < i → JoinDone L z xS xB pair h m)
      → Did S B z ws' k' ws'' k'' (JoinDone L z xS xB pair i) → Did S B z ws k ws'' k'' (λ m. (h : ℕ) → h < i + 1 → JoinDone L z xS xB pair h m)
  joins_more {xS} {xB} {pair} = loop_more (JoinDone L z xS xB pair) i (λ g. join_keep g L z xS xB pair)

-- a pair in the queue is found, and its number is below the marks
pub found_pair : {z : Sizes} {ws : List ℕ} {k i : ℕ} {pair : Pair} → Working z ws k → i < k → PairAt z ws i pair → FoundPair z ws pair
found_pair {i = i} w h a = record { small = a.small; found = rw (← a.there) (w.queued.listed i h) }

pub found_small : {z : Sizes} {ws : List ℕ} {k : ℕ} {pair : Pair} → Working z ws k → FoundPair z ws pair
    → code z.receivers pair.p.0 pair.q.0 < eps_mark
found_small {z} {ws} w f = omega (arith, marked_inside (memory_of z ws).found _ f.found, w.queued.found_size, w.room.few)

-- a pair of a state whose pairs have room
inside_code : (z : Sizes) (p q : ℕ) → Inside z p → q ≤ z.receivers → code z.receivers p q < z.pairs
inside_code z p q h k = omega arith

module _ (L : Limits) (wide : 0 < L.width) where
  -- a rule of the sender
  module _ {z : Sizes} {xS xB ws : List ℕ} {k : ℕ} (n : Ready L z xS xB ws k) (g : ℕ) (h : RowIn L.width xS g) where
    state_inside : (p : ℕ) → p < length n.sender.0 → Inside z p
    state_inside p i = rw n.sender.1.pairs (code_inside z.receivers p z.receivers (length n.sender.0) i (omega arith))

    target_inside : Inside z (at xS (g * L.width + 3))
    target_inside = state_inside _ (to_below L wide n.sender.1.sound g h)

    symbol_small : L.symbols ≤ leaf_mark → at xS (g * L.width) ≡ leaf_kind → at xS (g * L.width + 1) ≤ leaf_mark
    symbol_small few e = omega (arith, symbol_below L wide n.sender.1.sound g h e, symbols_few L n.sender.1.sound)

    joining : at xS (g * L.width) ≡ join_kind → Joining L z xB ws (row_at L xS g) k
    joining e = record {
      working = n.working;
      receiver = n.receiver;
      left = state_inside _ (from_below L wide n.sender.1.sound g h (omega arith));
      right = state_inside _ (right_below L wide n.sender.1.sound g h e);
      to = target_inside;
    }

    -- a leaf rule adds its pair
    leaf_did : {ws' : List ℕ} {k' : ℕ} → L.symbols ≤ leaf_mark → LeafStep L z xB (row_at L xS g) ws k ws' k'
        → Did (Rules L xS) (Rules L xB) z ws k ws' k' (LeafDone L z xS xB g)
    leaf_did few (skips d) = idle n.working (record { holds = λ e. absurd (d e) })
    leaf_did few (does e (chooses {q = q} first added)) =
        let a = at xS (g * L.width + 1) in
        let p = at xS (g * L.width + 3) in
        let r = n.receiver in
        let t = leaf_to L wide (third_zero L wide r.1.sound) first in
        let row : Row L.width xS g leaf_kind a 0 p = record {
          inside = h;
          kind = e;
          left = refl;
          right = third_zero L wide n.sender.1.sound g h (omega arith);
          target = refl;
        } in
        let hq = leaf_small L wide r t in
        let hc = inside_code z p q target_inside hq in
        let (gr, mk) = put_grew {S = Rules L xS} {B = Rules L xB} n.working.queued p q a leaf_mark hq hc
        (inl record { mark = refl; rule = (g, row); base = t }) (λ x. absurd (omega arith))
        (added_put n.working hc (symbol_small few e) (omega arith) added) in
        record {
          grew = gr;
          done = record { holds = λ _ b u. rw (leaf_to_unique (receiver_factorized L wide r) (receiver_bounded L wide r) a b q u t) mk };
        }

    -- an ε rule adds its pair
    eps_did : {ws' : List ℕ} {k' : ℕ} {pair : Pair} → FoundPair z ws pair → EpsStep z pair (row_at L xS g) ws k ws' k'
        → Did (Rules L xS) (Rules L xB) z ws k ws' k' (EpsDone L z xS pair.p.0 pair.q.0 g)
    eps_did f (skips d) = idle n.working (record { holds = λ e i. absurd (d (e, i)) })
    eps_did {pair = pair} f (does (e, i) added) =
        let a = at xS (g * L.width + 1) in
        let p = at xS (g * L.width + 3) in
        let row : Row L.width xS g eps_kind a 0 p = record {
          inside = h;
          kind = e;
          left = refl;
          right = third_zero L wide n.sender.1.sound g h (omega arith);
          target = refl;
        } in
        let hc = inside_code z p pair.q.0 target_inside f.small in
        let same : code z.receivers pair.p.0 pair.q.0 ≡ code z.receivers a pair.q.0 = rw i refl in
        let small = found_small n.working f in
        let (j, hj, ej) = n.working.queued.marked (code z.receivers pair.p.0 pair.q.0) f.found in
        let (gr, mk) = put_grew {S = Rules L xS} {B = Rules L xB} n.working.queued p pair.q.0 (code z.receivers a pair.q.0) eps_mark
        f.small hc
        (inr (inl record {
          mark = refl;
          place = j;
          earlier = hj;
          there = ej ∙ same;
          state = a;
          pair = refl;
          rule = (g, row);
        }))
        (λ x. absurd (omega arith)) (added_put n.working hc (omega arith) (omega arith) added) in
        record { grew = gr; done = record { holds = λ _ _. mk } }

  -- a join of two pairs, if both are taken
  join_did : {z : Sizes} {xB ws : List ℕ} {j : RuleRow} {k : ℕ} {x y : ℕ} {ws' : List ℕ} {k' : ℕ} → Joining L z xB ws j k → x ≤ z.receivers
      → y ≤ z.receivers → JoinStep L z xB j x y ws k ws' k' → Did (Only j) (Rules L xB) z ws k ws' k' (Joined L z xB j x y)
  join_did {z} {j = j} {x = x} {y = y} n hx hy (skips d) = idle n.working (record {
    holds = λ t u. absurd (d (
      at_taken n.working (inside_code z j.left x n.left hx) t,
      at_taken n.working (inside_code z j.right y n.right hy) u,
    ));
  })
  join_did {z} {xB} {ws} {j} {k} {x} {y} n hx hy (does (ra, rb) (chooses {q = q} stepped added)) =
      let w = n.working in
      let a = code z.receivers j.left x in
      let b = code z.receivers j.right y in
      let ha = inside_code z j.left x n.left hx in
      let hb = inside_code z j.right y n.right hy in
      let ta = taken_at w ha ra in
      let tb = taken_at w hb rb in
      let few = w.room.few in
      let t = step_to L wide n.receiver (omega (arith, w.room.long)) hx hy stepped in
      let hq = join_small L wide n.receiver t in
      let hc = inside_code z j.to q n.to hq in
      let (i, hi, ei) = w.queued.marked a (omega arith) in
      let (i₂, hi₂, ei₂) = w.queued.marked b (omega arith) in
      let (gr, mk) = put_grew {S = Only j} {B = Rules L xB} w.queued j.to q a b hq hc
      (inr (inr record {
        mark = omega arith;
        place = i;
        earlier = hi;
        there = ei;
        place2 = i₂;
        earlier2 = hi₂;
        there2 = ei₂;
        left = j.left;
        x = x;
        x_small = hx;
        pair = refl;
        right = j.right;
        y = y;
        y_small = hy;
        pair2 = refl;
        rule = refl;
        base = t;
      }))
      (λ _. (ta, tb)) (added_put w hc (omega arith) (omega arith) added) in
      record {
        grew = gr;
        done = record {
          holds = λ _ _ d u.
              rw (join_to_unique (receiver_factorized L wide n.receiver) (receiver_bounded L wide n.receiver) x y d q u t) mk;
        };
      }

  -- a pair joined with the pair of y that fits, on both sides
  both_did : {z : Sizes} {xB ws : List ℕ} {j : RuleRow} {k : ℕ} {pair : Pair} {y : ℕ} {ws' : List ℕ} {k' : ℕ} → Joining L z xB ws j k
      → pair.q.0 ≤ z.receivers → y ≤ z.receivers → BothSteps L z xB j pair y ws k ws' k'
      → Did (Only j) (Rules L xB) z ws k ws' k' (BothJoined L z xB j pair y)
  both_did {z} {xB} {j = j} {pair = pair} {y = y} n hq hy (follows a b) =
      let d = left n a in
      let e = right (did_joining n d) b in
      record {
        grew = grew_more d.grew e.grew;
        done = record { left = λ i. joined_keep e.grew L z xB j pair.q.0 y (d.done i); right = e.done };
      }
    where
      left : {ws us : List ℕ} {k d : ℕ} → Joining L z xB ws j k → When (λ _. j.left ≡ pair.p.0) (JoinStep L z xB j pair.q.0 y) ws k us d
          → Did (Only j) (Rules L xB) z ws k us d (λ m. j.left ≡ pair.p.0 → Joined L z xB j pair.q.0 y m)
      left n (does c s) = did_as (λ o e. o) (join_did n hq hy s)
      left n (skips d) = idle n.working (λ e. absurd (d e))

      right : {ws us : List ℕ} {k d : ℕ} → Joining L z xB ws j k → When (λ _. j.right ≡ pair.p.0) (JoinStep L z xB j y pair.q.0) ws k us d
          → Did (Only j) (Rules L xB) z ws k us d (λ m. j.right ≡ pair.p.0 → Joined L z xB j y pair.q.0 m)
      right n (does c s) = did_as (λ o e. o) (join_did n hy hq s)
      right n (skips d) = idle n.working (λ e. absurd (d e))

  -- one after the other
  boths_did : {z : Sizes} {xB ws : List ℕ} {j : RuleRow} {k : ℕ} {pair : Pair} {ws' : List ℕ} {k' : ℕ} (m : ℕ) → Joining L z xB ws j k
      → pair.q.0 ≤ z.receivers → m ≤ z.receivers + 1 → Times (BothSteps L z xB j pair) m ws k ws' k'
      → Did (Only j) (Rules L xB) z ws k ws' k' (λ o. (y : ℕ) → y < m → BothJoined L z xB j pair y o)
  boths_did {z} {xB} {j = j} {pair = pair} zero n hq hm none = loop_none (BothJoined L z xB j pair) n.working
  boths_did (suc m) n hq hm (more a b) =
      let d = boths_did m n hq (omega arith) a in
      did_as (λ o y u. o y (omega arith)) (both_more d (both_did (did_joining n d) hq (omega arith) b))

  module _ {z : Sizes} {xS xB : List ℕ} where
    row_did : {ws : List ℕ} {k g : ℕ} {pair : Pair} {ws' : List ℕ} {k' : ℕ} → Ready L z xS xB ws k → RowIn L.width xS g → pair.q.0 ≤ z.receivers
        → RowSteps L z xB pair (row_at L xS g) ws k ws' k' → Did (Rules L xS) (Rules L xB) z ws k ws' k' (JoinDone L z xS xB pair g)
    row_did n h hq (skips d) = idle n.working (record { holds = λ e. absurd (d e) })
    row_did {g = g} n h hq (does e t) =
        let d = boths_did (suc z.receivers) (joining n g h e) hq (omega arith) t in
        record {
          grew = grew_in (λ r i. rw i (g, record { inside = h; kind = e; left = refl; right = refl; target = refl })) d.grew;
          done = record { holds = λ _ y u. d.done y (omega arith) };
        }

    rows_did : {ws : List ℕ} {k : ℕ} {pair : Pair} {ws' : List ℕ} {k' : ℕ} (m : ℕ) → Ready L z xS xB ws k → pair.q.0 ≤ z.receivers
        → m ≤ length xS / L.width → Times (λ g. RowSteps L z xB pair (row_at L xS g)) m ws k ws' k'
        → Did (Rules L xS) (Rules L xB) z ws k ws' k' (λ o. (g : ℕ) → g < m → JoinDone L z xS xB pair g o)
    rows_did {pair = pair} zero n hq hm none = loop_none (JoinDone L z xS xB pair) n.working
    rows_did (suc m) n hq hm (more a b) =
        let d = rows_did m n hq (omega arith) a in
        did_as (λ o g u. o g (omega arith))
        (joins_more d (row_did (did_ready n d) (row_whole wide (length xS) m (omega arith)) hq b))

    -- a pair is joined by all rules with all taken pairs
    pub joins_did : {ws : List ℕ} {k : ℕ} {pair : Pair} {ws' : List ℕ} {k' : ℕ} → Joins L z xS xB pair ws k ws' k' → Ready L z xS xB ws k
        → pair.q.0 ≤ z.receivers
        → Did (Rules L xS) (Rules L xB) z ws k ws' k' (λ o. (g : ℕ) → RowIn L.width xS g → JoinDone L z xS xB pair g o)
    joins_did t n hq = did_as (λ o g h. o g (row_below wide (length xS) g h)) (rows_did (length xS / L.width) n hq (omega arith) t)

    leaf_rows_did : {ws : List ℕ} {k : ℕ} {ws' : List ℕ} {k' : ℕ} (m : ℕ) → L.symbols ≤ leaf_mark → Ready L z xS xB ws k → m ≤ length xS / L.width
        → Times (λ g. LeafStep L z xB (row_at L xS g)) m ws k ws' k'
        → Did (Rules L xS) (Rules L xB) z ws k ws' k' (λ o. (g : ℕ) → g < m → LeafDone L z xS xB g o)
    leaf_rows_did zero few n hm none = loop_none (LeafDone L z xS xB) n.working
    leaf_rows_did (suc m) few n hm (more a b) =
        let d = leaf_rows_did m few n (omega arith) a in
        did_as (λ o g u. o g (omega arith))
        (leaves_more d (leaf_did (did_ready n d) m (row_whole wide (length xS) m (omega arith)) few b))

    -- the leaf rules have their pairs
    pub leaves_did : {ws : List ℕ} {k : ℕ} {ws' : List ℕ} {k' : ℕ} → L.symbols ≤ leaf_mark → Leaves L z xS xB ws k ws' k' → Ready L z xS xB ws k
        → Did (Rules L xS) (Rules L xB) z ws k ws' k' (λ o. (g : ℕ) → RowIn L.width xS g → LeafDone L z xS xB g o)
    leaves_did few t n = did_as (λ o g h. o g (row_below wide (length xS) g h)) (leaf_rows_did (length xS / L.width) few n (omega arith) t)

    eps_rows_did : {ws : List ℕ} {k : ℕ} {pair : Pair} {ws' : List ℕ} {k' : ℕ} (m : ℕ) → Ready L z xS xB ws k → FoundPair z ws pair
        → m ≤ length xS / L.width → EpsSteps L z xS pair m ws k ws' k'
        → Did (Rules L xS) (Rules L xB) z ws k ws' k' (λ o. (g : ℕ) → g < m → EpsDone L z xS pair.p.0 pair.q.0 g o)
    eps_rows_did {pair = pair} zero n f hm none = loop_none (EpsDone L z xS pair.p.0 pair.q.0) n.working
    eps_rows_did (suc m) n f hm (more a b) =
        let d = eps_rows_did m n f (omega arith) a in
        did_as (λ o g u. o g (omega arith))
        (eps_more d (eps_did (did_ready n d) m (row_whole wide (length xS) m (omega arith)) (did_found f d) b))

    -- one place more of the queue has its ε rules
    place_did : {ws ws' ws'' : List ℕ} {k k' k'' a j : ℕ} {pair : Pair} → j < k' → PairAt z ws' j pair
        → Did (Rules L xS) (Rules L xB) z ws k ws' k' (EpsFrom L z xS a j)
        → Did (Rules L xS) (Rules L xB) z ws' k' ws'' k'' (λ o. (g : ℕ) → g < length xS / L.width → EpsDone L z xS pair.p.0 pair.q.0 g o)
        → Did (Rules L xS) (Rules L xB) z ws k ws'' k'' (EpsFrom L z xS a (suc j))
    place_did {ws'' = ws''} {j = j} {pair = pair} h p d e = record {
      grew = grew_more d.grew e.grew;
      done = λ i u v a b hq ei g row. by_cases (ℕ_discrete i j)
          (λ s.
          let (eu, ev) = code_one z.receivers pair.p.0 pair.q.0 u v p.small hq
          (sym p.there ∙ sym (e.grew.queue_kept j h) ∙ ap (λ (x : ℕ). at (memory_of z ws'').queue x) (sym s) ∙ ei) in
          rw (← eu, ← ev) (e.done g (row_below wide (length xS) g row)))
          (λ s. eps_keep e.grew L z xS u v g (d.done i u v a (omega arith) hq (sym (e.grew.queue_kept i (omega arith)) ∙ ei) g row));
    }

    places_did : {ws ws' ws'' : List ℕ} {k k' k'' a j : ℕ} → Ready L z xS xB ws' k' → j ≤ k'
        → Did (Rules L xS) (Rules L xB) z ws k ws' k' (EpsFrom L z xS a j) → Closing L z xS j ws' k' ws'' k''
        → Did (Rules L xS) (Rules L xB) z ws k ws'' k'' (EpsFrom L z xS a k'')
    places_did {k' = k'} {j = j} n h d (ends o) =
        let e : j ≡ k' = ⊎_elim (λ (i : z.pairs ≤ j). omega (arith, n.working.queued.count)) (λ (i : k' ≤ j). omega arith) o in
        rw e at d
    places_did {j = j} n h d (goes x y read steps rest) =
        let p = pair_read n.working y read in
        let e = eps_rows_did (length xS / L.width) n (found_pair n.working y p) (omega arith) steps in
        let m = e.grew.more in
        places_did (did_ready n e) (omega arith) (place_did y p d e) rest

    -- the pairs of the queue from a place on have their ε rules
    pub closing_did : {ws : List ℕ} {k a : ℕ} {ws' : List ℕ} {k' : ℕ} → Closing L z xS a ws k ws' k' → Ready L z xS xB ws k → a ≤ k
        → Did (Rules L xS) (Rules L xB) z ws k ws' k' (EpsFrom L z xS a k')
    closing_did c n h = places_did n h (idle n.working (λ j p q u v. absurd (omega arith))) c
