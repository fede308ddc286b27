-- The outer loop of the search: pairs are taken one by one, everything taken is joined, and what its end tells. Assumes nothing.
use Prim.Native.Nat.{ℕ, ◌+◌, ◌*◌, ◌≤◌, ◌<◌}
use mathlib.Core.Path.{◌≡◌, refl, sym, ap, ◌∙◌, subst}
use mathlib.Core.Logic.{◌⊎◌, inl, inr, by_cases, ⊎_elim}
use mathlib.Core.Bool.{Bool}
use mathlib.Core.List.{List}
use native.Mathlib.Decide.{ℕ_discrete, dec_lt}
use native.Mathlib.Omega.{arith}
use borrow.Author.Count.{below_more}
use lib.ListN.{length}
use Rattle.paper.specs.Limits.{Limits, at, join_kind}
use Rattle.paper.specs.Told.{Tells}
use Rattle.tree.specs.Tree.{leaf_mark}
use Rattle.table.specs.Rules.{Final}
use Rattle.receiver.specs.Numbers.{number, Ends}
use Rattle.product.specs.Moves.{JoinTo}
use Rattle.product.proofs.Tables.{ClosedRows, closed_of_rows, tables_included}
use Rattle.pairs.specs.declared.Pair.{Pair}
use Rattle.pairs.specs.declared.Sizes.{Sizes}
use Rattle.pairs.specs.Memory.{Memory, memory, Marked, Taken, taking}
use Rattle.pairs.specs.State.{code, Queued, State, Grew}
use Rattle.pairs.specs.Work.{memory_of, RowIn, TakeRead, Took}
use Rattle.pairs.proofs.MemoryLaws.{found_long, queue_long, lefts_long, rights_long}
use Rattle.pairs.proofs.StateLaws.{code_one, grew_state, grew_more, grew_marked, queued_none, take_marked, take_old, take_keep, take_new, take_state}
use Rattle.pairs.proofs.WorkLaws.{took}
use Rattle.moves.specs.Looked.{FailsAt}
use Rattle.moves.specs.Receiving.{Rules, ReceiverOf, Fails}
use Rattle.moves.proofs.MoveLaws.{receiving_as, numbered, fails_told, leaf_small, join_small}
use Rattle.std.specs.Prelude.{Some, None}
use Rattle.inclusion.specs.Search.{Searchable, Found, all_pass_of, one_fails_of}
use Rattle.steps.specs.Runs.{row_at, Leaves, Closing, Joins}
use Rattle.steps.specs.Steps.{Ready, LeafDone, EpsFrom, Joined, JoinDone}
use Rattle.steps.proofs.StepLaws.{did_size, did_ready, leaf_keep, joined_keep, leaves_did, closing_did, joins_did}

-- all pairs before place i of the queue, which has k, are taken: none of them fails, and everything taken is joined
pub record Searched (L : Limits) (z : Sizes) (mS xS xB : List ℕ) (m : Memory) (k i : ℕ) : Type 0 where
  pub state : State (Rules L xS) (Rules L xB) z.receivers z.pairs m k
  pub within : i ≤ k
  pub leaves : (g : ℕ) → RowIn L.width xS g → LeafDone L z xS xB g m
  pub eps : EpsFrom L z xS 0 k m
  pub joins : (g : ℕ) → RowIn L.width xS g → at xS (g * L.width) ≡ join_kind → (x y : ℕ) → x ≤ z.receivers → y ≤ z.receivers
      → Joined L z xB (row_at L xS g) x y m
  pub taken : (j : ℕ) → j < i → Taken m.found (at m.queue j)
  pub passed : (j p q : ℕ) → j < i → q ≤ z.receivers → at m.queue j ≡ code z.receivers p q → Final mS p
      → number m.fixed q 2 ≡ 1

module _ {L : Limits} {z : Sizes} {mS xS xB : List ℕ} where
  -- the leaf rules and the ε rules are used, and nothing is taken
  pub searched_none : {m m' m'' : Memory} {k' k'' : ℕ} → Queued z.pairs m 0 → ((c : ℕ) → at m.found c ≡ 0)
      → Grew (Rules L xS) (Rules L xB) z.receivers z.pairs m 0 m' k' → ((g : ℕ) → RowIn L.width xS g → LeafDone L z xS xB g m')
      → Grew (Rules L xS) (Rules L xB) z.receivers z.pairs m' k' m'' k'' → EpsFrom L z xS 0 k'' m''
      → Searched L z mS xS xB m'' k'' 0
  searched_none {m = m} s clear d leaves e eps = record {
    state = grew_state (grew_state (record { queued = s; origin = λ j p q h. absurd (omega arith) }) d) e;
    within = omega arith;
    leaves = λ g h. leaf_keep e L z xS xB g (leaves g h);
    eps = eps;
    joins = λ g h i x y hx hy. record { holds = λ t u q j. absurd (let v = d.taken _ (e.taken _ t) in omega (arith, clear (code z.receivers (at xS (g * L.width + 1)) x))) };
    taken = λ j h. absurd (omega arith);
    passed = λ j p q h. absurd (omega arith);
  }

  -- the pair c = (p, q) at place i is taken
  module _ {m : Memory} {k i : ℕ} (w : Searched L z mS xS xB m k i) (pair : Pair) (hi : i < k) (hq : pair.q.0 ≤ z.receivers)
      (ec : at m.queue i ≡ code z.receivers pair.p.0 pair.q.0) where
    here_marked : Marked m.found (at m.queue i)
    here_marked = w.state.queued.listed i hi

    abbrev m₁ : Memory
    m₁ = taking m (at m.queue i)

    pub taken_state : State (Rules L xS) (Rules L xB) z.receivers z.pairs m₁ k
    taken_state = take_state m (at m.queue i) here_marked w.state

    module _ {m' m'' : Memory} {k' k'' : ℕ} (d : Grew (Rules L xS) (Rules L xB) z.receivers z.pairs m₁ k m' k')
        (joins : (g : ℕ) → RowIn L.width xS g → JoinDone L z xS xB pair g m')
        (e : Grew (Rules L xS) (Rules L xB) z.receivers z.pairs m' k' m'' k'') where
      both : Grew (Rules L xS) (Rules L xB) z.receivers z.pairs m₁ k m'' k''
      both = grew_more d e

      still : (c : ℕ) → Marked m.found c → Marked m''.found c
      still c h = grew_marked both c (take_marked m (at m.queue i) here_marked c h)

      queue_still : (j : ℕ) → j < k → at m''.queue j ≡ at m.queue j
      unfolding taking
      queue_still = both.queue_kept

      fixed_still : m''.fixed ≡ m.fixed
      unfolding taking
      fixed_still = both.fixed

      -- a taken pair is this one, or was taken before
      old : (p q : ℕ) → q ≤ z.receivers → Taken m''.found (code z.receivers p q)
          → ((p ≡ pair.p.0) × (q ≡ pair.q.0)) ⊎ Taken m.found (code z.receivers p q)
      old p q h t = ⊎_elim
          (λ (o : code z.receivers p q ≡ at m.queue i). inl (code_one z.receivers p q pair.p.0 pair.q.0 h hq (o ∙ ec)))
          (λ (o : Taken m.found (code z.receivers p q)). inr o)
          (take_old m (at m.queue i) here_marked _ (both.taken _ t))

      joined : (g : ℕ) → RowIn L.width xS g → at xS (g * L.width) ≡ join_kind → (x y : ℕ) → x ≤ z.receivers → y ≤ z.receivers
          → Joined L z xB (row_at L xS g) x y m''
      joined g h f x y hx hy = record { holds = λ t u q o. go t u q o (old (at xS (g * L.width + 1)) x hx t) (old (at xS (g * L.width + 2)) y hy u) }
        where
          go : Taken m''.found (code z.receivers (at xS (g * L.width + 1)) x) → Taken m''.found (code z.receivers (at xS (g * L.width + 2)) y) → (q : ℕ)
              → JoinTo (Rules L xB) z.receivers x y q
              → ((at xS (g * L.width + 1) ≡ pair.p.0) × (x ≡ pair.q.0)) ⊎ Taken m.found (code z.receivers (at xS (g * L.width + 1)) x)
              → ((at xS (g * L.width + 2) ≡ pair.p.0) × (y ≡ pair.q.0)) ⊎ Taken m.found (code z.receivers (at xS (g * L.width + 2)) y)
              → Marked m''.found (code z.receivers (at xS (g * L.width + 3)) q)
          go t u q o (inl (ep, eq)) _ =
              let n : Joined L z xB (row_at L xS g) x y m'' = subst (λ (a : ℕ). Joined L z xB (row_at L xS g) a y m'') (sym eq) (joined_keep e L z xB (row_at L xS g) pair.q.0 y (((joins g h).holds f y (omega arith)).left ep)) in
              n.holds t u q o
          go t u q o (inr _) (inl (ep, eq)) =
              let n : Joined L z xB (row_at L xS g) x y m'' = subst (λ (b : ℕ). Joined L z xB (row_at L xS g) x b m'') (sym eq) (joined_keep e L z xB (row_at L xS g) x pair.q.0 (((joins g h).holds f x (omega arith)).right ep)) in
              n.holds t u q o
          go t u q o (inr a) (inr b) = still _ ((w.joins g h f x y hx hy).holds a b q o)

      pub searched_more : (Final mS pair.p.0 → number m.fixed pair.q.0 2 ≡ 1) → EpsFrom L z xS k k'' m''
          → Searched L z mS xS xB m'' k'' (i + 1)
      searched_more pass eps = record {
        state = grew_state taken_state both;
        within = let b = both.more in omega arith;
        leaves = λ g h. record { holds = λ f q t. still _ ((w.leaves g h).holds f q t) };
        eps = λ j p q _ hj hq' ej g h. by_cases (dec_lt j k)
            (λ b. record { holds = λ f t. still _ ((w.eps j p q (omega arith) b hq' (sym (queue_still j b) ∙ ej) g h).holds f t) })
            (λ b. eps j p q (omega arith) hj hq' ej g h);
        joins = joined;
        taken = below_more (λ (j : ℕ). Taken m''.found (at m''.queue j)) i
            (λ j h.
            let t = take_keep m (at m.queue i) here_marked (at m.queue j) (w.taken j h) in
            rw (queue_still j (omega arith), both.kept (at m.queue j) (take_marked m (at m.queue i) here_marked (at m.queue j) (w.state.queued.listed j (omega arith)))) t)
            (rw (queue_still i hi, both.kept (at m.queue i) (take_marked m (at m.queue i) here_marked (at m.queue i) here_marked)) (take_new m (at m.queue i) here_marked));
        passed = λ j p q h hq' ej fp. rw fixed_still (by_cases (ℕ_discrete j i)
            (λ (o : j ≡ i).
            let (ep, eq) = code_one z.receivers pair.p.0 pair.q.0 p q hq hq' (sym ec ∙ sym (queue_still i hi) ∙ ap (λ (x : ℕ). at m''.queue x) (sym o) ∙ ej) in
            rw (← eq) (pass (rw ep fp)))
            (λ o. w.passed j p q (omega arith) hq' (sym (queue_still j (omega arith)) ∙ ej) fp));
      }

-- the search so far, in the work slice ws, which at first was ws₀
pub record Going (L : Limits) (z : Sizes) (mS xS xB ws₀ ws : List ℕ) (k i : ℕ) : Type 0 where
  pub size : length ws ≡ length ws₀
  pub fixed : (memory_of z ws).fixed ≡ (memory_of z ws₀).fixed
  pub ready : Ready L z xS xB ws k
  pub searched : Searched L z mS xS xB (memory_of z ws) k i

-- before anything is found
ready_none : {L : Limits} {mS xS mB xB : List ℕ} {z : Sizes} {ws : List ℕ} → Searchable L mS xS mB xB z ws → Ready L z xS xB ws 0
ready_none {mS = mS} {mB = mB} {z = z} {ws = ws} c =
    let h = c.room.long in
    record {
      sender = (mS, c.sender);
      receiver = (mB, c.receiver);
      working = record {
        room = c.room;
        queued = queued_none (found_long z.base z.pairs ws h) (queue_long z.base z.pairs ws h) (lefts_long z.base z.pairs ws h)
            (rights_long z.base z.pairs ws h) c.clear;
      };
    }

module _ {L : Limits} {z : Sizes} {mS xS xB : List ℕ} where
  -- the pair at place i is taken
  module _ {ws₀ ws : List ℕ} {k i : ℕ} (g : Going L z mS xS xB ws₀ ws k i) (h : i < k) {ws' : List ℕ} {pair : Pair} (t : TakeRead z ws i ws' pair) where
    taking_it : Took z ws i ws' pair
    taking_it = took g.ready.working h t

    took_fixed : (memory_of z ws').fixed ≡ (memory_of z ws).fixed
    unfolding taking
    took_fixed = ap (λ (m : Memory). m.fixed) taking_it.taken

    took_queue : at (memory_of z ws').queue i ≡ at (memory_of z ws).queue i
    unfolding taking
    took_queue = ap (λ (m : Memory). at m.queue i) taking_it.taken

    took_length : length ws' ≡ length ws
    unfolding memory taking
    took_length = ap (λ (m : Memory). m.size) taking_it.taken

    took_state : State (Rules L xS) (Rules L xB) z.receivers z.pairs (memory_of z ws') k
    took_state = rw taking_it.taken (take_state (memory_of z ws) _ (g.searched.state.queued.listed i h) g.searched.state)

    took_ready : Ready L z xS xB ws' k
    took_ready = record {
      sender = g.ready.sender;
      receiver = (g.ready.receiver.0, receiving_as took_fixed g.ready.receiver.1);
      working = record { room = rw took_length g.ready.working.room; queued = took_state.queued };
    }

    pub took_size : length ws' ≡ length ws₀
    took_size = took_length ∙ g.size

    -- whether it fails is told
    pub judged : {b : Bool} → Tells b (FailsAt mS ws' pair) → Tells b (Fails z mS ws' pair)
    judged f = fails_told (numbered took_ready.receiver (omega (arith, took_ready.working.room.long))) taking_it.pair_at_lem.small f

module _ (L : Limits) (wide : 0 < L.width) (few : L.symbols ≤ leaf_mark) {z : Sizes} {mS xS xB : List ℕ} where
  -- the leaf rules and the ε rules are used
  pub going_none : {mB ws ws' ws'' : List ℕ} {k' k'' : ℕ} → Searchable L mS xS mB xB z ws → Leaves L z xS xB ws 0 ws' k'
      → Closing L z xS 0 ws' k' ws'' k'' → Going L z mS xS xB ws ws'' k'' 0
  going_none c leaves close =
      let r = ready_none c in
      let d = leaves_did L wide few leaves r in
      let e = closing_did L wide close (did_ready r d) (omega arith) in
      record {
        size = did_size e ∙ did_size d;
        fixed = e.grew.fixed ∙ d.grew.fixed;
        ready = did_ready (did_ready r d) e;
        searched = searched_none r.working.queued c.clear d.grew d.done e.grew e.done;
      }

  -- the pair at place i is taken and does not fail: it is joined with all that is taken, and the ε rules are used
  pub going_more : {ws₀ ws ws' ws'' ws''' : List ℕ} {k i k'' k''' : ℕ} {pair : Pair} (g : Going L z mS xS xB ws₀ ws k i) (h : i < k)
      → TakeRead z ws i ws' pair → ¬ Fails z mS ws' pair → Joins L z xS xB pair ws' k ws'' k'' → Closing L z xS k ws'' k'' ws''' k'''
      → Going L z mS xS xB ws₀ ws''' k''' (i + 1)
  going_more {ws = ws} {ws' = ws'} {pair = pair} g h t f join close =
      let o = taking_it g h t in
      let r = took_ready g h t in
      let d = joins_did L wide join r o.pair_at_lem.small in
      let e = closing_did L wide close (did_ready r d) d.grew.more in
      record {
        size = did_size e ∙ did_size d ∙ took_size g h t;
        fixed = e.grew.fixed ∙ d.grew.fixed ∙ took_fixed g h t ∙ g.fixed;
        ready = did_ready (did_ready r d) e;
        searched = searched_more g.searched pair h o.pair_at_lem.small o.pair_at_lem.there (rw o.taken at d.grew) d.done e.grew
            (rw (took_fixed g h t) at passes) e.done;
      }
    where
      passes : Final mS pair.p.0 → number (memory_of z ws').fixed pair.q.0 2 ≡ 1
      passes fp = by_cases (ℕ_discrete (number (memory_of z ws').fixed pair.q.0 2) 1) (λ o. o) (λ o. absurd (f (fp, o)))

module _ (L : Limits) (wide : 0 < L.width) {z : Sizes} {mS xS mB xB ws₀ : List ℕ} (c : Searchable L mS xS mB xB z ws₀) where
  -- the pair at place i fails
  pub one_fails : {ws ws' : List ℕ} {k i : ℕ} {pair : Pair} (g : Going L z mS xS xB ws₀ ws k i) (h : i < k) → TakeRead z ws i ws' pair
      → Fails z mS ws' pair → Found L mS xS mB xB z ws' (Some i)
  one_fails {ws} {ws'} {k} {i} {pair} g h t f = one_fails_of record {
    count = k;
    state = took_state g h t;
    inside = h;
    p = pair.p.0;
    q = pair.q.0;
    q_small = (taking_it g h t).pair_at_lem.small;
    pair = took_queue g h t ∙ (taking_it g h t).pair_at_lem.there;
    final = f.0;
    no_end_of = λ e. f.1 (rw (took_fixed g h t, g.fixed)
        ((c.receiver.numbers.ends pair.q.0 (omega (arith, (taking_it g h t).pair_at_lem.small, c.receiver.states))).1 e));
  }

  -- every pair of the queue has been taken
  module _ {ws : List ℕ} {k i : ℕ} (g : Going L z mS xS xB ws₀ ws k i) (h : k ≤ i) where
    abbrev Pairs : ℕ → ℕ → Type 0
    Pairs p q = (q ≤ z.receivers) × Marked (memory_of z ws).found (code z.receivers p q)

    receiver : ReceiverOf L z xB ws
    receiver = (mB, receiving_as g.fixed c.receiver)

    all_taken : (p q : ℕ) → Pairs p q → Taken (memory_of z ws).found (code z.receivers p q)
    all_taken p q a =
        let (j, hj, ej) = g.searched.state.queued.marked _ a.1 in
        rw ej at (g.searched.taken j (omega arith))

    closed : ClosedRows L.width xS (Rules L xB) z.receivers Pairs
    closed = record {
      leaves = λ r u e q t. (leaf_small L wide receiver t, (g.searched.leaves r u).holds e q t);
      joins = λ r u e x y q a b t. (
        join_small L wide receiver t,
        (g.searched.joins r u e x y a.0 b.0).holds (all_taken _ x a) (all_taken _ y b) q t,
      );
      eps = λ r u e q a. (
        a.0,
        let (j, hj, ej) = g.searched.state.queued.marked _ a.1 in
            (g.searched.eps j (at xS (r * L.width + 1)) q (omega arith) hj a.0 ej r u).holds e refl,
      );
    }

    ends : (p q : ℕ) → Pairs p q → Final mS p → Ends (Rules L xB) mB q
    ends p q a fp =
        let (j, hj, ej) = g.searched.state.queued.marked _ a.1 in
        (c.receiver.numbers.ends q (omega (arith, a.0, c.receiver.states))).0
        (rw (← g.fixed) (g.searched.passed j p q (omega arith) a.0 ej fp))

    pub all_pass : Found L mS xS mB xB z ws None
    all_pass = all_pass_of (tables_included L wide mS xS mB xB c.receiver.sound c.receiver.receives Pairs
        (rw c.receiver.states (closed_of_rows closed)) ends)
