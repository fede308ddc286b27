-- The state of the search is kept by each step: nothing added, one step behind another, a pair put into the queue, a pair taken. Assumes
-- nothing.
use Prim.Native.Nat.{ℕ, suc, ◌+◌, ◌*◌, ◌/◌, ◌%◌, ◌≤◌, ◌<◌}
use mathlib.Core.Path.{◌≡◌, refl, sym, ap, ◌∙◌}
use mathlib.Core.Logic.{◌≢◌, ◌⊎◌, inl, inr, by_cases}
use mathlib.Core.List.{List}
use native.Mathlib.Decide.{ℕ_discrete, dec_lt}
use native.Mathlib.Nat.{mul-le-mul_right, suc-mul, div-add-mod', mod-lt}
use native.Mathlib.Omega.{arith}
use lib.ListN.{length, set, length-set}
use lib.Seq.{get_or-set_same, get_or-set_other}
use Rattle.paper.specs.Limits.{at}
use Rattle.table.specs.Rules.{Rule}
use Rattle.pairs.specs.Memory.{Memory, Marked, Taken, putting, taking, taken_mark}
use Rattle.pairs.specs.State.{code, eps_mark, Keeps, Origin, Queued, State, Put, Grew}
use Rattle.pairs.proofs.MemoryLaws.{marked_inside, zeros_set, zeros_again, zeros_clear}

-- two pairs with one number are one pair
pub code_one : (n p q r s : ℕ) → q ≤ n → s ≤ n → code n p q ≡ code n r s → (p ≡ r) × (q ≡ s)
code_one n p q r s h k e = by_cases (ℕ_discrete p r)
    (λ i. let z : p * (n + 1) ≡ r * (n + 1) = ap (λ (x : ℕ). x * (n + 1)) i in (i, omega arith))
    (λ d. by_cases (dec_lt p r)
    (λ l. absurd (omega (arith, mul-le-mul_right {m = suc p} {n = r} (n + 1) l, suc-mul p (n + 1))))
    (λ l. absurd (omega (arith, mul-le-mul_right {m = suc r} {n = p} (n + 1) (omega arith), suc-mul r (n + 1)))))

pub code_inside : (n p q s : ℕ) → p < s → q ≤ n → code n p q < s * (n + 1)
code_inside n p q s h k = omega (arith, mul-le-mul_right {m = suc p} {n = s} (n + 1) h, suc-mul p (n + 1))

-- every number is that of a pair
pub code_split : (n c : ℕ) → (c % (n + 1) ≤ n) × (c ≡ code n (c / (n + 1)) (c % (n + 1)))
code_split n c = let m = mod-lt c {m = n + 1} (omega arith) in (omega arith, sym (div-add-mod' c (n + 1)))

pub listed_inside : {N : ℕ} {m : Memory} {k : ℕ} → Queued N m k → (j : ℕ) → j < k → at m.queue j < N
listed_inside {m = m} s j h = let z = marked_inside m.found (at m.queue j) (s.listed j h) in omega (arith, s.found_size)

module _ {S B : Rule → Type 0} {n : ℕ} where
  origin_keep : (queue queue' : List ℕ) (j k a b p q : ℕ) → j ≤ k → Keeps queue queue' k
      → Origin S B n queue j a b p q → Origin S B n queue' j a b p q
  origin_keep queue queue' j k a b p q l h (inl o) = inl o
  origin_keep queue queue' j k a b p q l h (inr (inl o)) = inr (inl record {
    mark = o.mark;
    place = o.place;
    earlier = o.earlier;
    there = h o.place (let e = o.earlier in omega arith) ∙ o.there;
    state = o.state;
    pair = o.pair;
    rule = o.rule;
  })
  origin_keep queue queue' j k a b p q l h (inr (inr o)) = inr (inr record {
    mark = o.mark;
    place = o.place;
    earlier = o.earlier;
    there = h o.place (let e = o.earlier in omega arith) ∙ o.there;
    place2 = o.place2;
    earlier2 = o.earlier2;
    there2 = h o.place2 (let e = o.earlier2 in omega arith) ∙ o.there2;
    left = o.left;
    x = o.x;
    x_small = o.x_small;
    pair = o.pair;
    right = o.right;
    y = o.y;
    y_small = o.y_small;
    pair2 = o.pair2;
    rule = o.rule;
    base = o.base;
  })

  -- an origin stays when the search goes on
  origin_on : {N : ℕ} {m m' : Memory} {k k' : ℕ} → Queued N m k → Grew S B n N m k m' k' → (j p q : ℕ) → j < k
      → at m'.queue j ≡ code n p q
      → (at m.queue j ≡ code n p q → Origin S B n m.queue j (at m.lefts (code n p q)) (at m.rights (code n p q)) p q)
      → Origin S B n m'.queue j (at m'.lefts (code n p q)) (at m'.rights (code n p q)) p q
  origin_on {m = m} {m' = m'} {k = k} s g j p q h e o =
      let old : at m.queue j ≡ code n p q = sym (g.queue_kept j h) ∙ e in
      let mk : Marked m.found (code n p q) = rw (← old) (s.listed j h) in
      rw (g.lefts_kept (code n p q) mk, g.rights_kept (code n p q) mk)
      (origin_keep m.queue m'.queue j k _ _ p q (omega arith) g.queue_kept (o old))

  pub grew_state : {N : ℕ} {m m' : Memory} {k k' : ℕ} → State S B n N m k → Grew S B n N m k m' k' → State S B n N m' k'
  grew_state {k = k} s g = record {
    queued = g.queued;
    origin = λ j p q h hq e. by_cases (dec_lt j k)
        (λ l. origin_on s.queued g j p q l e (s.origin j p q l hq))
        (λ l. g.origin j p q (omega arith) h hq e);
  }

  pub grew_none : {N : ℕ} {m : Memory} {k : ℕ} → Queued N m k → Grew S B n N m k m k
  grew_none s = record {
    queued = s;
    more = omega arith;
    size = refl;
    fixed = refl;
    kept = λ c h. refl;
    taken = λ c h. h;
    queue_kept = λ j h. refl;
    lefts_kept = λ c h. refl;
    rights_kept = λ c h. refl;
    origin = λ j p q h x. absurd (omega arith);
    parts = λ j h x. absurd (omega arith);
  }

  pub grew_more : {N : ℕ} {m m' m'' : Memory} {k k' k'' : ℕ} → Grew S B n N m k m' k' → Grew S B n N m' k' m'' k'' → Grew S B n N m k m'' k''
  grew_more {m = m} {m' = m'} {m'' = m''} {k' = k'} a b = record {
    queued = b.queued;
    more = omega arith;
    size = b.size ∙ a.size;
    fixed = b.fixed ∙ a.fixed;
    kept = λ c h. b.kept c (rw (a.kept c h) h) ∙ a.kept c h;
    taken = λ c h. a.taken c (b.taken c h);
    queue_kept = λ j h. b.queue_kept j (let e = a.more in omega arith) ∙ a.queue_kept j h;
    lefts_kept = λ c h. b.lefts_kept c (rw (a.kept c h) h) ∙ a.lefts_kept c h;
    rights_kept = λ c h. b.rights_kept c (rw (a.kept c h) h) ∙ a.rights_kept c h;
    origin = λ j p q h x hq e. by_cases (dec_lt j k')
        (λ l. origin_on a.queued b j p q l e (a.origin j p q h l hq))
        (λ l. b.origin j p q (omega arith) x hq e);
    parts = λ j h x e. by_cases (dec_lt j k')
        (λ l.
        let eq = b.queue_kept j l in
        let mk = a.queued.listed j l in
        let el : at m''.lefts (at m''.queue j) ≡ at m'.lefts (at m'.queue j) = rw eq (b.lefts_kept (at m'.queue j) mk) in
        let er : at m''.rights (at m''.queue j) ≡ at m'.rights (at m'.queue j) = rw eq (b.rights_kept (at m'.queue j) mk) in
        rw (el, er) (a.parts j h l (rw er at e)))
        (λ l. let (y, z) = b.parts j (omega arith) x e in (a.taken _ y, a.taken _ z));
  }

  pub grew_marked : {N : ℕ} {m m' : Memory} {k k' : ℕ} → Grew S B n N m k m' k' → (c : ℕ) → Marked m.found c → Marked m'.found c
  grew_marked g c h = rw (g.kept c h) h

-- what goes by some rules goes by more
module _ {S T B : Rule → Type 0} {n : ℕ} (more : (r : Rule) → S r → T r) where
  origin_in : {queue : List ℕ} {j a b p q : ℕ} → Origin S B n queue j a b p q → Origin T B n queue j a b p q
  origin_in (inl o) = inl record { mark = o.mark; rule = more _ o.rule; base = o.base }
  origin_in (inr (inl o)) = inr (inl record {
    mark = o.mark;
    place = o.place;
    earlier = o.earlier;
    there = o.there;
    state = o.state;
    pair = o.pair;
    rule = more _ o.rule;
  })
  origin_in (inr (inr o)) = inr (inr record {
    mark = o.mark;
    place = o.place;
    earlier = o.earlier;
    there = o.there;
    place2 = o.place2;
    earlier2 = o.earlier2;
    there2 = o.there2;
    left = o.left;
    x = o.x;
    x_small = o.x_small;
    pair = o.pair;
    right = o.right;
    y = o.y;
    y_small = o.y_small;
    pair2 = o.pair2;
    rule = more _ o.rule;
    base = o.base;
  })

  pub grew_in : {N : ℕ} {m m' : Memory} {k k' : ℕ} → Grew S B n N m k m' k' → Grew T B n N m k m' k'
  grew_in g = record {
    queued = g.queued;
    more = g.more;
    size = g.size;
    fixed = g.fixed;
    kept = g.kept;
    taken = g.taken;
    queue_kept = g.queue_kept;
    lefts_kept = g.lefts_kept;
    rights_kept = g.rights_kept;
    origin = λ j p q h x hq e. origin_in (g.origin j p q h x hq e);
    parts = g.parts;
  }

-- there is room for a pair that is not there
pub room : {N : ℕ} {m : Memory} {k : ℕ} → Queued N m k → (c : ℕ) → c < N → at m.found c ≡ 0 → k < N
room {m = m} s c h e = omega (arith, s.count, s.found_size, zeros_set m.found c 1 (omega (arith, s.found_size)) e (omega arith))

-- a pair is put into the queue: where it stands, and that the others stay
module _ {N : ℕ} {m : Memory} {k : ℕ} (s : Queued N m k) (c a b : ℕ) (hc : c < N) (e : at m.found c ≡ 0) where
  put_keep : Keeps m.queue (set m.queue k c) k
  put_keep j h = get_or-set_other m.queue k j c 0 (omega arith)

  put_here : at (set m.queue k c) k ≡ c
  put_here = get_or-set_same m.queue k c 0 (let r = room s c hc e in omega (arith, s.queue_size))

  put_old : (d : ℕ) → Marked m.found d → d ≢ c
  put_old d h i = absurd (let y : at m.found d ≡ 0 = rw i e in omega arith)

  put_kept : (d : ℕ) → Marked m.found d → at (set m.found c 1) d ≡ at m.found d
  put_kept d h = get_or-set_other m.found c d 1 0 (put_old d h)

  put_queued : Queued N (putting m k c a b) (k + 1)
  unfolding putting
  put_queued = record {
    found_size = length-set m.found c 1 ∙ s.found_size;
    queue_size = length-set m.queue k c ∙ s.queue_size;
    lefts_size = length-set m.lefts c a ∙ s.lefts_size;
    rights_size = length-set m.rights c b ∙ s.rights_size;
    count = omega (arith, s.count, zeros_set m.found c 1 (omega (arith, s.found_size)) e (omega arith));
    listed = λ j h. by_cases (ℕ_discrete j k)
        (λ i. rw (i, put_here, get_or-set_same m.found c 1 0 (omega (arith, s.found_size))) (omega arith))
        (λ i. let x = s.listed j (omega arith) in rw (put_keep j (omega arith), put_kept (at m.queue j) x) x);
    marked = λ d h. by_cases (ℕ_discrete d c)
        (λ i. (k, omega arith, put_here ∙ sym i))
        (λ i. let (j, x, y) = s.marked d (rw (get_or-set_other m.found c d 1 0 i) at h) in (j, omega arith, put_keep j x ∙ y));
    distinct = λ i j hi hj eq. by_cases (ℕ_discrete i k)
        (λ (x : i ≡ k). by_cases (ℕ_discrete j k)
        (λ (y : j ≡ k). x ∙ sym y)
        (λ y. absurd (put_old (at m.queue j) (s.listed j (omega arith))
        (sym (put_keep j (omega arith)) ∙ sym eq ∙ ap (λ (z : ℕ). at (set m.queue k c) z) x ∙ put_here))))
        (λ x. by_cases (ℕ_discrete j k)
        (λ (y : j ≡ k). absurd (put_old (at m.queue i) (s.listed i (omega arith))
        (sym (put_keep i (omega arith)) ∙ eq ∙ ap (λ (z : ℕ). at (set m.queue k c) z) y ∙ put_here)))
        (λ y. s.distinct i j (omega arith) (omega arith) (sym (put_keep i (omega arith)) ∙ eq ∙ put_keep j (omega arith))));
  }

module _ {S B : Rule → Type 0} {n N : ℕ} {m : Memory} {k : ℕ} (u : Queued N m k) (p q a b : ℕ) (hq : q ≤ n) (hc : code n p q < N) where
  put_new : at m.found (code n p q) ≡ 0 → Origin S B n m.queue k a b p q
      → (b < eps_mark → Taken m.found a × Taken m.found b)
      → Grew S B n N m k (putting m k (code n p q) a b) (k + 1)
  unfolding putting
  put_new e o pt =
      let c = code n p q in
      let here : at (set m.queue k c) k ≡ c = put_here u c a b hc e in
      let keep : Keeps m.queue (set m.queue k c) k = put_keep u c a b hc e in
      record {
        queued = put_queued u c a b hc e;
        more = omega arith;
        size = refl;
        fixed = refl;
        kept = put_kept u c a b hc e;
        taken = λ d h. by_cases (ℕ_discrete d c)
            (λ i. absurd (let x = get_or-set_same m.found c 1 0 (omega (arith, u.found_size)) in let y : at (set m.found c 1) c ≡ 2 = rw i at h in omega arith))
            (λ i. rw (get_or-set_other m.found c d 1 0 i) at h);
        queue_kept = keep;
        lefts_kept = λ d h. get_or-set_other m.lefts c d a 0 (put_old u c a b hc e d h);
        rights_kept = λ d h. get_or-set_other m.rights c d b 0 (put_old u c a b hc e d h);
        origin = λ j p' q' h l hq' eq.
            let i : j ≡ k = omega arith in
            let (ep, eqq) = code_one n p q p' q' hq hq' (sym here ∙ ap (λ (x : ℕ). at (set m.queue k c) x) (sym i) ∙ eq) in
            rw (i, ← ep, ← eqq, get_or-set_same m.lefts c a 0 (omega (arith, u.lefts_size)), get_or-set_same m.rights c b 0 (omega (arith, u.rights_size)))
            (origin_keep m.queue (set m.queue k c) k k a b p q (omega arith) keep o);
        parts = λ j h l x.
            let i : j ≡ k = omega arith in
            let jc : at (set m.queue k c) j ≡ c = ap (λ (z : ℕ). at (set m.queue k c) z) i ∙ here in
            let el : at (set m.lefts c a) (at (set m.queue k c) j) ≡ a = rw jc (get_or-set_same m.lefts c a 0 (omega (arith, u.lefts_size))) in
            let er : at (set m.rights c b) (at (set m.queue k c) j) ≡ b = rw jc (get_or-set_same m.rights c b 0 (omega (arith, u.rights_size))) in
            rw (el, er) (pt (rw er at x));
      }

  -- whether the pair was there or not, the search went on, and the pair is found
  pub put_grew : {m' : Memory} {k' : ℕ} → Origin S B n m.queue k a b p q → (b < eps_mark → Taken m.found a × Taken m.found b)
      → Put m k (code n p q) a b m' k' → Grew S B n N m k m' k' × Marked m'.found (code n p q)
  unfolding putting
  put_grew o pt (inl (h, (e, i))) = rw (e, i) (grew_none u, h)
  put_grew o pt (inr (h, (e, i))) = rw (e, i) (put_new h o pt, there)
    where
      there : Marked (putting m k (code n p q) a b).found (code n p q)
      there = rw (get_or-set_same m.found (code n p q) 1 0 (omega (arith, u.found_size))) (omega arith)

-- before anything is found
pub queued_none : {N : ℕ} {m : Memory} → length m.found ≡ N → length m.queue ≡ N → length m.lefts ≡ N → length m.rights ≡ N
    → ((c : ℕ) → at m.found c ≡ 0) → Queued N m 0
queued_none {m = m} a b c d z = record {
  found_size = a;
  queue_size = b;
  lefts_size = c;
  rights_size = d;
  count = omega (arith, zeros_clear m.found z, a);
  listed = λ j h. absurd (omega arith);
  marked = λ e h. absurd (omega (arith, z e));
  distinct = λ i j h. absurd (omega arith);
}

-- a pair is taken
module _ (m : Memory) (c : ℕ) (h : Marked m.found c) where
  pub take_marked : (d : ℕ) → Marked m.found d → Marked (taking m c).found d
  unfolding taking
  take_marked d k = by_cases (ℕ_discrete d c)
      (λ e. rw (e, get_or-set_same m.found c taken_mark 0 (marked_inside m.found c h)) (omega arith))
      (λ e. rw (get_or-set_other m.found c d taken_mark 0 e) k)

  pub take_back : (d : ℕ) → Marked (taking m c).found d → Marked m.found d
  unfolding taking
  take_back d k = by_cases (ℕ_discrete d c) (λ e. rw e h) (λ e. rw (get_or-set_other m.found c d taken_mark 0 e) at k)

  pub take_old : (d : ℕ) → Taken (taking m c).found d → (d ≡ c) ⊎ Taken m.found d
  unfolding taking
  take_old d k = by_cases (ℕ_discrete d c) (λ e. inl e) (λ e. inr (rw (get_or-set_other m.found c d taken_mark 0 e) at k))

  pub take_keep : (d : ℕ) → Taken m.found d → Taken (taking m c).found d
  unfolding taking
  take_keep d k = by_cases (ℕ_discrete d c)
      (λ e. rw (e, get_or-set_same m.found c taken_mark 0 (marked_inside m.found c h)) refl)
      (λ e. rw (get_or-set_other m.found c d taken_mark 0 e) k)

  pub take_new : Taken (taking m c).found c
  unfolding taking
  take_new = get_or-set_same m.found c taken_mark 0 (marked_inside m.found c h)

  pub take_queued : {N k : ℕ} → Queued N m k → Queued N (taking m c) k
  unfolding taking
  take_queued s = record {
    found_size = length-set m.found c taken_mark ∙ s.found_size;
    queue_size = s.queue_size;
    lefts_size = s.lefts_size;
    rights_size = s.rights_size;
    count = omega (arith, s.count, zeros_again m.found c taken_mark h (omega arith));
    listed = λ j l. take_marked (at m.queue j) (s.listed j l);
    marked = λ d l. s.marked d (take_back d l);
    distinct = s.distinct;
  }

  pub take_state : {S B : Rule → Type 0} {n N k : ℕ} → State S B n N m k → State S B n N (taking m c) k
  unfolding taking
  take_state s = record { queued = take_queued s.queued; origin = s.origin }
