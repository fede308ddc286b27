-- With the index built behind the numbers of the receiver's states, the work memory is as the search wants it. Assumes nothing.
use Prim.Native.Nat.{ℕ, ◌+◌, ◌*◌, ◌-◌, ◌/◌, ◌≤◌, ◌<◌}
use mathlib.Core.Path.{◌≡◌, sym, ap, ◌∙◌, subst}
use mathlib.Core.Logic.{by_cases, ⊎_elim}
use mathlib.Core.List.{List, ◌++◌, append-nil}
use native.Mathlib.Decide.{dec_lt}
use native.Mathlib.Nat.{mul-le-mul}
use native.Mathlib.Omega.{arith}
use lib.ListN.{length, take, drop, length-append, length-drop, drop_of_length-le, get_or-eq_default}
use borrow.Rule.Slice.PartMut.{mid_of, put_mid}
use lib.Seq.{length-take-le, get_or-take, get_or-drop, get_or-append-add, take-append-le, take_all}
use Rattle.paper.specs.Limits.{Limits, limits, at}
use Rattle.table.specs.Check.{Sound}
use Rattle.table.proofs.Range.{states_few, rules_few}
use Rattle.receiver.specs.Receiver.{Receives}
use Rattle.receiver.specs.Numbers.{NumbersOf, numbers_each, numbers_size, number}
use Rattle.joins.specs.Index.{Indexed, NoIndexRoom, Holds, Built}
use Rattle.joins.proofs.IndexLaws.{indexed_keep}
use Rattle.pairs.specs.declared.Sizes.{Sizes}
use Rattle.pairs.specs.Memory.{memory, end_at}
use Rattle.pairs.proofs.MemoryLaws.{found_long, found_at_lem}
use Rattle.inclusion.specs.Prepare.{Laid, Prepared, work_size_of}
use Rattle.tree.specs.Tree.{Tree}
use Rattle.table.specs.Rules.{RulesOf, Accepts}
use Rattle.inclusion.specs.Trace.{Failed}
use Rattle.pairs.specs.Work.{memory_of}
use Rattle.moves.specs.Receiving.{Rules}
use Rattle.inclusion.specs.Search.{Searchable, Found, all_pass_of, one_fails_of}
use Rattle.std.specs.Prelude.{Option, Some, None}

-- the numbers of the states are known by their front
numbers_keep : {L : Limits} {ms xs ns : List ℕ} (ns' : List ℕ) → NumbersOf L ms xs ns
    → ((i : ℕ) → i < numbers_size (length ms) → at ns' i ≡ at ns i) → NumbersOf L ms xs ns'
numbers_keep {ms = ms} {ns = ns} ns' x same =
    let e : (p k : ℕ) → p ≤ length ms → k < numbers_each → number ns' p k ≡ number ns p k = λ p k h l. same (numbers_each * p + k) (omega arith) in
    record {
      lefts = λ p h. rw (e p 0 h (omega arith)) (x.lefts p h);
      rights = λ p h. rw (e p 1 h (omega arith)) (x.rights p h);
      ends = λ p h. rw (e p 2 h (omega arith)) (x.ends p h);
      bits = λ p h. rw (e p 2 h (omega arith)) (x.bits p h);
    }

-- a list whose rest from i on was changed
module _ (ws is : List ℕ) (i : ℕ) (inside : i ≤ length ws) where
  front_at : (j : ℕ) → j < i → at (take i ws ++ is) j ≡ at ws j
  front_at j h =
      sym (get_or-take i (take i ws ++ is) j 0 h)
      ∙ ap (λ (l : List ℕ). at l j) (take-append-le i (take i ws) is (omega (arith, length-take-le i ws inside)))
      ∙ get_or-take i (take i ws) j 0 h ∙ get_or-take i ws j 0 h

  rest_at : (j : ℕ) → at (take i ws ++ is) (i + j) ≡ at is j
  rest_at j = ap (λ (k : ℕ). at (take i ws ++ is) (k + j)) (sym (length-take-le i ws inside)) ∙ get_or-append-add (take i ws) is j 0

  changed_long : length is ≡ length (drop i ws) → length (take i ws ++ is) ≡ length ws
  changed_long e = omega (arith, length-append (take i ws) is, length-take-le i ws inside, length-drop i ws)

-- the rest of a slice from i on, as it is lent, and the slice when it is given back
pub rest_lent : (ws : List ℕ) (i : ℕ) → mid_of i (length ws - i) ws ≡ drop i ws
rest_lent ws i = take_all (length ws - i) (drop i ws) (omega (arith, length-drop i ws))

pub rest_back : (ws ys : List ℕ) (i : ℕ) → i ≤ length ws → put_mid i (length ws - i) ws ys ≡ take i ws ++ ys
rest_back ws ys i h =
    ap (λ (l : List ℕ). take i ws ++ (ys ++ l)) (drop_of_length-le (drop i ws) {i = length ws - i} (omega (arith, length-drop i ws)))
    ∙ ap (λ (l : List ℕ). take i ws ++ l) (append-nil ys)

module _ {symbols : ℕ} {mS xS mB xB : List ℕ} (sound : Sound limits symbols mS xS) (good : Sound limits symbols mB xB) (receives : Receives limits mB xB)
    {ws : List ℕ} (ready : Prepared mB xB ws) {z : Sizes} (laid : Laid (length mS) (length mB) (length xB / limits.width) z) where
  -- the pairs and all else have room
  pub pairs_few : z.pairs ≤ limits.states * (limits.states + 1)
  pairs_few =
      let a = states_few limits sound in
      let b = states_few limits good in
      let c : length mB + 1 ≤ limits.states + 1 = omega arith in
      omega (arith, laid.pairs, mul-le-mul a c)

  pub all_fits : end_at z.base z.pairs ≤ work_size_of
  all_fits =
      let p = pairs_few in
      let b = states_few limits good in
      let c = rules_few limits good in
      omega (arith, laid.base, laid.index)

  pub index_inside : z.index ≤ length ws
  index_inside = let a = all_fits in omega (arith, laid.base, ready.size)

  index_room : ¬ NoIndexRoom (length xB / limits.width) (length mB) (length (drop z.index ws))
  index_room h =
      let a = all_fits in
      let b = states_few limits good in
      let c = rules_few limits good in
      let d = length-drop z.index ws in
      let e = laid.base in
      let f = ready.size in
      ⊎_elim (λ x. absurd (omega arith)) (λ x. absurd (omega arith)) h

  module _ {o : Option ℕ} {is : List ℕ} (built : Built limits.width xB (length mB) (drop z.index ws) o is) where
    -- so many numbers has the index
    abbrev r : ℕ
    r = (built.with index_room).0

    holds : Holds limits.width xB (length mB) (drop z.index ws) r is
    holds = (built.with index_room).2

    long : length (take z.index ws ++ is) ≡ length ws
    long = changed_long ws is z.index index_inside holds.size

    -- behind the index all is still 0
    still_clear : (j : ℕ) → r ≤ j → at is j ≡ 0
    still_clear j h =
        ap (λ (k : ℕ). at is k) (omega arith) ∙ sym (get_or-drop r is (j - r) 0)
        ∙ ap (λ (l : List ℕ). at l (j - r)) holds.rest
        ∙ get_or-drop r (drop z.index ws) (j - r) 0 ∙ get_or-drop z.index ws (r + (j - r)) 0
        ∙ ready.clear (z.index + (r + (j - r))) (omega (arith, laid.index))

    clear : (c : ℕ) → at (memory_of z (take z.index ws ++ is)).found c ≡ 0
    clear c =
        let all = take z.index ws ++ is in
        let fits = all_fits in
        let e = laid.base in
        by_cases (dec_lt c z.pairs)
        (λ h.
        let y : z.base + c ≡ z.index + (z.base - z.index + c) = omega arith in
        found_at_lem z.base z.pairs all c h
        ∙ ap (λ (k : ℕ). at all k) y
        ∙ rest_at ws is z.index index_inside (z.base - z.index + c)
        ∙ still_clear (z.base - z.index + c) (let w = holds.within in omega arith))
        (λ h. get_or-eq_default (memory_of z all).found 0 (omega (arith, found_long z.base z.pairs all (omega (arith, long, ready.size)))))

    fixed_at : (j : ℕ) → j < z.base → at (memory_of z (take z.index ws ++ is)).fixed j ≡ at (take z.index ws ++ is) j
    unfolding memory
    fixed_at j h = get_or-take z.base (take z.index ws ++ is) j 0 h

    fixed_long : length (memory_of z (take z.index ws ++ is)).fixed ≡ z.base
    unfolding memory
    fixed_long = length-take-le z.base (take z.index ws ++ is) (let a = all_fits in omega (arith, long, ready.size))

    indexed : Indexed limits.width xB (length mB) (drop z.index (memory_of z (take z.index ws ++ is)).fixed)
    indexed =
        let all = take z.index ws ++ is in
        let fx = (memory_of z all).fixed in
        let w = holds.within in
        let c = holds.counts in
        let e = laid.base in
        indexed_keep holds.indexed
        (omega (arith, length-drop z.index fx, fixed_long))
        (λ k h. get_or-drop z.index fx k 0 ∙ fixed_at (z.index + k) (omega arith) ∙ rest_at ws is z.index index_inside k)

    prepared_searchable : Searchable limits mS xS mB xB z (take z.index ws ++ is)
    prepared_searchable = record {
      sender = record { symbols = symbols; sound = sound; pairs = rw laid.states laid.pairs };
      receiver = record {
        symbols = symbols;
        sound = good;
        receives = receives;
        states = sym laid.states;
        numbers_in = omega (arith, laid.index, laid.states);
        index_in = omega (arith, laid.base);
        numbers = numbers_keep (memory_of z (take z.index ws ++ is)).fixed ready.numbers
            (λ i h. fixed_at i (omega (arith, laid.base, laid.index)) ∙ front_at ws is z.index index_inside i (omega (arith, laid.index)));
        index = rw laid.states indexed;
      };
      room = record { few = let a = pairs_few in omega arith; long = omega (arith, all_fits, long, ready.size) };
      clear = clear;
    }

  -- the same where the rest was lent and is given back
  pub built_searchable : {o : Option ℕ} {is : List ℕ}
      → Built limits.width xB (length mB) (mid_of z.index (length ws - z.index) ws) o is
      → Searchable limits mS xS mB xB z (put_mid z.index (length ws - z.index) ws is)
  built_searchable {is = is} b =
      rw (rest_back ws is z.index index_inside) (prepared_searchable (rw (rest_lent ws z.index) at b))

-- what the search found
pub found_all : {L : Limits} {mS xS mB xB : List ℕ} {z : Sizes} {ws : List ℕ} {o : Option ℕ} → Found L mS xS mB xB z ws o → o ≡ None
    → (t : Tree) → Accepts (Rules L xS) mS t → Accepts (Rules L xB) mB t
found_all (all_pass_of h) e = h
found_all (one_fails_of f) e = absurd (failing_not e)
  where
    failing_not : {i : ℕ} → ◌≡◌ {A = Option ℕ} (Some i) None → ⊥
    failing_not e = let z : ◌≡◌ {A = ℕ} 0 1 = cc in omega arith

pub found_one : {L : Limits} {mS xS mB xB : List ℕ} {z : Sizes} {ws : List ℕ} {o : Option ℕ} (i : ℕ) → Found L mS xS mB xB z ws o → o ≡ Some i
    → Failed (Rules L xS) (Rules L xB) mS mB z.receivers z.pairs (memory_of z ws) i
found_one i (all_pass_of h) e = absurd (included_not e)
  where
    included_not : ◌≡◌ {A = Option ℕ} None (Some i) → ⊥
    included_not e = let z : ◌≡◌ {A = ℕ} 0 1 = cc in omega arith
found_one {L} {mS} {xS} {mB} {xB} {z} {ws} i (one_fails_of {i = j} f) e =
    let d : j ≡ i = cc in
    subst (λ (k : ℕ). Failed (Rules L xS) (Rules L xB) mS mB z.receivers z.pairs (memory_of z ws) k) d f

-- the pair that fails, among the pairs of the two tables
pub search_failed : {mS xS mB xB : List ℕ} {z : Sizes} {ws' : List ℕ} {o : Option ℕ} (i : ℕ) → length mB ≡ z.receivers
    → Found limits mS xS mB xB z ws' o → o ≡ Some i
    → Failed (RulesOf limits.width xS) (RulesOf limits.width xB) mS mB (length mB) z.pairs (memory z.base z.pairs ws') i
search_failed i e f d = rw e (found_one i f d)
