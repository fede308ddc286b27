-- Building an index, left state by left state: no list yet, one list more, and the whole. Assumes nothing.
use Prim.Native.Nat.{ℕ, ◌+◌, ◌/◌, ◌≤◌, ◌<◌}
use mathlib.Core.Path.{◌≡◌, refl, sym, ap, ◌∙◌}
use mathlib.Core.Logic.{◌⊎◌, inl, inr, by_cases}
use mathlib.Core.List.{List}
use native.Mathlib.Decide.{ℕ_discrete, dec_le}
use native.Mathlib.Omega.{arith}
use Rattle.std.specs.Prelude.{Some, None}
use lib.ListN.{length, set, drop, length-set, length-drop}
use lib.Seq.{get_or-set_same, get_or-set_other, get_or-drop, drop-set-lt, ext_get_or}
use Rattle.paper.specs.Limits.{at}
use Rattle.joins.specs.Index.{IndexedTo, index_size, most_number, NoIndexRoom, Holds, Built}
use Rattle.joins.specs.Work.{own, ListRoom, PutList}
use Rattle.joins.proofs.Counts.{earlier, earlier_none, earlier_more, earlier_within}
use Rattle.joins.proofs.Lists.{listed_keep}
use Rattle.joins.proofs.IndexLaws.{begins_behind, indexed_as}

-- there is room for the index of so many rules and states in a slice of so many numbers
pub record Roomy (rules n size : ℕ) : Type 0 where
  pub long : index_size rules n ≤ size
  pub narrow : index_size rules n ≤ most_number

pub enough : {rules n size : ℕ} → Roomy rules n size → ¬ NoIndexRoom rules n size
enough r (inl d) = omega (arith, r.long)
enough r (inr d) = omega (arith, r.narrow)

pub roomy : (rules n size : ℕ) → ¬ NoIndexRoom rules n size → Roomy rules n size
roomy rules n size d = record {
  long = by_cases (dec_le (index_size rules n) size) (λ h. h) (λ h. absurd (d (inl (omega arith))));
  narrow = by_cases (dec_le (index_size rules n) most_number) (λ h. h) (λ h. absurd (d (inr (omega arith))));
}

-- the slice o is now is: the lists of the first m left states stand in it, the last up to e, and all from e on is as it was
pub record Going (w : ℕ) (xs : List ℕ) (n : ℕ) (o : List ℕ) (m e : ℕ) (is : List ℕ) : Type 0 where
  pub fits : Roomy (length xs / w) n (length o)
  pub size : length is ≡ length o
  pub few : m ≤ n
  pub indexed : IndexedTo w xs n m is
  pub end : at is m ≡ e
  pub count : e ≡ n + 1 + earlier w xs m (length xs / w)
  pub behind : (k : ℕ) → e ≤ k → at is k ≡ at o k

-- no list yet: the first begins behind the numbers that say where
pub going_none : (w : ℕ) (xs : List ℕ) (n : ℕ) (o : List ℕ) → Roomy (length xs / w) n (length o)
    → Going w xs n (set o 0 (n + 1)) 0 (n + 1) (set o 0 (n + 1))
going_none w xs n o fits = record {
  fits = rw (length-set o 0 (n + 1)) fits;
  size = refl;
  few = omega arith;
  indexed = record {
    first = start;
    lists = λ l h. absurd (omega arith);
    ends = rw (start, length-set o 0 (n + 1)) (omega (arith, fits.long));
  };
  end = start;
  count = omega (arith, earlier_none w xs (length xs / w));
  behind = λ k h. refl;
}
  where
    start : at (set o 0 (n + 1)) 0 ≡ n + 1
    start = get_or-set_same o 0 (n + 1) 0 (omega (arith, fits.long))

module _ {w : ℕ} {xs : List ℕ} {n : ℕ} {o : List ℕ} where
  module _ {m e : ℕ} {is : List ℕ} (g : Going w xs n o m e is) where
    pub going_within : e ≤ index_size (length xs / w) n
    going_within = omega (arith, g.count, earlier_within w xs m (length xs / w))

    -- the next list ends within the index
    going_next : e + own w xs m (length xs / w) ≤ index_size (length xs / w) n
    going_next = omega (arith, g.count, earlier_more w xs m (length xs / w), earlier_within w xs (m + 1) (length xs / w))

    -- there is room for the next list
    pub going_room : ListRoom w xs m is e
    going_room = record {
      narrow = omega (arith, g.fits.narrow);
      room = omega (arith, going_next, g.fits.long, g.size);
    }

    -- one list more, and where it ends
    pub going_more : {e' : ℕ} {is' : List ℕ} → m < n → PutList w xs m (length xs / w) is e e' is'
        → Going w xs n o (m + 1) e' (set is' (m + 1) e')
    going_more {e'} {is'} h x = record {
      fits = g.fits;
      size = length-set is' (m + 1) e' ∙ x.size ∙ g.size;
      few = omega arith;
      indexed = record {
        first = old.first;
        lists = λ l k. by_cases (ℕ_discrete l m)
            (λ q. rw (q, here, at_end) (listed_keep (λ i a b. there i (omega (arith, low))) x.listed))
            (λ q. old.lists l (omega arith));
        ends = rw (here, length-set is' (m + 1) e') short;
      };
      end = here;
      count = omega (arith, x.count, g.count, earlier_more w xs m (length xs / w));
      behind = λ k a.
          there k (omega (arith, low, x.listed.ends)) ∙ x.behind k a ∙ g.behind k (omega (arith, x.listed.ends));
    }
      where
        low : n + 1 ≤ e
        low = omega (arith, begins_behind g.indexed m (omega arith), g.end)

        short : e' ≤ length is'
        short = omega (arith, x.count, going_next, g.fits.long, x.size, g.size)

        here : at (set is' (m + 1) e') (m + 1) ≡ e'
        here = get_or-set_same is' (m + 1) e' 0 (omega (arith, low, x.listed.ends, short))

        there : (k : ℕ) → n + 1 ≤ k → at (set is' (m + 1) e') k ≡ at is' k
        there k a = get_or-set_other is' (m + 1) k e' 0 (λ q. omega arith)

        front : (k : ℕ) → k ≤ m → at (set is' (m + 1) e') k ≡ at is k
        front k a = get_or-set_other is' (m + 1) k e' 0 (λ q. omega arith) ∙ x.before k (omega (arith, low))

        at_end : at (set is' (m + 1) e') m ≡ e
        at_end = front m (omega arith) ∙ g.end

        same : (k : ℕ) → (k ≤ m) ⊎ ((n + 1 ≤ k) × (k < at is m)) → at (set is' (m + 1) e') k ≡ at is k
        same k (inl a) = front k a
        same k (inr a) = there k a.0 ∙ x.before k (omega (arith, a.1, g.end))

        old : IndexedTo w xs n m (set is' (m + 1) e')
        old =
            indexed_as g.indexed (omega arith) (rw (length-set is' (m + 1) e') (omega (arith, short, x.listed.ends, g.end))) same

  -- all lists stand
  pub going_end : {m e : ℕ} {is : List ℕ} → n ≤ m → Going w xs n o m e is → Holds w xs n o e is
  going_end {m} {e} {is} h g = record {
    size = g.size;
    indexed = rw all at g.indexed;
    counts = sym g.end ∙ ap (at is) all;
    within = going_within g;
    rest = ext_get_or 0 (drop e is) (drop e o) (length-drop e is ∙ omega (arith, g.size) ∙ sym (length-drop e o))
        (λ i k. get_or-drop e is i 0 ∙ g.behind (e + i) (omega arith) ∙ sym (get_or-drop e o i 0));
  }
    where
      all : m ≡ n
      all = omega (arith, g.few)

-- the number that is put first is the index's own
pub holds_first : {w : ℕ} {xs : List ℕ} {n : ℕ} (o : List ℕ) (v : ℕ) {r : ℕ} {is : List ℕ}
    → Holds w xs n (set o 0 v) r is → Holds w xs n o r is
holds_first {n = n} o v {r} x = record {
  size = x.size ∙ length-set o 0 v;
  indexed = x.indexed;
  counts = x.counts;
  within = x.within;
  rest = x.rest ∙ drop-set-lt r o 0 v (omega (arith, x.counts, begins_behind x.indexed n (omega arith)));
}

-- without room nothing is done
pub built_without : {w : ℕ} {xs : List ℕ} {n : ℕ} {o : List ℕ} → NoIndexRoom (length xs / w) n (length o) → Built w xs n o None o
built_without h = record { without = λ k. (refl, refl); with = λ d. absurd (d h) }

-- with room the index stands in the slice
pub built_with : {w : ℕ} {xs : List ℕ} {n : ℕ} {o : List ℕ} {r : ℕ} {is : List ℕ}
    → ¬ NoIndexRoom (length xs / w) n (length o) → Holds w xs n o r is → Built w xs n o (Some r) is
built_with {r = r} d x = record { without = λ k. absurd (d k); with = λ e. (r, refl, x) }
