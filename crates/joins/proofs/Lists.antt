-- The list of one left state, rule by rule: nothing yet, one rule more, and a slice that keeps it. Assumes nothing.
use Prim.Native.Nat.{ℕ, ◌+◌, ◌*◌, ◌/◌, ◌≤◌, ◌<◌}
use mathlib.Core.Path.{◌≡◌, refl, sym, ◌∙◌}
use mathlib.Core.Logic.{by_cases}
use mathlib.Core.List.{List}
use native.Mathlib.Decide.{ℕ_discrete}
use native.Mathlib.Omega.{arith}
use lib.ListN.{length, set, length-set}
use lib.Seq.{get_or-set_same, get_or-set_other}
use Rattle.paper.specs.Limits.{at, join_kind}
use Rattle.table.proofs.Rows.{row_whole}
use Rattle.joins.specs.Index.{JoinAt, Listed}
use Rattle.joins.specs.Work.{RowRoom, PutRow, put, skipped, ListRoom, PutList}
use Rattle.joins.proofs.Counts.{own_none, own_here, own_other, own_rises}

module _ {w : ℕ} {xs : List ℕ} {l : ℕ} where
  listed_none : (is : List ℕ) (a : ℕ) → Listed w xs l 0 is a a
  listed_none is a = record {
    ends = omega arith;
    all = λ i h j. absurd (omega arith);
    only = λ k h m. absurd (omega arith);
    rising = λ j k h m n. absurd (omega arith);
  }

  listed_skip : {n : ℕ} {is : List ℕ} {a e : ℕ} → ¬ JoinAt w xs n l → Listed w xs l n is a e → Listed w xs l (n + 1) is a e
  listed_skip {n} d x = record {
    ends = x.ends;
    all = λ i h j. by_cases (ℕ_discrete i n) (λ q. absurd (d (rw q at j))) (λ q. x.all i (omega arith) j);
    only = λ k h m. let z = (x.only k h m).0 in (omega arith, (x.only k h m).1);
    rising = x.rising;
  }

  -- a slice with the same numbers from a up to e has the same list
  pub listed_keep : {n : ℕ} {is is' : List ℕ} {a e : ℕ} → ((k : ℕ) → a ≤ k → k < e → at is' k ≡ at is k)
      → Listed w xs l n is a e → Listed w xs l n is' a e
  listed_keep {n} {is} {is'} same x = record {
    ends = x.ends;
    all = λ i h j. let (k, m, o, q) = x.all i h j in (k, m, o, same k m o ∙ q);
    only = λ k h m. rw (same k h m) (x.only k h m);
    rising = λ j k h m o. let p = x.rising j k h m o in omega (arith, same j h (omega arith), same k (omega arith) o);
  }

  listed_put : {n : ℕ} {is : List ℕ} {a e : ℕ} → JoinAt w xs n l → e < length is → Listed w xs l n is a e
      → Listed w xs l (n + 1) (set is e n) a (e + 1)
  listed_put {n} {is} {a} {e} here room x = record {
    ends = let z = x.ends in omega arith;
    all = λ i h j. by_cases (ℕ_discrete i n)
        (λ q. (e, x.ends, omega arith, last ∙ sym q))
        (λ q. let (k, m, o, p) = x.all i (omega arith) j in (k, m, omega arith, kept k o ∙ p));
    only = λ k h m. by_cases (ℕ_discrete k e)
        (λ q. rw (q, last) (omega arith, here))
        (λ q. let y = x.only k h (omega arith) in rw (kept k (omega arith)) (omega (arith, y.0), y.1));
    rising = λ j k h m o. by_cases (ℕ_discrete k e)
        (λ q. let y = (x.only j h (omega arith)).0 in rw (q, last, kept j (omega arith)) y)
        (λ q. rw (kept j (omega arith), kept k (omega arith)) (x.rising j k h m (omega arith)));
  }
    where
      last : at (set is e n) e ≡ n
      last = get_or-set_same is e n 0 room

      kept : (k : ℕ) → k < e → at (set is e n) k ≡ at is k
      kept k h = get_or-set_other is e k n 0 (λ q. omega arith)

-- a row with these two numbers is such a join rule
pub row_joins : {w : ℕ} {xs : List ℕ} {i l : ℕ} {is : List ℕ} {e : ℕ} → RowRoom w xs i l is e → at xs (i * w) ≡ join_kind
    → at xs (i * w + 1) ≡ l → JoinAt w xs i l
row_joins r k h = record { inside = r.inside; kind = k; left = h }

-- nothing is put yet
pub put_none : (w : ℕ) (xs : List ℕ) (l : ℕ) (o : List ℕ) (a : ℕ) → PutList w xs l 0 o a a o
put_none w xs l o a = record {
  size = refl;
  listed = listed_none o a;
  count = omega (arith, own_none w xs l);
  before = λ k h. refl;
  behind = λ k h. refl;
}

-- there is room for the next rule
pub put_room : {w : ℕ} {xs : List ℕ} {l n : ℕ} {o : List ℕ} {a e : ℕ} {is : List ℕ}
    → 0 < w → ListRoom w xs l o a → n < length xs / w → PutList w xs l n o a e is → RowRoom w xs n l is e
put_room {w} {xs} {l} {n} {o} {a} {e} {is} positive r h x = record {
  inside = row_whole positive (length xs) n h;
  narrow = omega (arith, r.narrow);
  room = λ j. omega (arith, r.room, x.count, x.size, own_here w xs l n j, own_rises w xs l (n + 1) (length xs / w) (omega arith));
}

-- one rule more
pub put_more : {w : ℕ} {xs : List ℕ} {l n : ℕ} {o : List ℕ} {a e : ℕ} {is : List ℕ} {e' : ℕ} {is' : List ℕ}
    → RowRoom w xs n l is e → PutList w xs l n o a e is → PutRow w xs n l is e e' is' → PutList w xs l (n + 1) o a e' is'
put_more {w} {xs} {l} {n} {o} {a} {e} {is} r x (put here) = record {
  size = length-set is e n ∙ x.size;
  listed = listed_put here (r.room here) x.listed;
  count = omega (arith, x.count, own_here w xs l n here);
  before = λ k h. get_or-set_other is e k n 0 (λ q. let z = x.listed.ends in omega arith) ∙ x.before k h;
  behind = λ k h. get_or-set_other is e k n 0 (λ q. omega arith) ∙ x.behind k (omega arith);
}
put_more {w} {xs} {l} {n} r x (skipped d) = record {
  size = x.size;
  listed = listed_skip d x.listed;
  count = x.count ∙ omega (arith, own_other w xs l n d);
  before = x.before;
  behind = x.behind;
}

-- all rules
pub put_all : {w : ℕ} {xs : List ℕ} {l m n : ℕ} {o : List ℕ} {a e : ℕ} {is : List ℕ}
    → m ≤ n → n ≤ m → PutList w xs l m o a e is → PutList w xs l n o a e is
put_all {m = m} {n = n} h k x = let q : n ≡ m = omega arith in rw q x
