-- The numbers of one state, from the flags of the states that it reaches, and of one state more. Assumes nothing.
use Prim.Native.Nat.{ℕ, zero, suc, ◌+◌, ◌*◌, ◌≤◌, ◌<◌}
use mir.Val.{bool_byte}
use mathlib.Core.Path.{◌≡◌, refl, sym, ◌∙◌}
use mathlib.Core.Logic.{inl, inr, ⊎_elim, by_cases}
use mathlib.Core.Bool.{Bool, true, false}
use mathlib.Core.List.{List}
use native.Mathlib.Decide.{ℕ_discrete, dec_lt}
use native.Mathlib.Omega.{arith}
use lib.ListN.{length, set, length-set, replicate, length-replicate, get_or, get_or-eq_default}
use lib.Seq.{get_or-set_same, get_or-set_other}
use Rattle.std.specs.Prelude.{Option, None, unwrap_or}
use Rattle.paper.specs.Limits.{Limits, at}
use Rattle.paper.specs.Told.{Tells}
use Rattle.paper.proofs.TellsLaws.{tells_yes, tells_no, true_not_false}
use Rattle.table.specs.Rules.{Rule, RulesOf, Reach, left_sort, right_sort, Final}
use Rattle.receiver.specs.Receiver.{TwoReached}
use Rattle.receiver.specs.Numbers.{OneOf, Ends, numbers_each}
use Rattle.factorized.specs.Work.{Stands, Flagged, Closed, Reached, StandsFlagged, Single, none, one, Two, FinalFlagged, IsBit}
use Rattle.factorized.specs.Work.{NumbersAt, Numbered, Listed, AllNumbered}

-- so many flags are there, that of p alone set
pub flags_long : (n p : ℕ) → length {A = Bool} (set (replicate n false) p true) ≡ n
flags_long n p = length-set (replicate n false) p true ∙ length-replicate {A = Bool} n false

none_flagged : (n q : ℕ) → get_or (replicate n false) q false ≡ false
none_flagged zero q = refl
none_flagged (suc n) zero = refl
none_flagged (suc n) (suc q) = none_flagged n q

-- what is flagged once the ε steps from p alone are closed
pub reached_of : {R : Rule → Type 0} (n p : ℕ) (fs : List Bool) → p < n → Closed R (set (replicate n false) p true) fs
    → Reached R p fs
reached_of {R} n p fs h c = record { exact = λ q. (λ f. from q ((c.exact q).0 f), λ r. (c.exact q).1 (p, mine, r)) }
  where
    long : length {A = Bool} (replicate n false) ≡ n
    long = length-replicate {A = Bool} n false

    mine : Flagged (set (replicate n false) p true) p
    mine = get_or-set_same (replicate n false) p true false (omega (arith, long))

    from : (q : ℕ) → (o : ℕ) × Flagged (set (replicate n false) p true) o × Reach R o q → Reach R p q
    from q (o, f, r) = by_cases (ℕ_discrete o p)
        (λ e. rw e at r)
        (λ d. absurd (true_not_false (sym f ∙ get_or-set_other (replicate n false) p o true false d ∙ none_flagged n o)))

-- a state that may stand on a side, and a final one, is in the table
module _ (ms : List ℕ) (q : ℕ) where
  stands_below : (s : ℕ) → 1 ≤ s → Stands ms s q → q < length ms
  stands_below s h x = by_cases (dec_lt q (length ms))
      (λ l. l)
      (λ l.
      let z = get_or-eq_default ms 0 {n = q} (omega arith) in
      ⊎_elim (λ e. absurd (omega arith)) (λ e. absurd (omega arith)) x)

  final_below : Final ms q → q < length ms
  final_below x = by_cases (dec_lt q (length ms))
      (λ l. l)
      (λ l. let z = get_or-eq_default ms 0 {n = q} (omega arith) in absurd (omega arith))

-- three numbers stored from a on
abbrev stored : List ℕ → ℕ → ℕ → ℕ → ℕ → List ℕ
stored ns a l r e = set (set (set ns a l) (a + 1) r) (a + 2) e

module _ (ns : List ℕ) (a l r e : ℕ) (room : a + numbers_each ≤ length ns) where
  first_long : length (set ns a l) ≡ length ns
  first_long = length-set ns a l

  second_long : length (set (set ns a l) (a + 1) r) ≡ length ns
  second_long = length-set (set ns a l) (a + 1) r ∙ first_long

  stored_long : length (stored ns a l r e) ≡ length ns
  stored_long = length-set (set (set ns a l) (a + 1) r) (a + 2) e ∙ second_long

  stored_first : at (stored ns a l r e) (a + 0) ≡ l
  stored_first =
      let z : a + 0 ≡ a = omega arith in
      rw z (get_or-set_other (set (set ns a l) (a + 1) r) (a + 2) a e 0 (λ z. omega arith)
      ∙ get_or-set_other (set ns a l) (a + 1) a r 0 (λ z. omega arith)
      ∙ get_or-set_same ns a l 0 (omega arith))

  stored_second : at (stored ns a l r e) (a + 1) ≡ r
  stored_second =
      get_or-set_other (set (set ns a l) (a + 1) r) (a + 2) (a + 1) e 0 (λ z. omega arith)
      ∙ get_or-set_same (set ns a l) (a + 1) r 0 (omega (arith, first_long))

  stored_third : at (stored ns a l r e) (a + 2) ≡ e
  stored_third = get_or-set_same (set (set ns a l) (a + 1) r) (a + 2) e 0 (omega (arith, second_long))

  stored_earlier : (i : ℕ) → i < a → at (stored ns a l r e) i ≡ at ns i
  stored_earlier i h =
      get_or-set_other (set (set ns a l) (a + 1) r) (a + 2) i e 0 (λ z. omega arith)
      ∙ get_or-set_other (set ns a l) (a + 1) i r 0 (λ z. omega arith)
      ∙ get_or-set_other ns a i l 0 (λ z. omega arith)

-- state p, where exactly what it reaches is flagged
module _ (L : Limits) (ms xs : List ℕ) (p : ℕ) (fs : List Bool) (reached : Reached (RulesOf L.width xs) p fs) where
  one_of : {found : Option ℕ} (s : ℕ) → 1 ≤ s → Single (StandsFlagged ms fs s) (length ms) found
      → OneOf (RulesOf L.width xs) (length ms) (Stands ms s) p (unwrap_or found (length ms))
  one_of s h (none d) = inr (refl, λ q r x. d q (stands_below ms q s h x) ((reached.exact q).1 r, x))
  one_of s h (one {l} i x d) = inl ((reached.exact l).0 x.0, x.1)

  not_two : {found : Option ℕ} (s : ℕ) → 1 ≤ s → Single (StandsFlagged ms fs s) (length ms) found → ¬ TwoReached L xs (Stands ms s) p
  not_two s h (none d) (q, r, n, (x, (y, (a, b)))) = d q (stands_below ms q s h x) ((reached.exact q).1 a, x)
  not_two s h (one i z d) (q, r, n, (x, (y, (a, b)))) =
      n (d q (stands_below ms q s h x) ((reached.exact q).1 a, x) ∙ sym (d r (stands_below ms r s h y) ((reached.exact r).1 b, y)))

  two_reached : (s : ℕ) → Two (StandsFlagged ms fs s) → TwoReached L xs (Stands ms s) p
  two_reached s (q, r, n, x, y) = (q, r, n, (x.1, (y.1, ((reached.exact q).0 x.0, (reached.exact r).0 y.0))))

  -- a test of it as a number, 1 or 0
  ends_of : {e : Bool} → Tells e (FinalFlagged ms fs) → IsBit (Ends (RulesOf L.width xs) ms p) (bool_byte e)
  ends_of {e = true} t = record {
    most = omega arith;
    says = (λ _. let (q, h, f, i) = t.yes refl in record { state = q; reached = (reached.exact q).0 f; final = i }, λ _. refl);
  }
  ends_of {e = false} t = record {
    most = omega arith;
    says = (
      (λ e. absurd (omega arith)),
      λ x. absurd (t.no refl (x.state, final_below ms x.state x.final, (reached.exact x.state).1 x.reached, x.final)),
    );
  }

  module _ (ns : List ℕ) where
    pub split_left : Two (StandsFlagged ms fs left_sort) → Numbered L ms xs p ns true ns
    split_left two = record {
      tells = tells_yes (inl (two_reached left_sort two));
      long = refl;
      earlier = λ i h. refl;
      numbers = λ t. cc;
    }

    pub split_right : Two (StandsFlagged ms fs right_sort) → Numbered L ms xs p ns true ns
    split_right two = record {
      tells = tells_yes (inr (two_reached right_sort two));
      long = refl;
      earlier = λ i h. refl;
      numbers = λ t. cc;
    }

    -- neither side has two: the numbers are stored
    pub numbered : {l r : Option ℕ} {e : Bool} → Single (StandsFlagged ms fs left_sort) (length ms) l
        → Single (StandsFlagged ms fs right_sort) (length ms) r → Tells e (FinalFlagged ms fs) → numbers_each * p + numbers_each ≤ length ns
        → Numbered L ms xs p ns false (stored ns (numbers_each * p) (unwrap_or l (length ms)) (unwrap_or r (length ms)) (bool_byte e))
    numbered left right ends room = record {
      tells = tells_no (⊎_elim (not_two left_sort (omega arith) left) (not_two right_sort (omega arith) right));
      long = stored_long ns (numbers_each * p) _ _ _ room;
      earlier = stored_earlier ns (numbers_each * p) _ _ _ room;
      numbers = λ _. record {
        left = rw (stored_first ns (numbers_each * p) _ _ _ room) (one_of left_sort (omega arith) left);
        right = rw (stored_second ns (numbers_each * p) _ _ _ room) (one_of right_sort (omega arith) right);
        ends = rw (stored_third ns (numbers_each * p) _ _ _ room) (ends_of ends);
      };
    }

module _ (L : Limits) (ms xs : List ℕ) where
  -- the numbers of a state are known by the three numbers
  pub numbers_same : (p : ℕ) (ns os : List ℕ) → ((k : ℕ) → k < numbers_each → at os (numbers_each * p + k) ≡ at ns (numbers_each * p + k))
      → NumbersAt L ms xs ns p → NumbersAt L ms xs os p
  numbers_same p ns os e n = record {
    left = rw (e 0 (omega arith)) n.left;
    right = rw (e 1 (omega arith)) n.right;
    ends = rw (e 2 (omega arith)) n.ends;
  }

  pub listed_more : {p : ℕ} {ns os : List ℕ} {b : Bool} → Listed L ms xs p ns → Numbered L ms xs p ns b os → b ≡ false → Listed L ms xs (p + 1) os
  listed_more {p} {ns} {os} x y t = record {
    long = y.long ∙ x.long;
    numbers = λ q h. by_cases (ℕ_discrete q p)
        (λ e. rw e (y.numbers t))
        (λ d. numbers_same q ns os (λ k l. y.earlier (numbers_each * q + k) (omega arith)) (x.numbers q (omega arith)));
    single = λ q h. by_cases (ℕ_discrete q p) (λ e. rw e (y.tells.no t)) (λ d. x.single q (omega arith));
  }

  pub all_numbered : {p : ℕ} {ns : List ℕ} → p ≡ length ms + 1 → Listed L ms xs p ns → AllNumbered L ms xs None ns
  all_numbered e x = record {
    first = λ p h. x.single p (omega arith);
    long = x.long;
    numbers = λ _. record {
      lefts = λ p h. (x.numbers p (omega arith)).left;
      rights = λ p h. (x.numbers p (omega arith)).right;
      ends = λ p h. (x.numbers p (omega arith)).ends.says;
      bits = λ p h. (x.numbers p (omega arith)).ends.most;
    };
  }
