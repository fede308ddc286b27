-- How many rules are join rules with given left states: one rule more, one left state more, and that all together are no more than the
-- rules. Assumes nothing.
use Prim.Native.Nat.{ℕ, zero, suc, ◌+◌, ◌≤◌, ◌<◌}
use mathlib.Core.Path.{◌≡◌, refl, ap}
use mathlib.Core.Logic.{if_pos, if_neg, by_cases}
use mathlib.Core.List.{List}
use native.Mathlib.Decide.{dec_le}
use native.Mathlib.Numerals.{add-one}
use native.Mathlib.Omega.{arith}
use Rattle.joins.specs.Index.{JoinAt}
use Rattle.joins.specs.Work.{join_at?, own}

-- how many of the first n rules are join rules with a left state below l
unfoldable pub earlier : ℕ → List ℕ → ℕ → ℕ → ℕ
earlier w xs zero n = 0
earlier w xs (suc l) n = earlier w xs l n + own w xs l n

module _ (w : ℕ) (xs : List ℕ) where
  own_put : (l n : ℕ) → JoinAt w xs n l → own w xs l (suc n) ≡ own w xs l n + 1
  unfolding own
  own_put l n j = ap (λ (k : ℕ). own w xs l n + k) (if_pos (join_at? w xs n l) j 1 0)

  own_skip : (l n : ℕ) → ¬ JoinAt w xs n l → own w xs l (suc n) ≡ own w xs l n
  unfolding own
  own_skip l n d = let z = if_neg {C = ℕ} (join_at? w xs n l) d 1 0 in omega arith

  pub own_none : (l : ℕ) → own w xs l 0 ≡ 0
  unfolding own
  own_none l = refl

  pub own_here : (l n : ℕ) → JoinAt w xs n l → own w xs l (n + 1) ≡ own w xs l n + 1
  own_here l n j = rw (add-one n) (own_put l n j)

  pub own_other : (l n : ℕ) → ¬ JoinAt w xs n l → own w xs l (n + 1) ≡ own w xs l n
  own_other l n d = rw (add-one n) (own_skip l n d)

  own_less : (l n : ℕ) → own w xs l n ≤ own w xs l (suc n)
  own_less l n =
      by_cases (join_at? w xs n l) (λ j. omega (arith, own_put l n j)) (λ d. omega (arith, own_skip l n d))

  pub own_rises : (l m n : ℕ) → m ≤ n → own w xs l m ≤ own w xs l n
  own_rises l m zero h = let e : m ≡ 0 = omega arith in rw e (omega arith)
  own_rises l m (suc n) h = by_cases (dec_le m n)
      (λ k. omega (arith, own_rises l m n k, own_less l n))
      (λ k. let e : m ≡ suc n = omega arith in rw e (omega arith))

  pub earlier_none : (n : ℕ) → earlier w xs 0 n ≡ 0
  unfolding earlier
  earlier_none n = refl

  pub earlier_more : (l n : ℕ) → earlier w xs (l + 1) n ≡ earlier w xs l n + own w xs l n
  unfolding earlier
  earlier_more l n = rw add-one refl

  -- one rule has one left state
  one_left : (n l j : ℕ) → j < l → JoinAt w xs n l → ¬ JoinAt w xs n j
  one_left n l j h x y = omega (arith, x.left, y.left)

  earlier_skip : (l n : ℕ) → ((j : ℕ) → j < l → ¬ JoinAt w xs n j) → earlier w xs l (suc n) ≡ earlier w xs l n
  unfolding earlier
  earlier_skip zero n d = refl
  earlier_skip (suc l) n d =
      let a = earlier_skip l n (λ j h. d j (omega arith)) in let b = own_skip l n (d l (omega arith)) in omega arith

  earlier_step : (l n : ℕ) → earlier w xs l (suc n) ≤ earlier w xs l n + 1
  unfolding earlier
  earlier_step zero n = omega arith
  earlier_step (suc l) n = by_cases (join_at? w xs n l)
      (λ x. let a = earlier_skip l n (λ j h. one_left n l j h x) in let b = own_put l n x in omega arith)
      (λ d. let a = earlier_step l n in let b = own_skip l n d in omega arith)

  earlier_zero : (l : ℕ) → earlier w xs l 0 ≡ 0
  unfolding earlier
  earlier_zero zero = refl
  earlier_zero (suc l) = let a = earlier_zero l in let b = own_none l in omega arith

  pub earlier_within : (l n : ℕ) → earlier w xs l n ≤ n
  earlier_within l zero = let a = earlier_zero l in omega arith
  earlier_within l (suc n) = let a = earlier_within l n in let b = earlier_step l n in omega arith
