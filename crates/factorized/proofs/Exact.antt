-- The check of a receiver's table refuses and passes exactly what its definitions say, and its answer and the numbers that it hands out are
-- the only ones. Assumes nothing.
use Prim.Native.Nat.{ℕ, ◌+◌, ◌-◌, ◌*◌, ◌/◌, ◌%◌, ◌≤◌, ◌<◌}
use mathlib.Core.Path.{◌≡◌, refl, sym, ap, ◌∙◌}
use mathlib.Core.Logic.{◌↔◌, inl, inr, by_cases}
use mathlib.Core.List.{List}
use native.Mathlib.Decide.{ℕ_discrete, dec_lt, dec_le}
use native.Mathlib.Omega.{arith}
use lib.ListN.{length, drop}
use lib.Seq.{get_or-drop, ext_get_or}
use Rattle.paper.specs.Limits.{Limits, at}
use Rattle.paper.specs.Told.{Told, refused, passes, is_refusal, Checked, check_told}
use Rattle.paper.specs.First.{FirstWrong, NoneWrong}
use Rattle.paper.proofs.ToldLaws.{refused_not_passes, refused_as, check_unique}
use Rattle.table.specs.Rules.{RulesOf}
use Rattle.table.specs.Check.{TableRefused, Sound}
use Rattle.table.proofs.Exact.{refused_exactly, passes_exactly}
use Rattle.receiver.specs.Receiver.{MayLeft, MayRight, TwoReached, NotSingle, Receives}
use Rattle.receiver.specs.Numbers.{OneOf, NumbersOf, number, numbers_each, numbers_size}
use Rattle.receiver.specs.Check.{ReceiverRefused, of_table_of, left_side, sorts, reaches, ReceiverChecked, is_refused, is_passed}
use Rattle.factorized.specs.Factored.{Factored}
use Rattle.factorized.proofs.RangeLaws.{in_range_lem}
use Rattle.factorized.proofs.CheckLaws.{sink_single}

-- there is one first thing that is wrong, and none where nothing is
first_unique : {W : ℕ → Type 0} {n i j : ℕ} → FirstWrong W n i → FirstWrong W n j → i ≡ j
first_unique {i = i} {j = j} x y = by_cases (dec_lt i j)
    (λ h. absurd (y.before i h x.wrong))
    (λ h. by_cases (dec_lt j i) (λ l. absurd (x.before j l y.wrong)) (λ l. omega arith))

not_none : {W : ℕ → Type 0} {n i : ℕ} → FirstWrong W n i → NoneWrong W n → ⊥
not_none {i = i} x c = c i x.inside x.wrong

at_place : (n : ℕ) {i j : ℕ} → i ≡ j → refused n 0 (i + 1) ≡ refused n 0 (j + 1)
at_place n e = ap (λ (k : ℕ). refused n 0 (k + 1)) e

module _ (L : Limits) (symbols : ℕ) (ms xs : List ℕ) where
  table_unique : {n s p n' s' p' : ℕ} → TableRefused L symbols ms xs n s p → TableRefused L symbols ms xs n' s' p'
      → refused n s p ≡ refused n' s' p'
  table_unique x y = sym ((refused_exactly L symbols ms xs _ _ _).1 x) ∙ (refused_exactly L symbols ms xs _ _ _).1 y

  table_sound : {n s p : ℕ} → TableRefused L symbols ms xs n s p → Sound L symbols ms xs → ⊥
  table_sound x s = refused_not_passes (sym ((refused_exactly L symbols ms xs _ _ _).1 x) ∙ (passes_exactly L symbols ms xs).1 s)

  refused_unique : {n s p n' s' p' : ℕ} → ReceiverRefused L symbols ms xs n s p → ReceiverRefused L symbols ms xs n' s' p'
      → refused n s p ≡ refused n' s' p'
  refused_unique (of_table_of x) (of_table_of y) = table_unique x y
  refused_unique (of_table_of x) (left_side s _) = absurd (table_sound x s)
  refused_unique (of_table_of x) (sorts s _ _) = absurd (table_sound x s)
  refused_unique (of_table_of x) (reaches s _ _ _) = absurd (table_sound x s)
  refused_unique (left_side s _) (of_table_of y) = absurd (table_sound y s)
  refused_unique (left_side _ f) (left_side _ g) = at_place 7 (first_unique f g)
  refused_unique (left_side _ f) (sorts _ c _) = absurd (not_none f c)
  refused_unique (left_side _ f) (reaches _ c _ _) = absurd (not_none f c)
  refused_unique (sorts s _ _) (of_table_of y) = absurd (table_sound y s)
  refused_unique (sorts _ c _) (left_side _ g) = absurd (not_none g c)
  refused_unique (sorts _ _ f) (sorts _ _ g) = at_place 8 (first_unique f g)
  refused_unique (sorts _ _ f) (reaches _ _ c _) = absurd (not_none f c)
  refused_unique (reaches s _ _ _) (of_table_of y) = absurd (table_sound y s)
  refused_unique (reaches _ c _ _) (left_side _ g) = absurd (not_none g c)
  refused_unique (reaches _ _ c _) (sorts _ _ g) = absurd (not_none g c)
  refused_unique (reaches _ _ _ f) (reaches _ _ _ g) = at_place 9 (first_unique f g)

  -- a table that is refused has a fault
  refused_faulty : {n s p : ℕ} → ReceiverRefused L symbols ms xs n s p → Sound L symbols ms xs → Receives L ms xs → ⊥
  refused_faulty (of_table_of x) s r = table_sound x s
  refused_faulty (left_side _ f) s r = not_none f r.left_sides_of
  refused_faulty (sorts _ _ f) s r = not_none f r.sorts
  refused_faulty (reaches _ _ _ f) s r = not_none f r.single

  -- a table is answered in one way
  pub receiver_unique : (t u : Told) → ReceiverChecked L symbols ms xs t → ReceiverChecked L symbols ms xs u → t ≡ u
  receiver_unique t u (is_refused x) (is_refused y) = refused_unique x y
  receiver_unique t u (is_refused x) (is_passed s r) = absurd (refused_faulty x s r)
  receiver_unique t u (is_passed s r) (is_refused y) = absurd (refused_faulty y s r)
  receiver_unique t u (is_passed _ _) (is_passed _ _) = refl

  -- two answers that the contract of `check` allows are equal
  pub check_answer_unique : (a b : Checked) → ReceiverChecked L symbols ms xs (check_told a) → ReceiverChecked L symbols ms xs (check_told b) → a ≡ b
  check_answer_unique a b x y = check_unique (check_told b) a b (receiver_unique (check_told a) (check_told b) x y) refl

  -- a refusal is told exactly if its row of the paper says so
  pub receiver_refused_exactly : (t : Told) → ReceiverChecked L symbols ms xs t → (n s p : ℕ)
      → (t ≡ refused n s p) ↔ ReceiverRefused L symbols ms xs n s p
  receiver_refused_exactly t c n s p = (to t c, λ r. receiver_unique t (refused n s p) c (is_refused r))
    where
      to : (t : Told) → ReceiverChecked L symbols ms xs t → t ≡ refused n s p → ReceiverRefused L symbols ms xs n s p
      to t (is_refused r) e = refused_as (ReceiverRefused L symbols ms xs) e r
      to t (is_passed _ _) e = absurd (refused_not_passes (sym e))

  -- a table passes exactly if it has no fault and is a receiver
  pub receiver_passes_exactly : (t : Told) → ReceiverChecked L symbols ms xs t → (t ≡ passes) ↔ (Sound L symbols ms xs × Receives L ms xs)
  receiver_passes_exactly t c = (to t c, λ x. receiver_unique t passes c (is_passed x.0 x.1))
    where
      to : (t : Told) → ReceiverChecked L symbols ms xs t → t ≡ passes → Sound L symbols ms xs × Receives L ms xs
      to t (is_refused r) e = absurd (refused_not_passes e)
      to t (is_passed s r) e = (s, r)

module _ (L : Limits) (ms xs : List ℕ) where
  -- the one state with P that p reaches is one
  one_unique : (P : ℕ → Type 0) (p l m : ℕ) → ¬ TwoReached L xs P p
      → OneOf (RulesOf L.width xs) (length ms) P p l → OneOf (RulesOf L.width xs) (length ms) P p m → l ≡ m
  one_unique P p l m d (inl x) (inl y) = by_cases (ℕ_discrete l m)
      (λ e. e)
      (λ n. absurd (d (l, m, n, (x.1, (y.1, (x.0, y.0))))))
  one_unique P p l m d (inl x) (inr y) = absurd (y.1 l x.0 x.1)
  one_unique P p l m d (inr x) (inl y) = absurd (x.1 m y.0 y.1)
  one_unique P p l m d (inr x) (inr y) = x.0 ∙ sym y.0

  bit_unique : (A : Type 0) (a b : ℕ) → a ≤ 1 → b ≤ 1 → (a ≡ 1 ↔ A) → (b ≡ 1 ↔ A) → a ≡ b
  bit_unique A a b h l x y = by_cases (ℕ_discrete a 1)
      (λ e. e ∙ sym (y.1 (x.0 e)))
      (λ d. by_cases (ℕ_discrete b 1) (λ e. absurd (d (x.1 (y.0 e)))) (λ n. omega arith))

  module _ (symbols : ℕ) (positive : 0 < L.width) (sound : Sound L symbols ms xs) (receives : Receives L ms xs) where
    single : (p : ℕ) → p ≤ length ms → ¬ NotSingle L ms xs p
    single p h = by_cases (ℕ_discrete p (length ms))
        (λ e. rw e (sink_single L ms xs positive (in_range_lem L positive sound)))
        (λ d. receives.single p (omega arith))

    -- the numbers of the states of a receiver, and of the sink, are the only ones
    pub numbers_unique : (ns os : List ℕ) → NumbersOf L ms xs ns → NumbersOf L ms xs os → (p k : ℕ) → p ≤ length ms → k < numbers_each
        → number ns p k ≡ number os p k
    numbers_unique ns os x y p k h l = by_cases (ℕ_discrete k 0)
        (λ e. rw e (one_unique (MayLeft ms) p _ _ (λ z. single p h (inl z)) (x.lefts p h) (y.lefts p h)))
        (λ d. by_cases (ℕ_discrete k 1)
        (λ e. rw e (one_unique (MayRight ms) p _ _ (λ z. single p h (inr z)) (x.rights p h) (y.rights p h)))
        (λ c.
        let e : k ≡ 2 = omega arith in
        rw e (bit_unique _ _ _ (x.bits p h) (y.bits p h) (x.ends p h) (y.ends p h))))

    -- so are the numbers at the front of the slice, counted from its front
    front_unique : (ns os : List ℕ) → NumbersOf L ms xs ns → NumbersOf L ms xs os → (i : ℕ) → i < numbers_size (length ms) → at ns i ≡ at os i
    front_unique ns os x y i h =
        let e : i ≡ numbers_each * (i / numbers_each) + i % numbers_each = omega arith in
        rw e (numbers_unique ns os x y (i / numbers_each) (i % numbers_each) (omega arith) (omega arith))

-- a list is known by its front and what stands behind it
split_unique : (n : ℕ) (os qs : List ℕ) → length os ≡ length qs → ((i : ℕ) → i < n → at os i ≡ at qs i) → drop n os ≡ drop n qs → os ≡ qs
split_unique n os qs e front rest = ext_get_or 0 os qs e (λ i h. by_cases (dec_lt i n)
    (λ l. front i l)
    (λ l.
    let z : n + (i - n) ≡ i = omega arith in
    rw (← z) (sym (get_or-drop n os (i - n) 0) ∙ ap (λ (vs : List ℕ). at vs (i - n)) rest ∙ get_or-drop n qs (i - n) 0)))

module _ (L : Limits) (symbols : ℕ) (ms xs os os' os'' : List ℕ) (positive : 0 < L.width) where
  slices_unique : {t : Told} → ReceiverChecked L symbols ms xs t → Factored L symbols ms xs os os' t → Factored L symbols ms xs os os'' t
      → os' ≡ os''
  unfolding is_refusal
  slices_unique (is_refused _) x y = x.refusal refl ∙ sym (y.refusal refl)
  slices_unique (is_passed s r) x y = by_cases (dec_le (numbers_size (length ms)) (length os))
      (λ h. split_unique (numbers_size (length ms)) os' os'' (x.size ∙ sym y.size)
      (front_unique L ms xs symbols positive s r os' os'' (x.numbers refl h) (y.numbers refl h)) (x.rest ∙ sym y.rest))
      (λ h. x.short (omega arith) ∙ sym (y.short (omega arith)))

  -- two results that the contract of `factor` allows are equal: what is told, and what the lent slice then holds
  pub factored_unique : (t u : Told) → Factored L symbols ms xs os os' t → Factored L symbols ms xs os os'' u → (t ≡ u) × (os' ≡ os'')
  factored_unique t u x y =
      let same = receiver_unique L symbols ms xs t u x.checked y.checked in
      (same, slices_unique x.checked x (rw (sym same) at y))

  -- two answers that the contract of `factor` allows are equal, and so are the slices
  pub factor_unique : (a b : Checked) → Factored L symbols ms xs os os' (check_told a) → Factored L symbols ms xs os os'' (check_told b)
      → (a ≡ b) × (os' ≡ os'')
  factor_unique a b x y =
      let e = factored_unique (check_told a) (check_told b) x y in (check_unique (check_told b) a b e.0 refl, e.1)
