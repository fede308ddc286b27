-- What building an index leaves is known: two slices that its contract allows are equal. Assumes nothing.
use Prim.Native.Nat.{ℕ, zero, suc, ◌+◌, ◌-◌, ◌/◌, ◌≤◌, ◌<◌}
use mathlib.Core.Path.{◌≡◌, sym, ap, ◌∙◌}
use mathlib.Core.Logic.{by_cases}
use mathlib.Core.List.{List}
use native.Mathlib.Decide.{dec_le, dec_lt}
use native.Mathlib.Numerals.{add-one}
use native.Mathlib.Omega.{arith}
use Rattle.std.specs.Prelude.{Option, Some}
use lib.ListN.{length, drop}
use lib.Seq.{get_or-drop, ext_get_or}
use Rattle.paper.specs.Limits.{at}
use Rattle.paper.specs.Tests.{dec_or}
use Rattle.joins.specs.Index.{Listed, Indexed, most_number, index_size, NoIndexRoom, Holds, Built}

no_room? : (rules n size : ℕ) → Dec (NoIndexRoom rules n size)
no_room? rules n size = dec_or (dec_lt size (index_size rules n)) (dec_lt most_number (index_size rules n))

-- two rising lists of the same join rules, from the same place on, have the same numbers at the same places
module _ {w : ℕ} {xs : List ℕ} {l n : ℕ} {is js : List ℕ} {a e f : ℕ} (x : Listed w xs l n is a e) (y : Listed w xs l n js a f) where
  -- place k is in the second list too, with the same number
  SameAt : ℕ → Type 0
  SameAt k = (k < f) × (at js k ≡ at is k)

  -- if all places before it are the same, so is place k
  same_at : (k : ℕ) → a ≤ k → k < e → ((j : ℕ) → a ≤ j → j < k → SameAt j) → SameAt k
  unfolding SameAt
  same_at k h u before =
      let (p, q) = x.only k h u in
      let (j, c, d, b) = y.all (at is k) p q in
      let j-late = late j c b in
      let (p', q') = y.only k h (omega arith) in
      let (i, c', d', b') = x.all (at js k) p' q' in
      let i-late = late' i (omega arith) c' b' in
      (omega arith, even j d b i d' b' j-late i-late)
    where
      -- the number of place k stands in the other list at k or later, and the other way round
      late : (j : ℕ) → a ≤ j → at js j ≡ at is k → k ≤ j
      late j c b = by_cases (dec_le k j) (λ z. z) (λ z.
          let s = (before j c (omega arith)).1 in let r = x.rising j k c (omega arith) u in absurd (omega arith))

      late' : (i : ℕ) → k < f → a ≤ i → at is i ≡ at js k → k ≤ i
      late' i m c b = by_cases (dec_le k i) (λ z. z) (λ z.
          let s = (before i c (omega arith)).1 in let r = y.rising i k c (omega arith) m in absurd (omega arith))

      even : (j : ℕ) → j < f → at js j ≡ at is k → (i : ℕ) → i < e → at is i ≡ at js k → k ≤ j → k ≤ i → at js k ≡ at is k
      even j d b i d' b' m m' = by_cases (dec_le j k)
          (λ z. let q : j ≡ k = omega arith in rw q at b)
          (λ z. by_cases (dec_le i k) (λ v. let q : i ≡ k = omega arith in sym (rw q at b'))
          (λ v. let r = y.rising k j h (omega arith) d in let s = x.rising k i h (omega arith) d' in absurd (omega arith)))

  same_below : (b k : ℕ) → k < b → a ≤ k → k < e → SameAt k
  same_below zero k z h u = absurd (omega arith)
  same_below (suc b) k z h u = same_at k h u (λ j p q. same_below b j (omega arith) p (omega arith))

  pub same_number : (k : ℕ) → a ≤ k → k < e → at js k ≡ at is k
  unfolding SameAt
  same_number k h u = (same_below (k + 1) k (omega arith) h u).1

  -- the second list is no shorter
  pub same_short : e ≤ f
  unfolding SameAt
  same_short = by_cases (dec_le e f) (λ z. z) (λ z.
      let o = y.ends in let m = (same_below (f + 1) f (omega arith) o (omega arith)).0 in absurd (omega arith))

module _ {w : ℕ} {xs : List ℕ} {n : ℕ} {is js : List ℕ} (x : Indexed w xs n is) (y : Indexed w xs n js) where
  -- the list of the left state l in the second index, told by where it begins in the first
  other : (l : ℕ) → l < n → at is l ≡ at js l → Listed w xs l (length xs / w) js (at is l) (at js (l + 1))
  other l h e = rw e (y.lists l h)

  -- the lists begin at the same places
  pub same_begins : (l : ℕ) → l ≤ n → at is l ≡ at js l
  same_begins zero h = x.first ∙ sym y.first
  same_begins (suc l) h =
      let z = other l (omega arith) (same_begins l (omega arith)) in
      let a = same_short (x.lists l (omega arith)) z in
      let b = same_short z (x.lists l (omega arith)) in
      let c : at is (l + 1) ≡ at js (l + 1) = omega arith in
      rw add-one at c

  -- every place of the first m lists is in one of them
  same_lists : (m : ℕ) → m ≤ n → (k : ℕ) → n + 1 ≤ k → k < at is m → at is k ≡ at js k
  same_lists zero h k u v = absurd (omega (arith, x.first))
  same_lists (suc m) h k u v = by_cases (dec_lt k (at is m)) (λ z. same_lists m (omega arith) k u z)
      (λ z.
      let c : k < at is (m + 1) = rw add-one v in
      sym (same_number (x.lists m (omega arith)) (other m (omega arith) (same_begins m (omega arith))) k (omega arith) c))

  pub same_index : (k : ℕ) → k < at is n → at is k ≡ at js k
  same_index k h = by_cases (dec_le k n) (λ z. same_begins k z) (λ z. same_lists n (omega arith) k (omega arith) h)

-- two lists with the same rest from place r on
rest_same : (is o : List ℕ) (r k : ℕ) → drop r is ≡ drop r o → r ≤ k → at is k ≡ at o k
rest_same is o r k e h =
    let i = k - r in
    let q : k ≡ r + i = omega arith in
    rw q (sym (get_or-drop r is i 0) ∙ ap (λ (s : List ℕ). at s i) e ∙ get_or-drop r o i 0)

-- the index is told by its rules and its states, and the rest of the slice by what it was
module _ {w : ℕ} {xs : List ℕ} {n : ℕ} {o : List ℕ} {r s : ℕ} {is js : List ℕ} where
  pub index_unique : Holds w xs n o r is → Holds w xs n o s js → (r ≡ s) × (is ≡ js)
  index_unique x y = (count, ext_get_or 0 is js (x.size ∙ sym y.size) each)
    where
      count : r ≡ s
      count = x.counts ∙ same_begins x.indexed y.indexed n (omega arith) ∙ sym y.counts

      each : (k : ℕ) → k < length is → at is k ≡ at js k
      each k h = by_cases (dec_lt k r)
          (λ z. same_index x.indexed y.indexed k (omega (arith, x.counts)))
          (λ z. rest_same is o r k x.rest (omega arith) ∙ sym (rest_same js o s k y.rest (omega (arith, count))))

pub build_unique : {w : ℕ} {xs : List ℕ} {n : ℕ} {o : List ℕ} {r s : Option ℕ} {is js : List ℕ}
    → Built w xs n o r is → Built w xs n o s js → (r ≡ s) × (is ≡ js)
build_unique {w} {xs} {n} {o} x y = by_cases (no_room? (length xs / w) n (length o))
    (λ h. ((x.without h).0 ∙ sym (y.without h).0, (x.without h).1 ∙ sym (y.without h).1))
    (λ d.
    let (k, p, a) = x.with d in
    let (m, q, b) = y.with d in
    let (e, f) = index_unique a b in
    (p ∙ ap Some e ∙ sym q, f))
