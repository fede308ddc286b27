-- The numbers of a line that was written are read, and what was read of a line is written as that line.
use Prim.Native.Nat.{ℕ, zero, suc, ◌+◌, ◌/◌, ◌%◌, ◌≤◌}
use mathlib.Core.Path.{◌≡◌, refl, ap, sym, ◌∙◌}
use mathlib.Core.List.{List, [], ◌∷◌, ◌++◌, append_assoc}
use mathlib.Core.Bool.{cond}
use native.Mathlib.Omega.{arith}
use lib.Dec.{ltb, eqb}
use lib.ListN.{length, get_or, drop, length-drop, length-append, drop_of_length-le}
use borrow.Author.Tests.{eq-eqb, ne_eqb, eqb-true}
use Rattle.lines.specs.Number.{most_number, digit, digits, decimal}
use Rattle.lines.specs.Lines.{tab, lf, lines}
use Rattle.lines.specs.Fields.{field, ends, fields, entry, last, letters}
use Rattle.lines.specs.Number.{Number}
use Rattle.std.specs.Prelude.{Ok, Err}
use Rattle.lines.specs.Fields.{Fields}
use Rattle.lines.proofs.Tests.{split}
use Rattle.lines.proofs.NumberLaws.{read_written, number_shown, not_both}
use Rattle.lines.proofs.LinesLaws.{NoLF, nolf_append, lines_front}
use Rattle.lines.proofs.Places.{here, beyond, within, from}

not_got : {i a b c : ℕ} → ◌≡◌ {A = Fields} (Err i) (Ok (a, b, c)) → ⊥
not_got e = let z : ◌≡◌ {A = ℕ} 0 1 = cc in omega arith

-- the numbers of a line are known one by one
same_numbers : {a b c a' b' c' : ℕ} → ◌≡◌ {A = Fields} (Ok (a, b, c)) (Ok (a', b', c')) → (a ≡ a') × (b ≡ b') × (c ≡ c')
same_numbers {a} {b} {c} {a'} {b'} {c'} e =
    let p : ◌≡◌ {A = ℕ × ℕ × ℕ} (a, b, c) (a', b', c') = cc in
    (ap (λ (x : ℕ × ℕ × ℕ). x.0) p, ap (λ (x : ℕ × ℕ × ℕ). x.1) p, ap (λ (x : ℕ × ℕ × ℕ). x.2) p)

-- a field, both ways
module _ (x : List ℕ) (i : ℕ) where
  pub field_read : (a : ℕ) {b : ℕ} {l : List ℕ} → a ≤ most_number → 10 ≤ digit b → drop i x ≡ entry a ++ (b ∷ l) →
      (field x i ≡ Ok (a, (i + length (entry a)))) × (drop (i + length (entry a)) x ≡ b ∷ l)
  unfolding field entry
  field_read a {b} {l} h g e =
      let m = here x i e in (
        rw (m.0, m.1, read_written a (i + 1) b l h g) (ap (λ j. Ok (a, j)) (omega arith)),
        beyond x i (tab ∷ decimal a) e,
      )

  pub field_shown : {a j : ℕ} → field x i ≡ Ok (a, j) → (a ≤ most_number) × (drop i x ≡ entry a ++ drop j x)
  unfolding field entry
  field_shown {a} {j} e =
      split (eqb (get_or x i 0) tab)
      (λ t.
      let n = eqb-true _ _ t in
      let m = number_shown x (i + 1) a j (rw t at e) in
      (m.1, from x i (within x i (omega arith)) ∙ ap (λ y. y ∷ drop (i + 1) x) n ∙ ap (λ y. tab ∷ y) m.2))
      (λ t. absurd (not_both (rw t at e)))

  pub ends_read : (f : Fields) → drop i x ≡ lf ∷ [] → ends x i f ≡ f
  unfolding ends
  ends_read f e =
      let m = here x i e in
      let n : length x ≡ i + 1 = omega (arith, length-drop i x, ap length e) in
      rw (m.0, eq-eqb (length x) (i + 1) n)

  pub ends_shown : {f : Fields} {a b c : ℕ} → ends x i f ≡ Ok (a, b, c) → (f ≡ Ok (a, b, c)) × (drop i x ≡ lf ∷ [])
  unfolding ends
  ends_shown {f} {a} {b} {c} e =
      split (eqb (get_or x i 0) lf)
      (λ t. split (eqb (length x) (i + 1))
      (λ u.
      let n = eqb-true _ _ t in
      let k = eqb-true (length x) (i + 1) u in (
        rw (t, u) at e,
        from x i (within x i (omega arith)) ∙ ap (λ y. y ∷ drop (i + 1) x) n ∙ ap (λ y. lf ∷ y) (drop_of_length-le x {i = i + 1} (omega arith)),
      ))
      (λ u. absurd (not_got (rw (t, u) at e))))
      (λ t. absurd (not_got (rw t at e)))

pub tab_ends : 10 ≤ digit tab
unfolding digit
tab_ends = omega arith

lf_ends : 10 ≤ digit lf
unfolding digit
lf_ends = omega arith

pub fields_read : (n a b c : ℕ) (x : List ℕ) → a ≤ most_number → b ≤ most_number → c ≤ most_number →
    drop 1 x ≡ entry a ++ (entry b ++ last n c) → fields n x ≡ cond (eqb n 3) (Ok (a, b, c)) (Ok (a, b, 0))
unfolding fields entry last
fields_read n a b c x ha hb hc e =
    split (eqb n 3)
    (λ t.
    let m₁ = field_read x 1 a ha tab_ends e in
    let m₂ = field_read x (1 + length (entry a)) b hb tab_ends (m₁.1 ∙ ap (λ y. entry b ++ y) (rw t)) in
    let m₃ = field_read x (1 + length (entry a) + length (entry b)) c hc lf_ends m₂.1 in
    rw (m₁.0, m₂.0, t, m₃.0, ends_read x (1 + length (entry a) + length (entry b) + length (entry c)) (Ok (a, b, c)) m₃.1))
    (λ t.
    let m₁ = field_read x 1 a ha tab_ends e in
    let m₂ = field_read x (1 + length (entry a)) b hb lf_ends (m₁.1 ∙ ap (λ y. entry b ++ y) (rw t)) in
    rw (m₁.0, m₂.0, t, ends_read x (1 + length (entry a) + length (entry b)) (Ok (a, b, 0)) m₂.1))

pub numbers : (v : Number) {P : Type 0} → ((a i : ℕ) → v ≡ Ok (a, i) → P) → ((i : ℕ) → v ≡ Err i → P) → P
numbers (Ok (a, i)) f g = f a i refl
numbers (Err i) f g = g i refl

-- numbers in range that make the line
abbrev Behind : ℕ → List ℕ → ℕ → ℕ → ℕ → Type 0
Behind n x a b c =
    (a ≤ most_number) × (b ≤ most_number) × (c ≤ most_number) × ((n ≡ 3 → ⊥) → c ≡ 0) × (drop 1 x ≡ entry a ++ (entry b ++ last n c))

fields_shown : (n a b c : ℕ) (x : List ℕ) → fields n x ≡ Ok (a, b, c) → Behind n x a b c
unfolding fields last
fields_shown n a b c x e =
    numbers (field x 1)
    (λ a' i p. numbers (field x i)
    (λ b' j q. split (eqb n 3)
    (λ t. numbers (field x j)
    (λ c' k r.
    let m = ends_shown x k (rw (p, q, t, r) at e) in
    let f = same_numbers m.0 in
    let ea : a' ≡ a = f.0 in
    let eb : b' ≡ b = f.1 in
    let ec : c' ≡ c = f.2 in
    let u = field_shown x 1 p in
    let v = field_shown x i q in
    let w = field_shown x j r in (
      omega (arith, u.0),
      omega (arith, v.0),
      omega (arith, w.0),
      (λ h. absurd (h (eqb-true n 3 t))),
      u.1 ∙ rw (t, v.1, w.1, m.1, ea, eb, ec),
    ))
    (λ k r. absurd (not_got (rw (p, q, t, r) at e))))
    (λ t.
    let m = ends_shown x j (rw (p, q, t) at e) in
    let f = same_numbers m.0 in
    let ea : a' ≡ a = f.0 in
    let eb : b' ≡ b = f.1 in
    let ec : 0 ≡ c = f.2 in
    let u = field_shown x 1 p in
    let v = field_shown x i q in
    (omega (arith, u.0), omega (arith, v.0), omega arith, (λ h. sym ec), u.1 ∙ rw (t, v.1, m.1, ea, eb))))
    (λ j q. absurd (not_got (rw (p, q) at e))))
    (λ i p. absurd (not_got (rw p at e)))

entry_not_end : (a : ℕ) (l : List ℕ) → [] ≡ entry a ++ l → ⊥
unfolding entry
entry_not_end a l e = omega (arith, ap length e)

letters_first : (n a b c : ℕ) (x : List ℕ) → drop 1 x ≡ entry a ++ (entry b ++ last n c) → x ≡ letters (get_or x 0 0) n a b c
unfolding letters
letters_first n a b c [] e = absurd (entry_not_end a _ e)
letters_first n a b c (t ∷ x) e = ap (λ y. t ∷ y) e

-- both ways, for a whole line
pub letters_read : (t n a b c : ℕ) → a ≤ most_number → b ≤ most_number → c ≤ most_number →
    fields n (letters t n a b c) ≡ cond (eqb n 3) (Ok (a, b, c)) (Ok (a, b, 0))
unfolding letters
letters_read t n a b c ha hb hc = fields_read n a b c (letters t n a b c) ha hb hc refl

pub letters_three : (t a b c : ℕ) → a ≤ most_number → b ≤ most_number → c ≤ most_number → fields 3 (letters t 3 a b c) ≡ Ok (a, b, c)
letters_three t a b c ha hb hc = letters_read t 3 a b c ha hb hc

pub letters_two : (t a b c : ℕ) → a ≤ most_number → b ≤ most_number → c ≤ most_number → fields 2 (letters t 2 a b c) ≡ Ok (a, b, 0)
letters_two t a b c ha hb hc = letters_read t 2 a b c ha hb hc

-- what is known of the line x where its n numbers are a, b and c
pub record Shown (n : ℕ) (x : List ℕ) (a b c : ℕ) : Type 0 where
  pub first : a ≤ most_number
  pub second : b ≤ most_number
  pub third : c ≤ most_number
  pub none : (n ≡ 3 → ⊥) → c ≡ 0
  pub line : x ≡ letters (get_or x 0 0) n a b c

pub letters_shown : (n a b c : ℕ) (x : List ℕ) → fields n x ≡ Ok (a, b, c) → Shown n x a b c
letters_shown n a b c x e =
    let m = fields_shown n a b c x e in
    record { first = m.0; second = m.1; third = m.2; none = m.3; line = letters_first n a b c x m.4 }

-- the end of a line, and how long a line is
pub last_three : {n : ℕ} (c : ℕ) → n ≡ 3 → entry c ++ (lf ∷ []) ≡ last n c
unfolding last
last_three {n} c h = rw (eq-eqb n 3 h)

pub last_two : {n : ℕ} (c : ℕ) → (n ≡ 3 → ⊥) → lf ∷ [] ≡ last n c
unfolding last
last_two {n} c h = rw (ne_eqb n 3 h)

length_letters : (t n a b c : ℕ) → length (letters t n a b c) ≡ 3 + length (decimal a) + length (decimal b) + length (last n c)
unfolding letters entry
length_letters t n a b c =
    omega (arith, length-append (entry a) (entry b ++ last n c), length-append (entry b) (last n c))

module _ (t n a b c : ℕ) where
  pub length_three : n ≡ 3 → length (letters t n a b c) ≡ 4 + length (decimal a) + length (decimal b) + 1 + length (decimal c)
  unfolding entry
  length_three h =
      omega (arith, length_letters t n a b c, ap length (last_three c h), length-append (entry c) (lf ∷ []))

  pub length_two : (n ≡ 3 → ⊥) → length (letters t n a b c) ≡ 4 + length (decimal a) + length (decimal b)
  length_two h = omega (arith, length_letters t n a b c, ap length (last_two c h))

-- a written line is one line
nolf_digits : (k n : ℕ) → NoLF (digits k n)
unfolding digits
nolf_digits zero n = (λ e. omega arith, tt)
nolf_digits (suc k) n =
    split (ltb n 10)
    (λ t. rw t (λ e. omega arith, tt))
    (λ t. rw t (nolf_append (digits k (n / 10)) ((n % 10 + 48) ∷ []) (nolf_digits k (n / 10)) (λ e. omega arith, tt)))

pub nolf_decimal : (a : ℕ) → NoLF (decimal a)
unfolding decimal
nolf_decimal a = nolf_digits 19 a

pub nolf_entry : (a : ℕ) → NoLF (entry a)
unfolding entry
nolf_entry a = (λ e. omega arith, nolf_decimal a)

one_line : {x : List ℕ} (p s : List ℕ) → x ≡ p ++ (lf ∷ []) → NoLF p → lines (x ++ s) ≡ x ∷ lines s
one_line p s e h = ap (λ z. lines (z ++ s)) e ∙ lines_front p s h ∙ ap (λ z. z ∷ lines s) (sym e)

pub lines_letters : (t n a b c : ℕ) (s : List ℕ) → (t ≡ lf → ⊥) → lines (letters t n a b c ++ s) ≡ letters t n a b c ∷ lines s
unfolding letters last
lines_letters t n a b c s h =
    let two = nolf_append (entry a) (entry b) (nolf_entry a) (nolf_entry b) in
    let three = nolf_append (entry a) (entry b ++ entry c) (nolf_entry a) (nolf_append (entry b) (entry c) (nolf_entry b) (nolf_entry c)) in
    split (eqb n 3)
    (λ u. one_line (t ∷ (entry a ++ (entry b ++ entry c))) s (rw u (simp append_assoc)) (h, three))
    (λ u. one_line (t ∷ (entry a ++ entry b)) s (rw u (simp append_assoc)) (h, two))
