-- Cutting a text into lines.
use Prim.Native.Nat.{ℕ, suc, ◌+◌, ◌-◌, ◌≤◌, ◌<◌}
use mathlib.Core.Path.{◌≡◌, refl, ap, sym, ◌∙◌}
use mathlib.Core.List.{List, [], ◌∷◌, ◌++◌, flatten}
use native.Mathlib.Omega.{arith}
use native.Mathlib.Numerals.{add-one}
use native.Mathlib.Nat.{add-zero}
use lib.Dec.{eqb, ltb}
use lib.ListN.{length, get_or, take, drop, drop_of_length-le, length-drop}
use lib.Seq.{drop-drop, drop-cons, drop-nil, get_or-drop}
use borrow.Author.Tests.{eq-eqb, ne_eqb, ltb-true, ltb-false}
use Rattle.lines.specs.Lines.{lf, onto, lines, line_end_of, line_at, Starts}
use Rattle.lines.proofs.Tests.{split}
use Rattle.lines.proofs.Places.{from}

-- the code's steps
module _ (s : List ℕ) (i : ℕ) where
  pub line_end_end : length s ≤ i → line_end_of i (drop i s) ≡ i
  unfolding line_end_of
  line_end_end h = rw drop_of_length-le

  pub line_end_lf : i < length s → get_or s i 0 ≡ lf → line_end_of i (drop i s) ≡ i + 1
  unfolding line_end_of
  line_end_lf h e = rw (drop-cons s i 0, eq-eqb _ _ e)

  pub line_end_more : i < length s → (get_or s i 0 ≡ lf → ⊥) → line_end_of i (drop i s) ≡ line_end_of (i + 1) (drop (i + 1) s)
  unfolding line_end_of
  line_end_more h e = rw (drop-cons s i 0, add-one, ne_eqb _ _ e)

-- the first line of a text that is not empty, and the others
abbrev Cut : ℕ → ℕ → List ℕ → Type 0
Cut i e l = (i < e) × (e ≤ i + length l) × (lines l ≡ take (e - i) l ∷ lines (drop (e - i) l))

cut_one : (i b : ℕ) (l : List ℕ) {e : ℕ} → e ≡ i + 1 → lines (b ∷ l) ≡ (b ∷ []) ∷ lines l → Cut i e (b ∷ l)
cut_one i b l {e} q h = let n : e - i ≡ 1 = omega arith in (omega arith, omega arith, rw n h)

cut_more : (i b : ℕ) (l : List ℕ) {e f : ℕ} → e ≡ f → lines (b ∷ l) ≡ onto b (lines l) → Cut (i + 1) f l → Cut i e (b ∷ l)
cut_more i b l {e} {f} q h ih =
    let n : e - i ≡ suc (f - (i + 1)) = omega (arith, ih.0) in
    (omega (arith, ih.0), omega (arith, ih.1), rw n (h ∙ ap (onto b) ih.2))

cut : (i b : ℕ) (l : List ℕ) → Cut i (line_end_of i (b ∷ l)) (b ∷ l)
unfolding lines line_end_of
cut i b [] = split (eqb b lf) (λ t. cut_one i b [] (rw t) (rw t)) (λ t. cut_one i b [] (rw t) (rw t))
cut i b (d ∷ l) =
    split (eqb b lf)
    (λ t. cut_one i b (d ∷ l) (rw t) (rw t))
    (λ t. cut_more i b (d ∷ l) (rw t) (rw t) (cut (i + 1) d l))

pub lines_at : (s : List ℕ) (i e : ℕ) → i < length s → e ≡ line_end_of i (drop i s) →
    (i < e) × (e ≤ length s) × (lines (drop i s) ≡ take (e - i) (drop i s) ∷ lines (drop e s))
lines_at s i e h q =
    let f = from s i h in
    let m = cut i (get_or s i 0) (drop (i + 1) s) in
    let g : line_end_of i (get_or s i 0 ∷ drop (i + 1) s) ≡ e = sym (q ∙ ap (line_end_of i) f) in
    let n : i + (e - i) ≡ e = omega (arith, m.0, g) in (
      omega (arith, m.0, g),
      omega (arith, m.1, g, length-drop (i + 1) s),
      ap lines f ∙ m.2 ∙ rw (g, ← f, drop-drop (e - i) i s, n),
    )

-- the code's steps from line to line
pub starts_first : (s : List ℕ) → Starts s 0 0
starts_first s = record { inside = omega arith; rest = refl }

module _ {s : List ℕ} {k at : ℕ} (g : Starts s k at) where
  pub starts_next : {e : ℕ} → at < length s → e ≡ line_end_of at (drop at s) → Starts s (k + 1) e
  starts_next {e} h q =
      let m = lines_at s at e h q in
      record { inside = m.1; rest = ap (drop 1) (sym m.2 ∙ g.rest) ∙ drop-drop 1 k (lines s) }

  pub starts_none : {n : ℕ} → length s ≤ at → k ≤ n → Starts s n at
  unfolding lines
  starts_none {n} h l =
      let z : k + (n - k) ≡ n = omega arith in
      let e : lines (drop at s) ≡ [] = ap lines (drop_of_length-le s h) in
      record {
        inside = g.inside;
        rest =
            e ∙ sym (drop-nil (n - k)) ∙ ap (drop (n - k)) (sym e ∙ g.rest)
            ∙ drop-drop (n - k) k (lines s) ∙ ap (λ j. drop j (lines s)) z;
      }

  pub line_part : {e : ℕ} → e ≡ line_end_of at (drop at s) → (at ≤ e) × (e ≤ length s) × (take (e - at) (drop at s) ≡ line_at s k)
  unfolding line_at lines
  line_part {e} q =
      let f : get_or (lines (drop at s)) 0 [] ≡ get_or (lines s) k [] =
      ap (λ x. get_or x 0 []) g.rest ∙ get_or-drop k (lines s) 0 [] ∙ ap (λ j. get_or (lines s) j []) (add-zero k) in
      split (ltb at (length s))
      (λ t. let m = lines_at s at e (ltb-true _ _ t) q in (omega (arith, m.0), m.1, ap (λ x. get_or x 0 []) (sym m.2) ∙ f))
      (λ t.
      let n : drop at s ≡ [] = drop_of_length-le s (ltb-false _ _ t) in
      let o : e ≡ at = q ∙ line_end_end s at (ltb-false _ _ t) in
      let z : e - at ≡ 0 = omega arith in
      (omega arith, omega (arith, g.inside), rw z (ap (λ x. get_or (lines x) 0 []) (sym n) ∙ f)))

-- the lines of a text put together are the text
flatten_onto : (b : ℕ) (xs : List (List ℕ)) → flatten (onto b xs) ≡ b ∷ flatten xs
unfolding flatten
flatten_onto b [] = refl
flatten_onto b (x ∷ xs) = refl

pub lines_joined : (s : List ℕ) → flatten (lines s) ≡ s
unfolding lines flatten
lines_joined [] = refl
lines_joined (b ∷ l) =
    split (eqb b lf)
    (λ t. rw t (ap (λ x. b ∷ x) (lines_joined l)))
    (λ t. rw (t, flatten_onto b (lines l)) (ap (λ x. b ∷ x) (lines_joined l)))

-- a line that was written, in front of others
abbrev pub NoLF : List ℕ → Type 0
NoLF [] = Unit
NoLF (b ∷ l) = (b ≡ lf → ⊥) × NoLF l

pub nolf_append : (x y : List ℕ) → NoLF x → NoLF y → NoLF (x ++ y)
nolf_append [] y h g = g
nolf_append (b ∷ x) y h g = (h.0, nolf_append x y h.1 g)

pub lines_front : (y l : List ℕ) → NoLF y → lines ((y ++ (lf ∷ [])) ++ l) ≡ (y ++ (lf ∷ [])) ∷ lines l
unfolding lines
lines_front [] l h = refl
lines_front (b ∷ y) l h = rw (ne_eqb b lf h.0) (ap (onto b) (lines_front y l h.1))
