-- Flags in slices and the tests that they show: what painting makes of them. Assumes nothing.
use Prim.Native.Nat.{ℕ, ◌+◌, ◌*◌, ◌≤◌, ◌<◌}
use mathlib.Core.Path.{◌≡◌, refl, sym, ap, ap₂, ◌∙◌}
use mathlib.Core.Bool.{Bool, true, false, not, cond, ◌&&◌, and-false}
use mir.Val.{bool_byte}
use mathlib.Core.List.{List}
use native.Mathlib.Omega.{arith}
use borrow.Author.Tests.{ne_eqb, le-leb, lt-ltb, leb-true, leb-false, ltb-true, ltb-false}
use lib.ListN.{length, set}
use lib.Dec.{ltb, leb, eqb}
use Rattle.paper.specs.Limits.{at}
use Rattle.lines.proofs.Tests.{split}
use Rattle.model_sets.specs.Sets.{flag}
use Rattle.model_sets.specs.Work.{within, is_set, Painted, Changed, cleared, joined}
use Rattle.model_sets.specs.Stack.{Marks, Cells}
use Rattle.model_sets.proofs.Painting.{high_within, in_within, within_none, within_else, within_row, painted_none, painted_more}

pub is_set_flag : (b : Bool) → is_set (flag b) ≡ b
unfolding is_set flag
is_set_flag true = refl
is_set_flag false = refl

-- a test as a number
pub byte_flag : (b : Bool) → bool_byte b ≡ flag b
unfolding flag
byte_flag true = refl
byte_flag false = refl

flag_cond : (t v b : Bool) → cond t (flag v) (flag b) ≡ flag (cond t v b)
flag_cond true v b = refl
flag_cond false v b = refl

-- one flag stored
pub painted_one : (v n : ℕ) (S : List ℕ) → n < length S → Painted v (within n (n + 1)) S (set S n v)
painted_one v n S h =
    painted_more v (within n n) (within n (n + 1)) S S n (painted_none v (within n n) S (within_none n)) h
    (in_within n (n + 1) n (omega arith) (omega arith)) (λ j d. within_else n n j d)

-- flags at positions
module _ {p : ℕ} {E₀ : List ℕ} {g : ℕ → Bool} {E : List ℕ} (m : Marks p E₀ g E) where
  pub marks_as : {h : ℕ → Bool} → ((i : ℕ) → g i ≡ h i) → Marks p E₀ h E
  marks_as e = record { cell = λ i. m.cell i ∙ ap (λ (b : Bool). cond (leb i p) (flag b) (at E₀ i)) (e i) }

  pub marks_at : (i : ℕ) → i ≤ p → at E i ≡ flag (g i)
  marks_at i h = m.cell i ∙ rw (le-leb i p h) refl

  pub marks_painted : (v : Bool) {P h : ℕ → Bool} {E' : List ℕ} → Painted (flag v) P E E'
      → ((i : ℕ) → p < i → P i ≡ false) → ((i : ℕ) → cond (P i) v (g i) ≡ h i) → Marks p E₀ h E'
  marks_painted v {P} {h} f o e =
      record {
        cell = λ i. f.cell i ∙ split (leb i p)
            (λ q. rw (q, marks_at i (leb-true i p q), sym (e i)) (flag_cond (P i) v (g i)))
            (λ q. rw (o i (leb-false i p q)) (m.cell i ∙ rw q refl));
      }

-- flags at rows and columns
module _ {s p : ℕ} {N₀ : List ℕ} {f : ℕ → ℕ → Bool} {N : List ℕ} (c : Cells s p N₀ f N) where
  pub cells_as : {g : ℕ → ℕ → Bool} → ((i y : ℕ) → f i y ≡ g i y) → Cells s p N₀ g N
  cells_as e =
      record { cell = λ i y h. c.cell i y h ∙ ap (λ (b : Bool). cond (leb i p && ltb y p) (flag b) (at N₀ (i * s + y))) (e i y) }

  pub cells_at : (i y : ℕ) → y < s → i ≤ p → y < p → at N (i * s + y) ≡ flag (f i y)
  cells_at i y h k l = c.cell i y h ∙ rw (le-leb i p k, lt-ltb y p l) refl

  pub cells_painted : (v : Bool) {P g : ℕ → ℕ → Bool} {N' : List ℕ} → Changed s (flag v) P N N'
      → ((i y : ℕ) → p < i → P i y ≡ false) → ((i y : ℕ) → p ≤ y → P i y ≡ false)
      → ((i y : ℕ) → i ≤ p → y < p → cond (P i y) v (f i y) ≡ g i y) → Cells s p N₀ g N'
  cells_painted v {P} {g} x o q e =
      record {
        cell = λ i y h. x.cell i y h ∙ split (leb i p)
            (λ a. split (ltb y p)
            (λ b. rw (a, b, cells_at i y h (leb-true i p a) (ltb-true y p b), sym (e i y (leb-true i p a) (ltb-true y p b)))
            (flag_cond (P i y) v (f i y)))
            (λ b. rw (q i y (ltb-false y p b)) (c.cell i y h ∙ rw (a, b) refl)))
            (λ a. rw (o i y (leb-false i p a)) (c.cell i y h ∙ rw a refl));
      }

-- a stretch of the first row
pub changed_first : (s v a b : ℕ) (t : Bool) {N N' : List ℕ} → b ≤ s → Painted v (λ j. t && within a b j) N N'
    → Changed s v (λ i y. eqb i 0 && (t && within a b y)) N N'
changed_first s v a b t {N} {N'} w f =
    record { size = f.size; cell = λ i y h. f.cell (i * s + y) ∙ ap (λ (z : Bool). cond z v (at N (i * s + y))) (tested i y h) }
  where
    swap : (x y z : Bool) → (x && (y && z)) ≡ (y && (x && z))
    swap true y z = refl
    swap false true z = refl
    swap false false z = refl

    tested : (i y : ℕ) → y < s → (t && within a b (i * s + y)) ≡ (eqb i 0 && (t && within a b y))
    tested i y h =
        let e : a ≡ 0 * s + a = omega arith in
        let d : b ≡ 0 * s + b = omega arith in
        ap (λ (z : Bool). t && z) (ap₂ (λ u v. within u v (i * s + y)) e d ∙ within_row s i 0 y a b h w)
        ∙ swap t (eqb i 0) (within a b y)

-- a stretch cleared, or one flag set
module _ {p : ℕ} {E₀ : List ℕ} {g : ℕ → Bool} {E : List ℕ} (m : Marks p E₀ g E) where
  pub marks_cleared : (t : Bool) (a b : ℕ) {h : ℕ → Bool} {E' : List ℕ} → b ≤ p + 1 → Painted 0 (cleared t a b) E E'
      → ((i : ℕ) → cond (not t && within a b i) false (g i) ≡ h i) → Marks p E₀ h E'
  unfolding cleared flag
  marks_cleared t a b k f e =
      marks_painted m false f
      (λ i o. rw (high_within a b i (omega arith)) (and-false (not t)))
      e

  pub marks_set : (n : ℕ) {h : ℕ → Bool} → n ≤ p → n < length E → ((i : ℕ) → cond (within n (n + 1) i) true (g i) ≡ h i)
      → Marks p E₀ h (set E n 1)
  unfolding flag
  marks_set n k l e = marks_painted m true (painted_one 1 n E l) (λ i o. high_within n (n + 1) i (omega arith)) e

module _ {s p : ℕ} {N₀ : List ℕ} {f : ℕ → ℕ → Bool} {N : List ℕ} (w : p ≤ s) (c : Cells s p N₀ f N) where
  pub cells_cleared : (t : Bool) (a b : ℕ) {g : ℕ → ℕ → Bool} {N' : List ℕ} → b ≤ p → Painted 0 (cleared t a b) N N'
      → ((i y : ℕ) → cond (eqb i 0 && (not t && within a b y)) false (f i y) ≡ g i y) → Cells s p N₀ g N'
  unfolding cleared flag
  cells_cleared t a b k x e =
      cells_painted c false (changed_first s 0 a b (not t) (omega arith) x)
      (λ i y o. rw (ne_eqb i 0 (λ z. omega arith)) refl)
      (λ i y o. rw (high_within a b y (omega arith), and-false (not t)) (and-false (eqb i 0)))
      (λ i y o q. e i y)

  pub cells_set : (n : ℕ) {g : ℕ → ℕ → Bool} → n < p → n < length N
      → ((i y : ℕ) → cond (eqb i 0 && within n (n + 1) y) true (f i y) ≡ g i y) → Cells s p N₀ g (set N n 1)
  unfolding flag
  cells_set n k l e =
      cells_painted c true (changed_first s 1 n (n + 1) true (omega arith) (painted_one 1 n N l))
      (λ i y o. rw (ne_eqb i 0 (λ z. omega arith)) refl)
      (λ i y o. rw (high_within n (n + 1) y (omega arith)) (and-false (eqb i 0)))
      (λ i y o q. e i y)

-- a link
pub cells_linked : {s p : ℕ} {E₀ N₀ : List ℕ} {g : ℕ → Bool} {f : ℕ → ℕ → Bool} (c d a b : ℕ) {E N N' : List ℕ}
    → p ≤ s → d ≤ p + 1 → b ≤ p → Marks p E₀ g E → Cells s p N₀ f N → Changed s 1 (joined E N c d a b) N N'
    → Cells s p N₀ (λ i y. cond ((within c d i && g i) && (within a b y && f 0 y)) true (f i y)) N'
unfolding joined flag
cells_linked {s} {p} {g = g} {f = f} c d a b {E} {N} w k l m n x =
    cells_painted n true x
    (λ i y h. rw (high_within c d i (omega arith)) refl)
    (λ i y h. rw (high_within a b y (omega arith)) (and-false (within c d i && is_set (at E i))))
    (λ i y h j.
    let e : 0 * s + y ≡ y = omega arith in
    let z : at N y ≡ flag (f 0 y) = ap (at N) (sym e) ∙ cells_at n 0 y (omega arith) (omega arith) j in
    rw (marks_at m i h, z, is_set_flag (g i), is_set_flag (f 0 y)) refl)
