-- Flags stored one after another: what then stands at each place, and at each row and column. Assumes nothing.
use Prim.Native.Nat.{ℕ, suc, ◌+◌, ◌*◌, ◌-◌, ◌≤◌, ◌<◌}
use mathlib.Core.Path.{◌≡◌, refl, sym, ap, ◌∙◌}
use mathlib.Core.Logic.{◌≢◌, by_cases}
use mathlib.Core.Bool.{Bool, true, false, not, cond, ◌&&◌, and-false}
use mathlib.Core.List.{List}
use native.Mathlib.Nat.{mul-le-mul_right, add-mul}
use native.Mathlib.Decide.{ℕ_discrete, dec_lt}
use native.Mathlib.Omega.{arith}
use borrow.Author.Tests.{lt-ltb, le-ltb, eq-eqb, ne_eqb, ltb-true, ltb-false}
use lib.ListN.{length, set, replicate, length-set, length-replicate}
use borrow.Rule.Slice.PartMut.{put_mid}
use Rattle.std.proofs.Common.{rules}
use Rattle.std.proofs.lemmas.Slice.{overwrites}
use Rattle.std.proofs.lemmas.List.{places}
use lib.Seq.{get_or-set_same, get_or-set_other}
use lib.Dec.{ltb, eqb}
use Rattle.paper.specs.Limits.{at}
use Rattle.lines.proofs.Tests.{split}
use Rattle.model_sets.specs.Work.{within, is_set, Painted, Changed, cleared, corner, rowed, joined}

-- where a number lies
pub in_within : (a b j : ℕ) → a ≤ j → j < b → within a b j ≡ true
unfolding within
in_within a b j h k = rw (le-ltb j a h, lt-ltb j b k) refl

pub low_within : (a b j : ℕ) → j < a → within a b j ≡ false
unfolding within
low_within a b j h = rw (lt-ltb j a h) refl

pub high_within : (a b j : ℕ) → b ≤ j → within a b j ≡ false
unfolding within
high_within a b j h = rw (le-ltb j b h) (and-false (not (ltb j a)))

-- three cases
pub wherever : {C : Type 0} (a b j : ℕ) → (j < a → C) → (a ≤ j → j < b → C) → (b ≤ j → C) → C
wherever a b j p q r =
    split (ltb j a) (λ e. p (ltb-true j a e))
    (λ e. split (ltb j b) (λ f. q (ltb-false j a e) (ltb-true j b f)) (λ f. r (ltb-false j b f)))

pub within_as : (a b j a' b' j' : ℕ) → (j < a → j' < a') → (a ≤ j → a' ≤ j') → (j < b → j' < b') → (b ≤ j → b' ≤ j')
    → within a b j ≡ within a' b' j'
within_as a b j a' b' j' e f g h =
    wherever a b j (λ p. low_within a b j p ∙ sym (low_within a' b' j' (e p)))
    (λ p q. in_within a b j p q ∙ sym (in_within a' b' j' (f p) (g q)))
    (λ p. high_within a b j p ∙ sym (high_within a' b' j' (h p)))

pub within_none : (a j : ℕ) → within a a j ≡ false
within_none a j = wherever a a j (λ p. low_within a a j p) (λ p q. absurd (omega arith)) (λ p. high_within a a j p)

pub within_else : (a b j : ℕ) → j ≢ b → within a (b + 1) j ≡ within a b j
within_else a b j d = within_as a (b + 1) j a b j (λ p. p) (λ p. p) (λ p. omega arith) (λ p. omega arith)

pub within_suc : (a b x : ℕ) → within (a + 1) (b + 1) (suc x) ≡ within a b x
within_suc a b x = within_as (a + 1) (b + 1) (suc x) a b x (λ p. omega arith) (λ p. omega arith) (λ p. omega arith) (λ p. omega arith)

-- rows of one stride
next_row : (s i k : ℕ) → i < k → i * s + s ≤ k * s
next_row s i k h = omega (arith, mul-le-mul_right s (add_le h), add-mul i 1 s)
  where
    add_le : i < k → i + 1 ≤ k
    add_le h = omega arith

pub within_row : (s i k y a b : ℕ) → y < s → b ≤ s → within (k * s + a) (k * s + b) (i * s + y) ≡ (eqb i k && within a b y)
within_row s i k y a b h w =
    split (ltb i k)
    (λ e. let z = next_row s i k (ltb-true i k e) in
    low_within (k * s + a) (k * s + b) (i * s + y) (omega (arith, z))
    ∙ sym (rw (ne_eqb i k (λ q. omega (arith, ltb-true i k e, q))) refl))
    (λ e. split (ltb k i)
    (λ f. let z = next_row s k i (ltb-true k i f) in
    high_within (k * s + a) (k * s + b) (i * s + y) (omega (arith, z))
    ∙ sym (rw (ne_eqb i k (λ q. omega (arith, ltb-true k i f, q))) refl))
    (λ f. let q : i ≡ k = omega (arith, ltb-false i k e, ltb-false k i f) in
    rw (q, eq-eqb k k refl)
    (within_as (k * s + a) (k * s + b) (k * s + y) a b y (λ p. omega arith) (λ p. omega arith) (λ p. omega arith) (λ p. omega arith))))

-- one more place, or none
module _ (v : ℕ) where
  pub painted_none : (P : ℕ → Bool) (S : List ℕ) → ((j : ℕ) → P j ≡ false) → Painted v P S S
  painted_none P S e = record { size = refl; cell = λ j. rw (e j) refl }

  pub painted_as : (P Q : ℕ → Bool) {S S' : List ℕ} → Painted v P S S' → ((j : ℕ) → Q j ≡ P j) → Painted v Q S S'
  painted_as P Q g e = record { size = g.size; cell = λ j. rw (e j) (g.cell j) }

  pub painted_more : (P Q : ℕ → Bool) (S S' : List ℕ) (i : ℕ) → Painted v P S S' → i < length S' → Q i ≡ true
      → ((j : ℕ) → j ≢ i → Q j ≡ P j) → Painted v Q S (set S' i v)
  painted_more P Q S S' i g h t e =
      record {
        size = length-set S' i v ∙ g.size;
        cell = λ j. by_cases (ℕ_discrete j i)
            (λ q. rw (q, t) (get_or-set_same S' i v 0 h))
            (λ q. rw (e j q) (get_or-set_other S' i j v 0 q ∙ g.cell j));
      }

-- what `clear` leaves
pub clear_kept : (kept : Bool) (a b : ℕ) (S : List ℕ) → kept ≡ true → Painted 0 (cleared kept a b) S S
unfolding cleared
clear_kept kept a b S h = painted_none 0 (cleared kept a b) S (λ j. rw h refl)

pub clear_part : (kept : Bool) (a b m : ℕ) (S S' : List ℕ) → kept ≡ false → a ≤ b → b ≤ length S → m ≡ b - a → S' ≡ replicate m 0
    → Painted 0 (cleared kept a b) S (put_mid a (b - a) S S')
unfolding cleared
clear_part kept a b m S S' z h k e s = record {
  size = search (rules, overwrites, length-replicate);
  cell = λ j. by_cases (dec_lt j a)
      (λ p. rw (z, low_within a b j p) (search (rules, places)))
      (λ p. by_cases (dec_lt j b)
      (λ q. rw (z, in_within a b j (omega arith) q) (search (rules, places)))
      (λ q. rw (z, high_within a b j (omega arith)) (search (rules, places))));
}

-- the loop of `link_row`
module _ (N : List ℕ) (row a : ℕ) where
  pub row_start : Painted 1 (rowed N row a a) N N
  unfolding rowed
  row_start = painted_none 1 (rowed N row a a) N (λ j. rw (within_none (row + a) j) refl)

  module _ (N' : List ℕ) (y : ℕ) (h : a ≤ y) (k : y < row) (g : Painted 1 (rowed N row a y) N N') where
    -- the first row is as it was
    source : at N' y ≡ at N y
    unfolding rowed
    source = g.cell y ∙ rw (low_within (row + a) (row + y) y (omega arith)) refl

    else : (j : ℕ) → j ≢ row + y → rowed N row a (y + 1) j ≡ rowed N row a y j
    unfolding rowed
    else j d =
        let e : row + (y + 1) ≡ row + y + 1 = omega arith in
        rw (e, within_else (row + a) (row + y) j d) refl

    here : rowed N row a (y + 1) (row + y) ≡ is_set (at N y)
    unfolding rowed
    here =
        let e : row + y - row ≡ y = omega arith in
        rw (in_within (row + a) (row + (y + 1)) (row + y) (omega arith) (omega arith), e) refl

    past : rowed N row a y (row + y) ≡ false
    unfolding rowed
    past = rw (high_within (row + a) (row + y) (row + y) (omega arith)) refl

    pub row_more : at N' y ≢ 0 → row + y < length N' → Painted 1 (rowed N row a (y + 1)) N (set N' (row + y) 1)
    unfolding is_set
    row_more d l =
        painted_more 1 (rowed N row a y) (rowed N row a (y + 1)) N N' (row + y) g l
        (here ∙ ap not (ne_eqb (at N y) 0 (λ z. d (source ∙ z)))) else

    pub row_skip : at N' y ≡ 0 → Painted 1 (rowed N row a (y + 1)) N N'
    unfolding is_set
    row_skip z =
        painted_as 1 (rowed N row a y) (rowed N row a (y + 1)) g
        (λ j. by_cases (ℕ_discrete j (row + y))
        (λ q. rw q (here ∙ ap not (eq-eqb (at N y) 0 (sym source ∙ z)) ∙ sym past))
        (λ q. else j q))

-- the loop of `clear_rows`
module _ (s p : ℕ) (w : p ≤ s) (N : List ℕ) where
  pub rows_start : Changed s 0 (corner 0 p) N N
  unfolding corner
  rows_start = record { size = refl; cell = λ i y h. rw (le-ltb i 0 (omega arith)) refl }

  module _ (k : ℕ) where
    row_tested : (i y : ℕ) → y < s → cleared false (k * s) (k * s + p) (i * s + y) ≡ (eqb i k && within 0 p y)
    unfolding cleared
    row_tested i y h =
        let e : k * s ≡ k * s + 0 = omega arith in
        ap (λ (z : ℕ). within z (k * s + p) (i * s + y)) e ∙ within_row s i k y 0 p h w

    row_whole : (y : ℕ) → within 0 p y ≡ corner (k + 1) p k y
    unfolding within corner
    row_whole y = rw (le-ltb y 0 (omega arith), lt-ltb k (k + 1) (omega arith)) refl

    row_none : (y : ℕ) → corner k p k y ≡ false
    unfolding corner
    row_none y = rw (le-ltb k k (omega arith)) refl

    row_else : (i y : ℕ) → i ≢ k → corner k p i y ≡ corner (k + 1) p i y
    unfolding corner
    row_else i y d =
        split (ltb i k)
        (λ e. rw (e, lt-ltb i (k + 1) (omega (arith, ltb-true i k e))) refl)
        (λ e. rw (e, le-ltb i (k + 1) (omega (arith, ltb-false i k e, d))) refl)

    pub rows_more : (N₁ N₂ : List ℕ) → Changed s 0 (corner k p) N N₁ → Painted 0 (cleared false (k * s) (k * s + p)) N₁ N₂
        → Changed s 0 (corner (k + 1) p) N N₂
    rows_more N₁ N₂ g f =
        record { size = f.size ∙ g.size; cell = λ i y h. f.cell (i * s + y) ∙ go i y h (ℕ_discrete i k) }
      where
        go : (i y : ℕ) → y < s → Dec (i ≡ k)
            → cond (cleared false (k * s) (k * s + p) (i * s + y)) 0 (at N₁ (i * s + y)) ≡ cond (corner (k + 1) p i y) 0 (at N (i * s + y))
        go i y h (yes q) =
            rw (row_tested i y h, q, eq-eqb k k refl, row_whole y)
            (ap (cond (corner (k + 1) p k y) 0) (g.cell k y h ∙ rw (row_none y) refl))
        go i y h (no d) = rw (row_tested i y h, ne_eqb i k d, sym (row_else i y d)) (g.cell i y h)

-- the loop of `link`
module _ (s : ℕ) (E N : List ℕ) (c a b : ℕ) where
  pub link_start : Changed s 1 (joined E N c c a b) N N
  unfolding joined
  link_start = record { size = refl; cell = λ i y h. rw (within_none c i) refl }

  module _ (k : ℕ) (N₁ : List ℕ) (o : 1 ≤ c) (h : c ≤ k) (w : b ≤ s) (g : Changed s 1 (joined E N c k a b) N N₁) where
    first_row : (y : ℕ) → y < s → at N₁ y ≡ at N y
    unfolding joined
    first_row y l =
        let e : y ≡ 0 * s + y = omega arith in
        ap (at N₁) e ∙ g.cell 0 y l ∙ rw (low_within c k 0 (omega arith), sym e) refl

    other : (i y : ℕ) → i ≢ k → joined E N c (k + 1) a b i y ≡ joined E N c k a b i y
    unfolding joined
    other i y d = rw (within_else c k i d) refl

    same : (y : ℕ) → joined E N c (k + 1) a b k y ≡ (is_set (at E k) && (within a b y && is_set (at N y)))
    unfolding joined
    same y = rw (in_within c (k + 1) k h (omega arith)) refl

    before : (y : ℕ) → joined E N c k a b k y ≡ false
    unfolding joined
    before y = rw (high_within c k k (omega arith)) refl

    tested : (i y : ℕ) → y < s → rowed N₁ (k * s) a b (i * s + y) ≡ ((eqb i k && within a b y) && is_set (at N₁ (i * s + y - k * s)))
    unfolding rowed
    tested i y l = rw (within_row s i k y a b l w) refl

    pub link_more : (N₂ : List ℕ) → at E k ≢ 0 → Painted 1 (rowed N₁ (k * s) a b) N₁ N₂ → Changed s 1 (joined E N c (k + 1) a b) N N₂
    unfolding is_set
    link_more N₂ d f =
        record { size = f.size ∙ g.size; cell = λ i y l. f.cell (i * s + y) ∙ go i y l (ℕ_discrete i k) }
      where
        go : (i y : ℕ) → y < s → Dec (i ≡ k)
            → cond (rowed N₁ (k * s) a b (i * s + y)) 1 (at N₁ (i * s + y)) ≡ cond (joined E N c (k + 1) a b i y) 1 (at N (i * s + y))
        go i y l (yes q) =
            let e : k * s + y - k * s ≡ y = omega arith in
            rw (tested i y l, q, e, first_row y l, eq-eqb k k refl, same y, ne_eqb (at E k) 0 d)
            (ap (cond (within a b y && is_set (at N y)) 1) (g.cell k y l ∙ rw (before y) refl))
        go i y l (no z) = rw (tested i y l, ne_eqb i k z, other i y z) (g.cell i y l)

    pub link_skip : at E k ≡ 0 → Changed s 1 (joined E N c (k + 1) a b) N N₁
    unfolding is_set
    link_skip z =
        record {
          size = g.size;
          cell = λ i y l. g.cell i y l ∙ ap (λ (t : Bool). cond t 1 (at N (i * s + y))) (go i y (ℕ_discrete i k));
        }
      where
        go : (i y : ℕ) → Dec (i ≡ k) → joined E N c k a b i y ≡ joined E N c (k + 1) a b i y
        go i y (yes q) = rw q (before y ∙ sym (same y ∙ rw (eq-eqb (at E k) 0 z) refl))
        go i y (no d) = sym (other i y d)
