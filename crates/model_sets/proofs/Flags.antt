-- What each token makes of the flags of a stack of models. Assumes nothing.
use Prim.Native.Nat.{ℕ, zero, suc, ◌+◌, ◌≤◌, ◌<◌}
use mathlib.Core.Path.{◌≡◌, refl, sym, ap, ap₂, ◌∙◌}
use mathlib.Core.Logic.{◌≢◌, by_cases}
use mathlib.Core.Bool.{Bool, true, false, not, cond, ◌&&◌, ◌||◌, and_comm, and-false, and-true, or_assoc, or-false, or-true}
use mathlib.Core.List.{List, [], ◌∷◌, ◌++◌}
use native.Mathlib.Decide.{ℕ_discrete}
use native.Mathlib.Omega.{arith}
use borrow.Author.Tests.{eq-eqb, ne_eqb}
use lib.ListN.{length, length-append}
use lib.Dec.{T, eqb, eqb-suc-zero}
use Rattle.model.specs.Model.{Model, symbol, empty, sequence, choice, star, maybe, plus, symbols, mark}
use Rattle.model.specs.Sets.{nullable, first, last}
use Rattle.model.proofs.Families.{first_has, last_has}
use Rattle.model.proofs.Places.{has_inside}
use Rattle.model.proofs.Tests.{test_first, test_last}
use Rattle.model_sets.specs.Work.{within}
use Rattle.model_sets.specs.Stack.{borne, total, firsts, lasts, follows, ending, coming}
use Rattle.model_sets.proofs.Painting.{in_within, low_within, high_within, wherever, within_suc}

false_by : (b : Bool) → (T b → ⊥) → b ≡ false
false_by true h = absurd (h tt)
false_by false h = refl

-- the places of a model lie in its stretch
module _ (m : Model) (f x : ℕ) where
  first_below : x < f → first (mark f m) x ≡ false
  first_below h = false_by _ (λ t. let k = has_inside m f (first_has (test_first (mark f m) x t)) in omega arith)

  first_above : f + length (symbols m) ≤ x → first (mark f m) x ≡ false
  first_above h = false_by _ (λ t. let k = has_inside m f (first_has (test_first (mark f m) x t)) in omega arith)

  last_below : x < f → last (mark f m) x ≡ false
  last_below h = false_by _ (λ t. let k = has_inside m f (last_has (test_last (mark f m) x t)) in omega arith)

  last_above : f + length (symbols m) ≤ x → last (mark f m) x ≡ false
  last_above h = false_by _ (λ t. let k = has_inside m f (last_has (test_last (mark f m) x t)) in omega arith)

firsts_above : (st : List Model) (y : ℕ) → total st ≤ y → firsts st y ≡ false
firsts_above [] y h = refl
firsts_above (m ∷ st) y h = rw (firsts_above st y (omega arith), first_above m (total st) y h) refl

lasts_above : (st : List Model) (x : ℕ) → total st ≤ x → lasts st x ≡ false
lasts_above [] x h = refl
lasts_above (m ∷ st) x h = rw (lasts_above st x (omega arith), last_above m (total st) x h) refl

pub mark_nullable : (m : Model) (f : ℕ) → nullable (mark f m) ≡ nullable m
mark_nullable (symbol a) f = refl
mark_nullable empty f = refl
mark_nullable (sequence l r) f = ap₂ ◌&&◌ (mark_nullable l f) (mark_nullable r _)
mark_nullable (choice l r) f = ap₂ ◌||◌ (mark_nullable l f) (mark_nullable r _)
mark_nullable (star m) f = refl
mark_nullable (maybe m) f = refl
mark_nullable (plus m) f = mark_nullable m f

-- how many places there are
pub total_two : (l r : Model) (st : List Model) → total st + length (symbols l ++ symbols r) ≡ total (r ∷ (l ∷ st))
total_two l r st = rw length-append (omega arith)

pub borne_length : (st : List Model) → length (borne st) ≡ total st
borne_length [] = refl
borne_length (m ∷ st) = length-append (borne st) (symbols m) ∙ ap (λ (i : ℕ). i + length (symbols m)) (borne_length st)

-- the flags of the model on top
module _ (m : Model) (st : List Model) where
  top_first : (y : ℕ) → first (mark (total st) m) y ≡ (within (total st) (total (m ∷ st)) y && firsts (m ∷ st) y)
  top_first y =
      wherever (total st) (total (m ∷ st)) y
      (λ h. rw (low_within (total st) (total (m ∷ st)) y h, first_below m (total st) y h) refl)
      (λ h k. rw (in_within (total st) (total (m ∷ st)) y h k, firsts_above st y h) refl)
      (λ h. rw (high_within (total st) (total (m ∷ st)) y h, first_above m (total st) y h) refl)

  top_last : (x : ℕ) → last (mark (total st) m) x ≡ (within (total st) (total (m ∷ st)) x && lasts (m ∷ st) x)
  top_last x =
      wherever (total st) (total (m ∷ st)) x
      (λ h. rw (low_within (total st) (total (m ∷ st)) x h, last_below m (total st) x h) refl)
      (λ h k. rw (in_within (total st) (total (m ∷ st)) x h k, lasts_above st x h) refl)
      (λ h. rw (high_within (total st) (total (m ∷ st)) x h, last_above m (total st) x h) refl)

-- a place from a to b can come first, and a word may end at a position from c to d
abbrev pub across : List Model → ℕ → ℕ → ℕ → ℕ → ℕ → ℕ → Bool
across st c d a b i y = (within c d i && ending st i) && (within a b y && firsts st y)

kept_or : (t b : Bool) → cond t true b ≡ (b || t)
kept_or true true = refl
kept_or true false = refl
kept_or false true = refl
kept_or false false = refl

kept_not : (t b : Bool) → (t && b) ≡ cond (not t) false b
kept_not true b = refl
kept_not false b = refl

module _ (l r : Model) (st : List Model) where
  -- `,` clears the firsts of the right unless the left can be empty
  firsts_sequence : (y : ℕ)
      → cond (not (nullable l) && within (total (l ∷ st)) (total (r ∷ (l ∷ st))) y) false (firsts (r ∷ (l ∷ st)) y)
      ≡ firsts (sequence l r ∷ st) y
  firsts_sequence y =
      wherever (total (l ∷ st)) (total (r ∷ (l ∷ st))) y
      (λ h. simp (low_within (total (l ∷ st)) (total (r ∷ (l ∷ st))) y h, first_below r (total (l ∷ st)) y h, and-false, or-false))
      (λ h k. simp (
        in_within (total (l ∷ st)) (total (r ∷ (l ∷ st))) y h k,
        firsts_above st y (omega (arith, h)),
        first_above l (total st) y h,
        mark_nullable l (total st),
        and-true,
      )
      (sym (kept_not (nullable l) (first (mark (total (l ∷ st)) r) y))))
      (λ h. simp (high_within (total (l ∷ st)) (total (r ∷ (l ∷ st))) y h, first_above r (total (l ∷ st)) y h, and-false, or-false))

  -- and the lasts of the left unless the right can be empty
  lasts_sequence : (x : ℕ)
      → cond (not (nullable r) && within (total st) (total (l ∷ st)) x) false (lasts (r ∷ (l ∷ st)) x) ≡ lasts (sequence l r ∷ st) x
  lasts_sequence x =
      wherever (total st) (total (l ∷ st)) x
      (λ h. simp (
        low_within (total st) (total (l ∷ st)) x h,
        last_below l (total st) x h,
        last_below r (total (l ∷ st)) x (omega (arith, h)),
        and-false,
        or-false,
      ))
      (λ h k. simp (
        in_within (total st) (total (l ∷ st)) x h k,
        lasts_above st x h,
        last_below r (total (l ∷ st)) x k,
        mark_nullable r (total (l ∷ st)),
        and-true,
        or-false,
        and_comm (last (mark (total st) l) x) (nullable r),
      )
      (sym (kept_not (nullable r) (last (mark (total st) l) x))))
      (λ h. simp (high_within (total st) (total (l ∷ st)) x h, last_above l (total st) x h, and-false, or-false))

  -- and lets the firsts of the right follow the lasts of the left
  second_last : (x : ℕ) → last (mark (total st) l) x ≡ (within (total st) (total (l ∷ st)) x && lasts (r ∷ (l ∷ st)) x)
  second_last x =
      wherever (total st) (total (l ∷ st)) x
      (λ h. rw (low_within (total st) (total (l ∷ st)) x h, last_below l (total st) x h) refl)
      (λ h k. simp (in_within (total st) (total (l ∷ st)) x h k, lasts_above st x h, last_below r (total (l ∷ st)) x k, or-false))
      (λ h. rw (high_within (total st) (total (l ∷ st)) x h, last_above l (total st) x h) refl)

  follows_sequence : (x y : ℕ)
      → cond (across (r ∷ (l ∷ st)) (total st + 1) (total (l ∷ st) + 1) (total (l ∷ st)) (total (r ∷ (l ∷ st))) (suc x) y) true
      (follows (r ∷ (l ∷ st)) x y)
      ≡ follows (sequence l r ∷ st) x y
  follows_sequence x y =
      rw (within_suc (total st) (total (l ∷ st)) x, sym (second_last x), sym (top_first r (l ∷ st) y))
      (kept_or (last (mark (total st) l) x && first (mark (total (l ∷ st)) r) y) (follows (r ∷ (l ∷ st)) x y) ∙ simp or_assoc)

  firsts_choice : (y : ℕ) → firsts (r ∷ (l ∷ st)) y ≡ firsts (choice l r ∷ st) y
  firsts_choice y = simp or_assoc

  lasts_choice : (x : ℕ) → lasts (r ∷ (l ∷ st)) x ≡ lasts (choice l r ∷ st) x
  lasts_choice x = simp or_assoc

  follows_choice : (x y : ℕ) → follows (r ∷ (l ∷ st)) x y ≡ follows (choice l r ∷ st) x y
  follows_choice x y = simp or_assoc

-- `*` and `+` let the firsts of a model follow its lasts
follows_star : (m : Model) (st : List Model) (x y : ℕ)
    → cond (across (m ∷ st) (total st + 1) (total (m ∷ st) + 1) (total st) (total (m ∷ st)) (suc x) y) true (follows (m ∷ st) x y)
    ≡ follows (star m ∷ st) x y
follows_star m st x y =
    rw (within_suc (total st) (total (m ∷ st)) x, sym (top_last m st x), sym (top_first m st y))
    (kept_or (last (mark (total st) m) x && first (mark (total st) m) y) (follows (m ∷ st) x y) ∙ simp or_assoc)

-- the same by position
module _ (l r : Model) (st : List Model) where
  pub coming_sequence : (i y : ℕ)
      → cond (eqb i 0 && (not (nullable l) && within (total (l ∷ st)) (total (r ∷ (l ∷ st))) y)) false
      (cond (across (r ∷ (l ∷ st)) (total st + 1) (total (l ∷ st) + 1) (total (l ∷ st)) (total (r ∷ (l ∷ st))) i y) true
      (coming (r ∷ (l ∷ st)) i y))
      ≡ coming (sequence l r ∷ st) i y
  coming_sequence zero y = rw (and-false (within (total st + 1) (total (l ∷ st) + 1) 0)) (firsts_sequence l r st y)
  coming_sequence (suc x) y = rw (eqb-suc-zero x) (follows_sequence l r st x y)

  pub ending_sequence : (i : ℕ)
      → cond (not (nullable r) && within (total st + 1) (total (l ∷ st) + 1) i) false (ending (r ∷ (l ∷ st)) i)
      ≡ ending (sequence l r ∷ st) i
  ending_sequence zero = rw (low_within (total st + 1) (total (l ∷ st) + 1) 0 (omega arith), and-false (not (nullable r))) refl
  ending_sequence (suc x) = rw (within_suc (total st) (total (l ∷ st)) x) (lasts_sequence l r st x)

  pub coming_choice : (i y : ℕ) → coming (r ∷ (l ∷ st)) i y ≡ coming (choice l r ∷ st) i y
  coming_choice zero y = firsts_choice l r st y
  coming_choice (suc x) y = follows_choice l r st x y

  pub ending_choice : (i : ℕ) → ending (r ∷ (l ∷ st)) i ≡ ending (choice l r ∷ st) i
  ending_choice zero = refl
  ending_choice (suc x) = lasts_choice l r st x

pub coming_star : (m : Model) (st : List Model) (i y : ℕ)
    → cond (across (m ∷ st) (total st + 1) (total (m ∷ st) + 1) (total st) (total (m ∷ st)) i y) true (coming (m ∷ st) i y)
    ≡ coming (star m ∷ st) i y
coming_star m st zero y = rw (and-false (within (total st + 1) (total (m ∷ st) + 1) 0)) refl
coming_star m st (suc x) y = follows_star m st x y

-- `+` as `*`, and `?` as the model alone
pub coming_plus : (m : Model) (st : List Model) (i y : ℕ) → coming (star m ∷ st) i y ≡ coming (plus m ∷ st) i y
coming_plus m st zero y = refl
coming_plus m st (suc x) y = refl

pub coming_maybe : (m : Model) (st : List Model) (i y : ℕ) → coming (m ∷ st) i y ≡ coming (maybe m ∷ st) i y
coming_maybe m st zero y = refl
coming_maybe m st (suc x) y = refl

pub ending_star : (m : Model) (st : List Model) (i : ℕ) → ending (m ∷ st) i ≡ ending (star m ∷ st) i
ending_star m st zero = refl
ending_star m st (suc x) = refl

pub ending_maybe : (m : Model) (st : List Model) (i : ℕ) → ending (m ∷ st) i ≡ ending (maybe m ∷ st) i
ending_maybe m st zero = refl
ending_maybe m st (suc x) = refl

pub ending_plus : (m : Model) (st : List Model) (i : ℕ) → ending (m ∷ st) i ≡ ending (plus m ∷ st) i
ending_plus m st zero = refl
ending_plus m st (suc x) = refl

-- a symbol is first and last; `e` changes nothing
one_more : (n y : ℕ) (b : Bool) → cond (within n (n + 1) y) true b ≡ (b || eqb n y)
one_more n y b =
    by_cases (ℕ_discrete n y)
    (λ e. simp (in_within n (n + 1) y (omega arith) (omega arith), eq-eqb n y e, or-true))
    (λ d. simp (else d, ne_eqb n y d, or-false))
  where
    else : n ≢ y → within n (n + 1) y ≡ false
    else d = wherever n (n + 1) y (λ h. low_within n (n + 1) y h) (λ h k. absurd (omega arith)) (λ h. high_within n (n + 1) y h)

module _ (st : List Model) where
  pub coming_symbol : (a i y : ℕ)
      → cond (eqb i 0 && within (total st) (total st + 1) y) true (coming st i y) ≡ coming (symbol a ∷ st) i y
  coming_symbol a zero y = one_more (total st) y (firsts st y)
  coming_symbol a (suc x) y = rw (eqb-suc-zero x) (sym (or-false (follows st x y)))

  pub ending_symbol : (a i : ℕ) → cond (within (total st + 1) (total st + 1 + 1) i) true (ending st i) ≡ ending (symbol a ∷ st) i
  ending_symbol a zero = rw (low_within (total st + 1) (total st + 1 + 1) 0 (omega arith)) refl
  ending_symbol a (suc x) = rw (within_suc (total st) (total st + 1) x) (one_more (total st) x (lasts st x))

  pub coming_empty : (i y : ℕ) → coming st i y ≡ coming (empty ∷ st) i y
  coming_empty zero y = sym (or-false (firsts st y))
  coming_empty (suc x) y = sym (or-false (follows st x y))

  pub ending_empty : (i : ℕ) → ending st i ≡ ending (empty ∷ st) i
  ending_empty zero = refl
  ending_empty (suc x) = sym (or-false (lasts st x))
