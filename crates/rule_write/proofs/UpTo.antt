-- The list of the first n values of a function: its length, its elements and its fronts. Assumes nothing.
use Prim.Native.Nat.{ℕ, zero, suc, ◌≤◌, ◌<◌}
use mathlib.Core.Path.{◌≡◌, refl, sym, ap, ◌∙◌}
use mathlib.Core.Logic.{by_cases}
use mathlib.Core.List.{List, [], ◌∷◌, ◌++◌}
use native.Mathlib.Decide.{ℕ_discrete}
use native.Mathlib.Omega.{arith}
use lib.ListN.{length, get_or, take, length-append, get_or-append}
use lib.Seq.{take_all, take-append-le, get_or_at}

unfoldable pub up_to : {A : Type 0} → (ℕ → A) → ℕ → List A
up_to f zero = []
up_to f (suc n) = up_to f n ++ (f n ∷ [])

module _ {A : Type 0} (f : ℕ → A) where
  pub length_up_to : (n : ℕ) → length (up_to f n) ≡ n
  unfolding up_to
  length_up_to zero = refl
  length_up_to (suc n) = length-append (up_to f n) (f n ∷ []) ∙ omega (arith, length_up_to n)

  pub get_d_up_to : (n i : ℕ) (d : A) → i < n → get_or (up_to f n) i d ≡ f i
  unfolding up_to
  get_d_up_to zero i d h = absurd (omega arith)
  get_d_up_to (suc n) i d h = by_cases (ℕ_discrete i n)
      (λ e. get_or_at (up_to f n) (f n) [] d i (length_up_to n ∙ sym e) ∙ ap f (sym e))
      (λ e. get_or-append (up_to f n) (f n ∷ []) d i (omega (arith, length_up_to n)) ∙ get_d_up_to n i d (omega arith))

  pub take_up_to : (n k : ℕ) → k ≤ n → take k (up_to f n) ≡ up_to f k
  unfolding up_to
  take_up_to zero k h = let z : k ≡ 0 = omega arith in rw z
  take_up_to (suc n) k h = by_cases (ℕ_discrete k (suc n))
      (λ e. take_all k (up_to f (suc n)) (omega (arith, length_up_to (suc n))) ∙ ap (up_to f) (sym e))
      (λ e. take-append-le k (up_to f n) (f n ∷ []) (omega (arith, length_up_to n)) ∙ take_up_to n k (omega arith))
