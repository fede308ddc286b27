-- `first` refuses exactly the first fault, and goes on exactly where there is none. Assumes nothing.
use Prim.Native.Nat.{ℕ, zero, suc, ◌+◌}
use mathlib.Core.Path.{◌≡◌, refl, sym, ap, ◌∙◌}
use mathlib.Core.Logic.{if_pos, if_neg, by_cases, ◌⊎◌, inl, inr}
use native.Mathlib.Decide.{ℕ_discrete}
use native.Mathlib.Omega.{arith}
use Rattle.paper.specs.Told.{Told, refused}
use Rattle.paper.specs.First.{First, Clear, first}

module _ (f : ℕ → ℕ) where
  pub first_clear : (n : ℕ) (z : Told) → Clear f n → first f n z ≡ z
  unfolding first
  first_clear zero z c = refl
  first_clear (suc n) z c = first_clear n _ (λ j h. c j (omega arith)) ∙ if_pos (ℕ_discrete (f n) 0) (c n (omega arith)) _ _

  pub first_fault : (n k i : ℕ) (z : Told) → First f n k i → first f n z ≡ refused k 0 (i + 1)
  unfolding first
  first_fault zero k i z h = absurd (omega arith)
  first_fault (suc n) k i z h = by_cases (ℕ_discrete i n)
      (λ e. first_clear n _ (λ j l. h.before j (omega arith))
      ∙ if_neg (ℕ_discrete (f n) 0) (λ x. h.fault (sym h.here ∙ ap f e ∙ x)) _ _
      ∙ rw (sym e, h.here) refl)
      (λ d. first_fault n k i _ (record { inside = omega arith; here = h.here; fault = h.fault; before = h.before }))

  -- every row of things has a first fault or is clear
  pub first_or_clear : (n : ℕ) → ((k i : ℕ) × First f n k i) ⊎ Clear f n
  first_or_clear zero = inr (λ j h. absurd (omega arith))
  first_or_clear (suc n) = go (first_or_clear n)
    where
      go : ((k i : ℕ) × First f n k i) ⊎ Clear f n → ((k i : ℕ) × First f (suc n) k i) ⊎ Clear f (suc n)
      go (inl (k, i, h)) = inl (k, i, record { inside = omega arith; here = h.here; fault = h.fault; before = h.before })
      go (inr c) = by_cases (ℕ_discrete (f n) 0)
          (λ e. inr (λ j h. by_cases (ℕ_discrete j n) (λ q. rw q e) (λ q. c j (omega arith))))
          (λ d. inl (f n, n, record { inside = omega arith; here = refl; fault = d; before = c }))
