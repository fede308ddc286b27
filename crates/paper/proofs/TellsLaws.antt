-- What a test's answer tells, from the comparison that it ends in. Assumes nothing.
use Prim.Native.Nat.{ℕ, ◌≤◌, ◌<◌}
use mathlib.Core.Path.{◌≡◌}
use mathlib.Core.Logic.{◌≢◌}
use mathlib.Core.Bool.{true, false, not}
use lib.Dec.{eqb, ltb, leb}
use borrow.Author.Tests.{ltb-true, ltb-false, leb-true, leb-false, eqb-true, eqb-false, not-true, not-false}
use native.Mathlib.Omega.{arith}
use Rattle.paper.specs.Told.{Tells}

pub true_not_false : true ≡ false → ⊥
true_not_false t = let z : ◌≡◌ {A = ℕ} 0 1 = cc in omega arith

false_not_true : false ≡ true → ⊥
false_not_true t = let z : ◌≡◌ {A = ℕ} 0 1 = cc in omega arith

module _ {P : Type 0} where
  pub tells_yes : P → Tells true P
  tells_yes p = record { yes = λ t. p; no = λ t. absurd (true_not_false t) }

  pub tells_no : ¬ P → Tells false P
  tells_no n = record { yes = λ t. absurd (false_not_true t); no = λ t. n }

  pub tells_lt : (a b : ℕ) → (a < b → P) → (b ≤ a → ¬ P) → Tells (ltb a b) P
  tells_lt a b y n = record { yes = λ t. y (ltb-true a b t); no = λ t. n (ltb-false a b t) }

  pub tells_le : (a b : ℕ) → (a ≤ b → P) → (b < a → ¬ P) → Tells (leb a b) P
  tells_le a b y n = record { yes = λ t. y (leb-true a b t); no = λ t. n (leb-false a b t) }

  pub tells_eq : (a b : ℕ) → (a ≡ b → P) → (a ≢ b → ¬ P) → Tells (eqb a b) P
  tells_eq a b y n = record { yes = λ t. y (eqb-true a b t); no = λ t. n (eqb-false a b t) }

  pub tells_ne : (a b : ℕ) → (a ≢ b → P) → (a ≡ b → ¬ P) → Tells (not (eqb a b)) P
  tells_ne a b y n = record { yes = λ t. y (eqb-false a b (not-true _ t)); no = λ t. n (eqb-true a b (not-false _ t)) }
