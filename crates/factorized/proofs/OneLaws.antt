-- The one number with a property, found by a search. Assumes nothing.
use Prim.Native.Nat.{ℕ, ◌+◌, ◌≤◌}
use mathlib.Core.Path.{◌≡◌}
use mathlib.Core.Bool.{false}
use mathlib.Core.Logic.{by_cases}
use native.Mathlib.Decide.{ℕ_discrete}
use native.Mathlib.Omega.{arith}
use Rattle.std.specs.Prelude.{Option, Some, is_some, unwrap_or}
use Rattle.factorized.specs.Work.{Single, none, one}

module _ {P : ℕ → Type 0} where
  pub single_more : {k : ℕ} {found : Option ℕ} → Single P k found → ¬ P k → Single P (k + 1) found
  single_more {k} (none h) d = none (λ q i. by_cases (ℕ_discrete q k) (λ e. rw e d) (λ e. h q (omega arith)))
  single_more {k} (one {l} i p h) d =
      one {l = l} (omega arith) p (λ q l x. by_cases (ℕ_discrete q k) (λ e. absurd (d (rw e at x))) (λ e. h q (omega arith) x))

  pub single_found : {k : ℕ} {found : Option ℕ} → Single P k found → is_some found ≡ false → P k → Single P (k + 1) (Some k)
  single_found {k} (none h) e p =
      one {l = k} (omega arith) p (λ q l x. by_cases (ℕ_discrete q k) (λ e. e) (λ e. absurd (h q (omega arith) x)))
  single_found (one m x h) e p = cc

  -- the number, or k where none has the property, is at most k
  pub single_most : {k : ℕ} {found : Option ℕ} → Single P k found → unwrap_or found k ≤ k
  single_most (none h) = omega arith
  single_most (one l x h) = omega arith
