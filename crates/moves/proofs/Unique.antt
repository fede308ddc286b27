-- Two results that a public function allows are equal. Assumes nothing.
use Prim.Native.Nat.{ℕ}
use mathlib.Core.Path.{◌≡◌, refl}
use mathlib.Core.Logic.{by_cases}
use mathlib.Core.List.{List}
use native.Mathlib.Decide.{dec_lt}
use native.Mathlib.Omega.{arith}
use Rattle.std.specs.Prelude.{Option, unwrap_or}
use Rattle.std.proofs.Common.{ap}
use Rattle.joins.proofs.TargetLaws.{target_unique}
use Rattle.pairs.specs.declared.Sizes.{Sizes}
use Rattle.moves.specs.Looked.{FirstLeaf, found, nothing, Stepped, looked, nowhere}

pub leaf_unique : {w : ℕ} {xs : List ℕ} {n a p q : ℕ} → FirstLeaf w xs n a p → FirstLeaf w xs n a q → p ≡ q
leaf_unique {w} {xs} (found {i} l none) (found {i = j} m nope) = by_cases (dec_lt i j) (λ h. absurd (nope i h l))
    (λ h. by_cases (dec_lt j i) (λ k. absurd (none j k m)) (λ k. let e : i ≡ j = omega arith in rw e refl))
leaf_unique (found {i} l none) (nothing nope) = absurd (nope i l)
leaf_unique (nothing none) (found {i} l nope) = absurd (none i l)
leaf_unique (nothing none) (nothing nope) = refl

pub step_unique : {w : ℕ} {xs : List ℕ} {z : Sizes} {ws : List ℕ} {x y p q : ℕ} → Stepped w xs z ws x y p → Stepped w xs z ws x y q → p ≡ q
step_unique {z = z} (looked h f) (looked i g) = ap (λ (o : Option ℕ). unwrap_or o z.receivers) (target_unique f g)
step_unique (looked h f) (nowhere d) = absurd (d h)
step_unique (nowhere d) (looked h f) = absurd (d h)
step_unique (nowhere d) (nowhere e) = refl
