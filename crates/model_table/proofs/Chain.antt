-- Three lists put one behind the other, the second and the third into the rests of the slice. Assumes nothing.
use Prim.Native.Nat.{ℕ, ◌+◌, ◌-◌, ◌≤◌}
use native.Mathlib.Omega.{arith}
use mathlib.Core.Path.{◌≡◌}
use mathlib.Core.List.{List, ◌++◌}
use lib.ListN.{length, take, drop, length-append}
use Rattle.put.specs.Put.{Put, Fit}
use Rattle.put.proofs.PutLaws.{put_then, put_length}
use Rattle.model_table.proofs.Rest.{rest_fit}

module _ (A B C : List ℕ) (o : List ℕ) (room : length (A ++ (B ++ C)) ≤ length o) {a : ℕ} {o₁ : List ℕ} (f : Fit o 0 A a o₁) where
  sizes : length A + (length B + length C) ≤ length o
  sizes = omega (arith, length-append A (B ++ C), length-append B C, room)

  first : Put o 0 A a o₁
  first = f (omega (arith, sizes))

  pub first_long : length o₁ ≡ length o
  first_long = put_length first

  pub first_inside : a ≤ length o₁
  first_inside = omega (arith, first.ends, first_long, sizes)

  module _ {k r : ℕ} {y : List ℕ} (e : k ≡ length o₁ - a) (g : Fit (take k (drop a o₁)) 0 B r y) where
    abbrev o₂ : List ℕ
    o₂ = take a o₁ ++ (y ++ drop k (drop a o₁))

    second : Put o₁ a B (a + r) o₂
    second = rest_fit o₁ a k first_inside e B y r g (omega (arith, first.ends, first_long, sizes))

    pub second_long : length o₂ ≡ length o
    second_long = let z = put_length second in omega (arith, z, first_long)

    pub second_inside : a + r ≤ length o₂
    second_inside = omega (arith, first.ends, second.ends, second_long, sizes)

    module _ {j q : ℕ} {z : List ℕ} (h : j ≡ length o₂ - (a + r)) (i : Fit (take j (drop (a + r) o₂)) 0 C q z) where
      third : Put o₂ (a + r) C (a + r + q) (take (a + r) o₂ ++ (z ++ drop j (drop (a + r) o₂)))
      third = rest_fit o₂ (a + r) j second_inside h C z q i (omega (arith, first.ends, second.ends, second_long, sizes))

      pub third_inside : a + r + q ≤ length o
      third_inside = omega (arith, first.ends, second.ends, third.ends, sizes)

      pub all_put : Put o 0 (A ++ (B ++ C)) (a + r + q) (take (a + r) o₂ ++ (z ++ drop j (drop (a + r) o₂)))
      all_put = put_then first (put_then second third)
