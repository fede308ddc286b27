-- One bit of one word: read by a shift, put by a sum, taken out by a difference. Assumes nothing.
use Prim.Native.Nat.{ℕ, suc, zero, ◌+◌, ◌-◌, ◌*◌, ◌/◌, ◌%◌, ◌^◌, ◌≤◌, ◌<◌}
use mathlib.Core.Path.{◌≡◌, refl, sym, ap, ◌∙◌}
use mathlib.Core.Logic.{◌≢◌}
use native.Mathlib.Nat.{pow-suc, div-div-eq-div-mul, mul_comm, one-mul, div-one, le_of_suc-le-suc}
use native.Mathlib.Omega.{arith}
use lib.Dec.{lit<}
use lib.Pow.{shl_exact}
use Rattle.bits.specs.Bits.{word, bit_of}

-- w' is w with bit k made v
pub record WordMade (w k v w' : ℕ) : Type 0 where
  pub here : bit_of w' k ≡ v
  pub others : (j : ℕ) → j ≢ k → bit_of w' j ≡ bit_of w j

pub bit_shifted : (w k : ℕ) → w / 2 ^ k % 2 ≡ bit_of w k
unfolding bit_of
bit_shifted w zero = ap (λ (x : ℕ). x % 2) (div-one w)
bit_shifted w (suc k) =
    ap (λ (x : ℕ). w / x % 2) (pow-suc 2 k ∙ mul_comm (2 ^ k) 2) ∙ ap (λ (x : ℕ). x % 2) (sym (div-div-eq-div-mul w 2 (2 ^ k))) ∙ bit_shifted (w / 2) k

-- 1 shifted to bit k of a word
pub one_shifted : (k : ℕ) → k < word → 1 * 2 ^ k % 65536 ≡ 2 ^ k
one_shifted k h = shl_exact {a = 1} 1 k word (lit< tt) (omega arith) ∙ one-mul (2 ^ k)

pub bit_small : (w k : ℕ) → bit_of w k < 2
unfolding bit_of
bit_small w zero = omega arith
bit_small w (suc k) = bit_small (w / 2) k

pub bit_zero : (k : ℕ) → bit_of 0 k ≡ 0
unfolding bit_of
bit_zero zero = refl
bit_zero (suc k) = bit_zero k

-- a power of two doubled, added or taken away, halves as it should
sum_half : (w k : ℕ) → (w + 2 ^ suc k) / 2 ≡ w / 2 + 2 ^ k
sum_half w k = omega (arith, pow-suc 2 k)

less_half : (w k : ℕ) → (w - 2 ^ suc k) / 2 ≡ w / 2 - 2 ^ k
less_half w k = omega (arith, pow-suc 2 k)

sum_here : (w k : ℕ) → bit_of w k ≡ 0 → bit_of (w + 2 ^ k) k ≡ 1
unfolding bit_of
sum_here w zero h = omega arith
sum_here w (suc k) h = ap (λ (x : ℕ). bit_of x k) (sum_half w k) ∙ sum_here (w / 2) k h

sum_others : (w k : ℕ) → bit_of w k ≡ 0 → (j : ℕ) → j ≢ k → bit_of (w + 2 ^ k) j ≡ bit_of w j
unfolding bit_of
sum_others w zero h zero n = absurd (n refl)
sum_others w zero h (suc j) n = let e : (w + 1) / 2 ≡ w / 2 = omega arith in ap (λ (x : ℕ). bit_of x j) e
sum_others w (suc k) h zero n = omega (arith, pow-suc 2 k)
sum_others w (suc k) h (suc j) n = ap (λ (x : ℕ). bit_of x j) (sum_half w k) ∙ sum_others (w / 2) k h j (λ q. n (ap suc q))

pub sum_fits : (n w k : ℕ) → k < n → w < 2 ^ n → bit_of w k ≡ 0 → w + 2 ^ k < 2 ^ n
unfolding bit_of
sum_fits zero w k l h z = absurd (omega arith)
sum_fits (suc n) w zero l h z = omega (arith, pow-suc 2 n)
sum_fits (suc n) w (suc k) l h z =
    let r = sum_fits n (w / 2) k (le_of_suc-le-suc l) (omega (arith, pow-suc 2 n)) z in
    omega (arith, pow-suc 2 n, pow-suc 2 k)

pub less_fits : (w k : ℕ) → bit_of w k ≡ 1 → 2 ^ k ≤ w
unfolding bit_of
less_fits w zero z = omega arith
less_fits w (suc k) z = let r = less_fits (w / 2) k z in omega (arith, pow-suc 2 k)

less_here : (w k : ℕ) → bit_of w k ≡ 1 → bit_of (w - 2 ^ k) k ≡ 0
unfolding bit_of
less_here w zero h = omega arith
less_here w (suc k) h = ap (λ (x : ℕ). bit_of x k) (less_half w k) ∙ less_here (w / 2) k h

less_others : (w k : ℕ) → bit_of w k ≡ 1 → (j : ℕ) → j ≢ k → bit_of (w - 2 ^ k) j ≡ bit_of w j
unfolding bit_of
less_others w zero h zero n = absurd (n refl)
less_others w zero h (suc j) n = let e : (w - 1) / 2 ≡ w / 2 = omega arith in ap (λ (x : ℕ). bit_of x j) e
less_others w (suc k) h zero n = let r = less_fits (w / 2) k h in omega (arith, pow-suc 2 k)
less_others w (suc k) h (suc j) n = ap (λ (x : ℕ). bit_of x j) (less_half w k) ∙ less_others (w / 2) k h j (λ q. n (ap suc q))

pub sum_made : (w k : ℕ) → bit_of w k ≡ 0 → WordMade w k 1 (w + 2 ^ k)
sum_made w k h = record { here = sum_here w k h; others = sum_others w k h }

pub less_made : (w k : ℕ) → bit_of w k ≡ 1 → WordMade w k 0 (w - 2 ^ k)
less_made w k h = record { here = less_here w k h; others = less_others w k h }

-- a word of n bits is known by its bits
pub word_unique : (n w v : ℕ) → w < 2 ^ n → v < 2 ^ n → ((k : ℕ) → k < n → bit_of w k ≡ bit_of v k) → w ≡ v
unfolding bit_of
word_unique zero w v h l e = omega arith
word_unique (suc n) w v h l e =
    let q = word_unique n (w / 2) (v / 2) (omega (arith, pow-suc 2 n)) (omega (arith, pow-suc 2 n)) (λ k x. e (suc k) (omega arith)) in
    let z = e 0 (omega arith) in
    omega arith
