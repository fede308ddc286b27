-- What stands in a list that is built of `each`, `only` and appends. Assumes nothing.
use Prim.Native.Nat.{ℕ, zero, suc, ◌<◌}
use native.Mathlib.Omega.{arith}
use native.Mathlib.Decide.{ℕ_discrete}
use mathlib.Core.Path.{◌≡◌, refl, subst}
use mathlib.Core.Logic.{◌≢◌, ◌⊎◌, inl, inr}
use mathlib.Core.Bool.{Bool, true, false}
use mathlib.Core.List.{List, [], ◌∷◌, ◌++◌}
use lib.ListN.{length, get_or}
use lib.Dec.{T}
use Rattle.table.specs.Rules.{Rule}
use Rattle.compiled.specs.States.{each}
use Rattle.compiled.specs.Rules.{only}

pub data In {A : Type 0} (x : A) : List A → Type 0 where
  here : {l : List A} → In x (x ∷ l)
  there : {y : A} {l : List A} → In x l → In x (y ∷ l)

module _ {A : Type 0} where
  pub in_left : {x : A} {l : List A} (k : List A) → In x l → In x (l ++ k)
  in_left k here = here
  in_left k (there h) = there (in_left k h)

  pub in_right : {x : A} (l : List A) {k : List A} → In x k → In x (l ++ k)
  in_right [] h = h
  in_right (y ∷ l) h = there (in_right l h)

  in_there : {x y : A} {l k : List A} → In x l ⊎ In x k → In x (y ∷ l) ⊎ In x k
  in_there (inl h) = inl (there h)
  in_there (inr h) = inr h

  pub in_append : {x : A} (l k : List A) → In x (l ++ k) → In x l ⊎ In x k
  in_append [] k h = inr h
  in_append (y ∷ l) k here = inl here
  in_append (y ∷ l) k (there h) = in_there (in_append l k h)

  pub in_each : {x : A} (n : ℕ) (f : ℕ → List A) → In x (each n f) → (i : ℕ) × (i < n) × In x (f i)
  unfolding each
  in_each zero f h = elim h [ ]
  in_each {x} (suc n) f h = go (in_append (each n f) (f n) h) (λ k. in_each n f k)
    where
      go : In x (each n f) ⊎ In x (f n) → (In x (each n f) → (i : ℕ) × (i < n) × In x (f i)) → (i : ℕ) × (i < suc n) × In x (f i)
      go (inl k) rec = let r = rec k in (r.0, omega arith, r.2)
      go (inr k) rec = (n, omega arith, k)

  pub each_in : {x : A} (n : ℕ) (f : ℕ → List A) (i : ℕ) → i < n → In x (f i) → In x (each n f)
  unfolding each
  each_in zero f i h k = absurd (omega arith)
  each_in {x} (suc n) f i h k = go (ℕ_discrete i n) (λ d. each_in n f i (omega arith) k)
    where
      go : Dec (i ≡ n) → (i ≢ n → In x (each n f)) → In x (each n f ++ f n)
      go (yes e) r = in_right (each n f) (subst (λ j. In x (f j)) e k)
      go (no d) r = in_left (f n) (r d)

  -- members by index
  pub at_in : (l : List A) (i : ℕ) (d : A) → i < length l → In (get_or l i d) l
  at_in [] i d h = absurd (omega arith)
  at_in (x ∷ l) zero d h = here
  at_in (x ∷ l) (suc i) d h = there (at_in l i d (omega arith))

  pub in_at : {x : A} {l : List A} (d : A) → In x l → (i : ℕ) × (i < length l) × (get_or l i d ≡ x)
  in_at d here = (0, omega arith, refl)
  in_at d (there h) = let r = in_at d h in (suc r.0, omega arith, r.2)

pub in_only : {x y : Rule} (b : Bool) → In x (only b y) → T b × (x ≡ y)
unfolding only
in_only true here = (tt, refl)
in_only true (there h) = elim h [ ]
in_only false h = elim h [ ]

pub only_in : (b : Bool) (x : Rule) → T b → In x (only b x)
unfolding only
only_in true x t = here
only_in false x t = absurd t
