-- What is written to the rest of a slice that is lent stands in the slice. Assumes nothing.
use Prim.Native.Nat.{ℕ, suc, ◌+◌, ◌-◌, ◌≤◌}
use mathlib.Core.Path.{◌≡◌, refl, sym, ap, ap₂, ◌∙◌}
use mathlib.Core.List.{List, [], ◌∷◌, ◌++◌, append-nil}
use native.Mathlib.Nat.{zero-add, suc-add, add-suc, add-zero}
use native.Mathlib.Omega.{arith}
use lib.ListN.{length, take, drop, set, length-drop, take-append-drop, drop_of_length-le}
use lib.Seq.{sets, sets-eq, take_all, length-take-le}
use Rattle.put.specs.Put.{Put, Fit}

-- numbers that are set behind a front
set_behind : (p l : List ℕ) (i v : ℕ) → set (p ++ l) (length p + i) v ≡ p ++ set l i v
set_behind [] l i v = ap (λ k. set l k v) (zero-add i)
set_behind (x ∷ p) l i v = ap (λ k. set (x ∷ (p ++ l)) k v) (suc-add (length p) i) ∙ ap (λ r. x ∷ r) (set_behind p l i v)

sets_behind : (p l : List ℕ) (i : ℕ) (bs : List ℕ) → sets (p ++ l) (length p + i) bs ≡ p ++ sets l i bs
sets_behind p l i [] = refl
sets_behind p l i (b ∷ bs) =
    ap₂ (λ x k. sets x k bs) (set_behind p l i b) (sym (add-suc (length p) i)) ∙ sets_behind p (set l i b) (suc i) bs

module _ (o : List ℕ) (a k : ℕ) (h : a ≤ length o) (e : k ≡ length o - a) where
  -- the rest from a on is all that is behind a
  rest_is : take k (drop a o) ≡ drop a o
  rest_is = take_all k (drop a o) (omega (arith, length-drop a o))

  pub rest_long : length (take k (drop a o)) ≡ length o - a
  rest_long = ap length rest_is ∙ length-drop a o

  pub rest_put : (bs y : List ℕ) (r : ℕ) → Put (take k (drop a o)) 0 bs r y → Put o a bs (a + r) (take a o ++ (y ++ drop k (drop a o)))
  rest_put bs y r p = record { ends = omega (arith, p.ends); holds = back ∙ put }
    where
      back : take a o ++ (y ++ drop k (drop a o)) ≡ take a o ++ sets (drop a o) 0 bs
      back =
          ap (λ x. take a o ++ x)
          (ap (λ x. y ++ x) (drop_of_length-le (drop a o) {i = k} (omega (arith, length-drop a o))) ∙ append-nil y
          ∙ p.holds ∙ ap (λ x. sets x 0 bs) rest_is)

      put : take a o ++ sets (drop a o) 0 bs ≡ sets o a bs
      put =
          sym (sets_behind (take a o) (drop a o) 0 bs)
          ∙ ap₂ (λ x i. sets x i bs) (take-append-drop a o) (add-zero (length (take a o)) ∙ length-take-le a o h)

  pub rest_fit : (bs y : List ℕ) (r : ℕ) → Fit (take k (drop a o)) 0 bs r y → Fit o a bs (a + r) (take a o ++ (y ++ drop k (drop a o)))
  rest_fit bs y r f l = rest_put bs y r (f (omega (arith, rest_long)))

-- what is put at the front is followed by what was there
pub front_put : {o o' : List ℕ} {r : ℕ} (bs : List ℕ) → length bs ≤ length o → Put o 0 bs r o' → o' ≡ bs ++ drop (length bs) o
front_put {o} bs h p =
    p.holds ∙ sets-eq bs o 0 (omega arith) ∙ ap (λ k. bs ++ drop k o) (zero-add (length bs))
