-- The rest of a slice lent: what then stands before and behind. Assumes nothing.
use Prim.Native.Nat.{ℕ, ◌+◌, ◌-◌, ◌≤◌, ◌<◌}
use native.Mathlib.Omega.{arith}
use mathlib.Core.Path.{◌≡◌, sym, ap, ◌∙◌}
use mathlib.Core.List.{List, [], ◌++◌, append-nil}
use lib.ListN.{length, take, drop, length-append, length-drop, get_or-append, drop_of_length-le}
use lib.Seq.{length-take-le, take_all, get_or-take, get_or-drop, get_or-append-add}
use Rattle.paper.specs.Limits.{at}

-- the part of xs from a on became ys in xs'
pub record Behind (a : ℕ) (xs ys xs' : List ℕ) : Type 0 where
  pub size : length xs' ≡ length xs
  pub before : (j : ℕ) → j < a → at xs' j ≡ at xs j
  pub behind : (i : ℕ) → at xs' (a + i) ≡ at ys i

pub lent_behind : (a k : ℕ) (xs ys : List ℕ) → a ≤ length xs → k ≡ length xs - a → length ys ≡ k
    → Behind a xs ys (take a xs ++ (ys ++ drop k (drop a xs)))
lent_behind a k xs ys h e l =
    rw (none, append-nil ys)
    (record {
      size = length-append (take a xs) ys ∙ rw (length-take-le a xs h) (omega arith);
      before = λ j g. get_or-append (take a xs) ys 0 j (rw (length-take-le a xs h) g) ∙ get_or-take a xs j 0 g;
      behind = λ i. ap (λ n. at (take a xs ++ ys) (n + i)) (sym (length-take-le a xs h)) ∙ get_or-append-add (take a xs) ys i 0;
    })
  where
    none : drop k (drop a xs) ≡ []
    none = let g : length (drop a xs) ≤ k = rw length-drop (omega arith) in drop_of_length-le (drop a xs) g

-- what was lent
pub lent_at : (a k : ℕ) (xs : List ℕ) (i : ℕ) → k ≡ length xs - a → at (take k (drop a xs)) i ≡ at xs (a + i)
lent_at a k xs i e = ap (λ l. at l i) (take_all k (drop a xs) (rw length-drop (omega arith))) ∙ get_or-drop a xs i 0

pub lent_length : (a k : ℕ) (xs : List ℕ) → k ≡ length xs - a → length (take k (drop a xs)) ≡ k
lent_length a k xs e = length-take-le k (drop a xs) (rw length-drop (omega arith))
