-- Where reading stops: within the text, or just behind its end.
use Prim.Native.Nat.{ℕ, ◌+◌, ◌*◌, ◌≤◌, ◌<◌}
use mathlib.Core.Path.{◌≡◌, ap, ◌∙◌}
use mathlib.Core.List.{List, [], ◌∷◌}
use native.Mathlib.Omega.{arith}
use lib.Dec.{ltb, leb, eqb}
use lib.ListN.{length, get_or, drop, length-drop, length-append}
use borrow.Author.Tests.{eqb-true}
use Rattle.lines.specs.Number.{most_number, digit, more, number, decimal}
use Rattle.lines.specs.Lines.{tab, lf}
use Rattle.lines.specs.Fields.{field, behind, ends, fields}
use Rattle.lines.specs.Number.{Number}
use Rattle.std.specs.Prelude.{Ok, Err}
use Rattle.lines.specs.Fields.{Fields}
use Rattle.lines.proofs.Tests.{split}
use Rattle.lines.proofs.Places.{within}
use Rattle.lines.proofs.NumberLaws.{number_shown, decimal_some}
use Rattle.lines.proofs.FieldLaws.{numbers}

-- where a number's reading stops, found or not
place : Number → ℕ
place (Ok (a, i)) = i
place (Err i) = i

more_place : (v i : ℕ) (l : List ℕ) → place (more v i l) ≤ i + length l
unfolding place more
more_place v i [] = omega arith
more_place v i (b ∷ l) =
    split (ltb (digit b) 10)
    (λ t. split (eqb v 0)
    (λ z. rw (t, z) (omega arith))
    (λ z. split (leb (v * 10 + digit b) most_number)
    (λ g. let ih = more_place (v * 10 + digit b) (i + 1) l in rw (t, z, g) (omega (arith, ih)))
    (λ g. rw (t, z, g) (omega arith))))
    (λ t. rw t (omega arith))

number_place : (i : ℕ) (l : List ℕ) → place (number i l) ≤ i + length l
unfolding place number
number_place i [] = omega arith
number_place i (b ∷ l) =
    split (ltb (digit b) 10) (λ t. let m = more_place (digit b) (i + 1) l in rw t (omega (arith, m))) (λ t. rw t (omega arith))

field_place : (x : List ℕ) (i : ℕ) → i ≤ length x → place (field x i) ≤ length x
unfolding place field
field_place x i h =
    split (eqb (get_or x i 0) tab)
    (λ t.
    let n = eqb-true (get_or x i 0) tab t in
    let w = within x i (omega arith) in
    let m = number_place (i + 1) (drop (i + 1) x) in
    rw t (omega (arith, m, length-drop (i + 1) x)))
    (λ t. rw t h)

-- a number ends behind its digits and within the text, and a wrong byte stands within it or just behind
module _ (s : List ℕ) (at : ℕ) where
  pub number_ends : {v j : ℕ} → number at (drop at s) ≡ Ok (v, j) → (j ≡ at + length (decimal v)) × (j ≤ length s)
  unfolding place
  number_ends {v} {j} e =
      let m = number_shown s at v j e in
      let l = ap length m.2 ∙ length-append (decimal v) (drop j s) in
      let p = number_place at (drop at s) in
      let q = ap place e in (
        omega (arith, l, p, q, m.0, length-drop at s, length-drop j s, decimal_some v),
        omega (arith, l, p, q, m.0, length-drop at s, length-drop j s, decimal_some v),
      )

  pub number_within : {i : ℕ} → at ≤ length s → number at (drop at s) ≡ Err i → i ≤ length s
  unfolding place
  number_within {i} h e = omega (arith, number_place at (drop at s), ap place e, length-drop at s)

-- a wrong byte
abbrev Near : ℕ → Fields → Type 0
Near n (Ok (a, b, c)) = Unit
Near n (Err i) = i ≤ n

ends_near : (x : List ℕ) (i a b c : ℕ) → i ≤ length x → Near (length x) (ends x i (Ok (a, b, c)))
unfolding ends
ends_near x i a b c h =
    split (eqb (get_or x i 0) lf)
    (λ t.
    let z = eqb-true (get_or x i 0) lf t in
    let k : i < length x = within x i (omega arith) in
    let m : i + 1 ≤ length x = omega arith in
    split (eqb (length x) (i + 1)) (λ u. rw (t, u) tt) (λ u. rw (t, u) m))
    (λ t. rw t h)

behind_near : (x : List ℕ) (i : ℕ) (f : ℕ → ℕ → Fields) → i ≤ length x → ((a j : ℕ) → j ≤ length x → Near (length x) (f a j)) → Near (length x) (behind (field x i) f)
unfolding place
behind_near x i f h g =
    let p = field_place x i h in
    numbers (field x i)
    (λ a j e. let q = ap place e in rw e (g a j (omega (arith, p, q))))
    (λ j e. let q = ap place e in rw e (omega (arith, p, q)))

fields_near : (n : ℕ) (x : List ℕ) → 1 ≤ length x → Near (length x) (fields n x)
unfolding fields
fields_near n x h =
    behind_near x 1 _ h (λ a i hi. behind_near x i _ hi (λ b j hj.
    split (eqb n 3)
    (λ t. rw t (behind_near x j _ hj (λ c k hk. ends_near x k a b c hk)))
    (λ t. rw t (ends_near x j a b 0 hj))))

pub wrong_within : (n i : ℕ) (x : List ℕ) → 1 ≤ length x → fields n x ≡ Err i → i ≤ length x
wrong_within n i x h e = rw e at (fields_near n x h)
