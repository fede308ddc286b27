-- How long the lines are. Assumes nothing.
use Prim.Native.Nat.{ℕ, ◌+◌, ◌/◌, ◌≤◌, ◌<◌}
use mathlib.Core.Path.{◌≡◌}
use mathlib.Core.Logic.{by_cases}
use mathlib.Core.List.{List, [], ◌∷◌, ◌++◌}
use native.Mathlib.Omega.{arith}
use native.Mathlib.Decide.{dec_lt}
use lib.ListN.{length, length-append}
use Rattle.lines.specs.Number.{decimal}
use Rattle.lines.specs.Fields.{entry}
use Rattle.lines.specs.Lines.{lf}
use Rattle.lines.proofs.NumberLaws.{decimal_room, decimal_two, length_last}
use Rattle.answers.specs.Lines.{letter_a, refused_line_of, witness_line}

pub length_entry : (a : ℕ) → length (entry a) ≡ 1 + length (decimal a)
unfolding entry
length_entry a = omega arith

-- one number, and what stands behind it
pub length_field : (a : ℕ) (bs : List ℕ) → length (entry a ++ bs) ≡ 1 + length (decimal a) + length bs
length_field a bs = omega (arith, length-append (entry a) bs, length_entry a)

pub witness_size : (n : ℕ) → length (witness_line n) ≡ 9 + length (decimal n)
unfolding witness_line
witness_size n = omega (arith, length_field n (lf ∷ []))

pub leaf_size : (x : ℕ) → length (letter_a ∷ (entry x ++ (lf ∷ []))) ≡ 3 + length (decimal x)
leaf_size x = omega (arith, length_field x (lf ∷ []))

-- a number of at most four digits
pub decimal_four : (n : ℕ) → n < 10000 → length (decimal n) ≤ 4
decimal_four n h = by_cases (dec_lt n 100) (λ a. omega (arith, decimal_two n a))
    (λ a. by_cases (dec_lt (n / 10) 100) (λ b. omega (arith, length_last n (omega arith) (omega arith), decimal_two (n / 10) b))
    (λ b. omega (
      arith,
      length_last n (omega arith) (omega arith),
      length_last (n / 10) (omega arith) (omega arith),
      decimal_two (n / 10 / 10) (omega arith),
    )))

-- an array of 80 bytes has room for each
pub refused_room : (side number place : ℕ) → length (refused_line_of side number place) ≤ 80
unfolding refused_line_of
refused_room side number place =
    let a = length_field side (entry number ++ (entry place ++ (lf ∷ []))) in
    let b = length_field number (entry place ++ (lf ∷ [])) in
    let c = length_field place (lf ∷ []) in
    omega (arith, a, b, c, decimal_room side, decimal_room number, decimal_room place)

pub word_room : (word : List ℕ) (n : ℕ) → length word ≤ 40 → length (word ++ (entry n ++ (lf ∷ []))) ≤ 80
word_room word n h = omega (arith, length-append word (entry n ++ (lf ∷ [])), length_field n (lf ∷ []), decimal_room n)
