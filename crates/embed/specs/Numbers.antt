-- Which six numbers stand for what is told.
use Rattle.std.specs.Prelude.{ℕ}
use Rattle.paper.specs.Told.{Told, refused, passes, accepted, rejected, included, witness, holds, sizes, written}
use Rattle.embed.specs.declared.Answer.{Answer}

-- a refusal: its number, side and place, and no value
abbrev pub refusal_numbers : ℕ → ℕ → ℕ → Answer
refusal_numbers n s p = record { number = n; side = s; place = p; first = 0; second = 0; third = 0 }

-- nothing is refused: number 0, and three values
abbrev pub value_numbers : ℕ → ℕ → ℕ → Answer
value_numbers a b c = record { number = 0; side = 0; place = 0; first = a; second = b; third = c }

-- accepted is 1, rejected 0; included is 0, and a witness the count of its nodes, which is never 0
abbrev pub numbers : Told → Answer
numbers (refused n s p) = refusal_numbers n s p
numbers passes = value_numbers 0 0 0
numbers accepted = value_numbers 1 0 0
numbers rejected = value_numbers 0 0 0
numbers included = value_numbers 0 0 0
numbers (witness k) = value_numbers k 0 0
numbers (holds y n r) = value_numbers y n r
numbers (sizes y s n) = value_numbers y s n
numbers (written b) = value_numbers b 0 0
