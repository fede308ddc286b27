-- Decimal numbers 0 to 65,535 without leading zeros: what reading one finds, and how one is written.
use Rattle.std.specs.Prelude.{ℕ, zero, suc, ◌+◌, ◌-◌, ◌*◌, ◌/◌, ◌%◌, List, [], ◌∷◌, ◌++◌, cond, ltb, leb, eqb, Result, Ok, Err}

-- what stands where a number should: its value and where it ends, or the first byte that is wrong
abbrev pub Number : Type 0
Number = Result (ℕ × ℕ) ℕ

-- the largest number
abbrev pub most_number : ℕ
most_number = 65535

-- the digit that a byte from 48 to 57 stands for, or 10
unfoldable pub digit : ℕ → ℕ
digit b = cond (ltb b 48) 10 (cond (ltb 57 b) 10 (b - 48))

-- behind digits that make v, the next byte being at i
unfoldable pub more : ℕ → ℕ → List ℕ → Number
more v i [] = Ok (v, i)
more v i (b ∷ l) =
    cond (ltb (digit b) 10)
    (cond (eqb v 0) (Err i) (cond (leb (v * 10 + digit b) most_number) (more (v * 10 + digit b) (i + 1) l) (Err i)))
    (Ok (v, i))

-- what stands in front of l, whose first byte is at i: a number and where it ends, or the first byte that is wrong
unfoldable pub number : ℕ → List ℕ → Number
number i [] = Err i
number i (b ∷ l) = cond (ltb (digit b) 10) (more (digit b) (i + 1) l) (Err i)

-- the digits of n, at most k + 1 of them
unfoldable pub digits : ℕ → ℕ → List ℕ
digits zero n = (n + 48) ∷ []
digits (suc k) n = cond (ltb n 10) ((n + 48) ∷ []) (digits k (n / 10) ++ ((n % 10 + 48) ∷ []))

-- n as it is written, for every n of 64 bits
unfoldable pub decimal : ℕ → List ℕ
decimal n = digits 19 n
