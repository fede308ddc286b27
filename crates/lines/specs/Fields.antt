-- A line of a letter, two or three numbers each behind a tab, and LF: what its numbers are, and how it is written.
use Rattle.std.specs.Prelude.{ℕ, ◌+◌, List, [], ◌∷◌, ◌++◌, cond, eqb, length, get_or, drop, Result, Ok, Err}
use Rattle.lines.specs.Number.{number, decimal}
use Rattle.lines.specs.Lines.{tab, lf}
use Rattle.lines.specs.Number.{Number}

-- the numbers of a line, or the first byte that is wrong
abbrev pub Fields : Type 0
Fields = Result (ℕ × ℕ × ℕ) ℕ

-- a tab at i and a number behind it
unfoldable pub field : List ℕ → ℕ → Number
field x i = cond (eqb (get_or x i 0) tab) (number (i + 1) (drop (i + 1) x)) (Err i)

-- go on behind a number, or stop at the byte that is wrong
abbrev pub behind : Number → (ℕ → ℕ → Fields) → Fields
behind (Ok (a, i)) k = k a i
behind (Err i) k = Err i

-- LF at i, and nothing behind it: else the byte behind the LF is wrong, or that at i
unfoldable pub ends : List ℕ → ℕ → Fields → Fields
ends x i f = cond (eqb (get_or x i 0) lf) (cond (eqb (length x) (i + 1)) f (Err (i + 1))) (Err i)

-- the n numbers, 2 or 3, behind the letter of the line x; the third is 0 where there are two
unfoldable pub fields : ℕ → List ℕ → Fields
fields n x =
    behind (field x 1) (λ a i. behind (field x i) (λ b j.
    cond (eqb n 3) (behind (field x j) (λ c k. ends x k (Ok (a, b, c)))) (ends x j (Ok (a, b, 0)))))

-- a number as a field
unfoldable pub entry : ℕ → List ℕ
entry a = tab ∷ decimal a

-- what stands behind the second of n numbers
unfoldable pub last : ℕ → ℕ → List ℕ
last n c = cond (eqb n 3) (entry c ++ (lf ∷ [])) (lf ∷ [])

-- the line of the letter t and n numbers
unfoldable pub letters : ℕ → ℕ → ℕ → ℕ → ℕ → List ℕ
letters t n a b c = t ∷ (entry a ++ (entry b ++ last n c))
