-- A text as lines: each ends behind its LF, and what stands behind the last LF is a line too.
use Rattle.std.specs.Prelude.{ℕ, ◌+◌, ◌≤◌, ◌≡◌, List, [], ◌∷◌, cond, eqb, length, get_or, drop}

-- the byte that ends a line, and the byte in front of each field of one
abbrev pub lf : ℕ
lf = 10

abbrev pub tab : ℕ
tab = 9

-- a byte in front of the first line
abbrev pub onto : ℕ → List (List ℕ) → List (List ℕ)
onto b [] = (b ∷ []) ∷ []
onto b (x ∷ xs) = (b ∷ x) ∷ xs

-- the lines of a text
unfoldable pub lines : List ℕ → List (List ℕ)
lines [] = []
lines (b ∷ l) = cond (eqb b lf) ((b ∷ []) ∷ lines l) (onto b (lines l))

-- where the line that starts at i ends, l being the text from i on
unfoldable pub line_end_of : ℕ → List ℕ → ℕ
line_end_of i [] = i
line_end_of i (b ∷ l) = cond (eqb b lf) (i + 1) (line_end_of (i + 1) l)

-- the line k of a text, counted from 0: empty where there is none
unfoldable pub line_at : List ℕ → ℕ → List ℕ
line_at s k = get_or (lines s) k []

-- the line k of a text starts at r; r is the end of the text where there is no such line
pub record Starts (s : List ℕ) (k r : ℕ) : Type 0 where
  pub inside : r ≤ length s
  pub rest : lines (drop r s) ≡ drop k (lines s)
