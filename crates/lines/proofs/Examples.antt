-- The definitions computed on small texts.
use mathlib.Core.Path.{◌≡◌, refl}
use mathlib.Core.List.{[], ◌∷◌}
use Rattle.lines.specs.Number.{digit, more, number, digits, decimal}
use Rattle.lines.specs.Lines.{lines, line_at}
use Rattle.lines.specs.Fields.{field, ends, fields, entry, last, letters}
use Rattle.std.specs.Prelude.{Ok, Err}

-- 65535 is a number, 65536 goes wrong at its last digit, 00 at its second
most : number 0 (54 ∷ 53 ∷ 53 ∷ 51 ∷ 53 ∷ []) ≡ Ok (65535, 5)
unfolding number more digit
most = refl

over : number 0 (54 ∷ 53 ∷ 53 ∷ 51 ∷ 54 ∷ []) ≡ Err 4
unfolding number more digit
over = refl

zeros : number 0 (48 ∷ 48 ∷ []) ≡ Err 1
unfolding number more digit
zeros = refl

-- a line without its LF is a line, and behind the last LF there is none
cut : lines (65 ∷ 10 ∷ 10 ∷ 66 ∷ []) ≡ (65 ∷ 10 ∷ []) ∷ (10 ∷ []) ∷ (66 ∷ []) ∷ []
unfolding lines
cut = refl

none : line_at (65 ∷ 10 ∷ []) 1 ≡ []
unfolding line_at lines
none = refl

-- S, 7, 2, 1 as a line; the same without LF; with a third number where two are asked for
written : letters 83 3 7 2 1 ≡ 83 ∷ 9 ∷ 55 ∷ 9 ∷ 50 ∷ 9 ∷ 49 ∷ 10 ∷ []
unfolding letters last entry decimal digits
written = refl

short : fields 3 (83 ∷ 9 ∷ 55 ∷ 9 ∷ 50 ∷ 9 ∷ 49 ∷ []) ≡ Err 7
unfolding fields field ends number more digit
short = refl

third : fields 2 (83 ∷ 9 ∷ 55 ∷ 9 ∷ 50 ∷ 9 ∷ 49 ∷ 10 ∷ []) ≡ Err 5
unfolding fields field ends number more digit
third = refl
