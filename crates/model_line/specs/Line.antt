-- What a line of a model text says: the header, or a symbol and its model; or it has neither shape.
use Rattle.std.specs.Prelude.{ℕ, ◌+◌, ◌-◌, cond, ◌&&◌, List, [], ◌∷◌, ◌++◌, length, take, drop, eqb, Some, None, Ok, Err}
use Rattle.std.specs.Prelude as std
use Rattle.std.proofs.Math.Option.{Option, none, some}
use Rattle.paper.specs.Limits.{Limits, at}
use Rattle.lines.specs.Lines.{tab, lf}
use Rattle.lines.specs.Fields.{Fields, field, fields, entry}
use Rattle.lines.specs.Number.{Number}
use Rattle.model.specs.Model.{Model, places}
use Rattle.postfix.specs.Field.{model_in}
use Rattle.model_line.specs.declared.Line.{Line}
use Rattle.model_line.specs.declared.Line.TheVariants as line

pub data Said : Type 0 where
  head : (symbols start : ℕ) → Said
  content : (symbol : ℕ) → Model → Said
  misshapen : Said

-- the symbol of an M line and where its token field begins, if a line has one
abbrev pub Cut : Type 0
Cut = std.Option (ℕ × ℕ)

-- the letters
abbrev pub letter_d : ℕ
letter_d = 68

abbrev pub letter_m : ℕ
letter_m = 77

-- a tab behind the number of an M line: there the token field begins
unfoldable pub field_behind : List ℕ → Number → Cut
field_behind x (Ok (a, i)) = cond (eqb (at x i) tab) (Some (a, i + 1)) None
field_behind x (Err i) = None

-- the symbol of an M line that ends in LF, and where its token field begins
unfoldable pub split_of : List ℕ → Cut
split_of x = cond (eqb (at x 0) letter_m && eqb (at x (length x - 1)) lf) (field_behind x (field x 1)) None

-- the token field of a line, from i on up to its LF
unfoldable pub token_field : List ℕ → ℕ → List ℕ
token_field x i = take (length x - 1 - i) (drop i x)

unfoldable pub head_said_of : Fields → Said
head_said_of (Ok (y, s, c)) = head y s
head_said_of (Err i) = misshapen

unfoldable pub content_said : ℕ → Option Model → Said
content_said a none = misshapen
content_said a (some m) = content a m

unfoldable pub model_said : Limits → ℕ → List ℕ → Cut → Said
model_said L n x (Some (a, i)) = content_said a (model_in L n (token_field x i))
model_said L n x None = misshapen

-- what a line says over n symbols
unfoldable pub says : Limits → ℕ → List ℕ → Said
says L n x = cond (eqb (at x 0) letter_d) (head_said_of (fields 2 x)) (model_said L n x (split_of x))

-- `M¦symbol¦tokens`: the line of the symbol a and the token field f
unfoldable pub model_line_of : ℕ → List ℕ → List ℕ
model_line_of a f = letter_m ∷ (entry a ++ (tab ∷ (f ++ (lf ∷ []))))

-- what the line reader answers
unfoldable pub line_of : Said → std.Option Line
line_of (head y s) = Some (line.Head y s)
line_of (content a m) = Some (line.Model a (places m))
line_of misshapen = None
