-- The definitions computed on small lines. Assumes nothing.
use mathlib.Core.Path.{◌≡◌, refl}
use mathlib.Core.List.{[], ◌∷◌}
use Rattle.paper.specs.Limits.{limits}
use Rattle.lines.specs.Number.{digit, more, number}
use Rattle.lines.specs.Fields.{field, fields, ends}
use Rattle.model.specs.Model.{empty}
use Rattle.postfix.specs.Token.{parts, sign, sign_of, or_else, token_of}
use Rattle.postfix.specs.Field.{ahead, tokens_of, written, model_in}
use Rattle.model_line.specs.Line.{head, content, misshapen, field_behind, split_of, token_field, head_said_of, content_said, model_said, says}

-- D, 3 and 0; M, 2 and `e`; the same without its LF, and without the tab behind its number
header : says limits 0 (68 ∷ 9 ∷ 51 ∷ 9 ∷ 48 ∷ 10 ∷ []) ≡ head 3 0
unfolding says head_said_of fields field ends number more digit
header = refl

model : says limits 3 (77 ∷ 9 ∷ 50 ∷ 9 ∷ 101 ∷ 10 ∷ []) ≡ content 2 empty
unfolding says model_said content_said token_field split_of field_behind field number more digit model_in written tokens_of ahead token_of
    or_else sign_of sign parts
model = refl

unended : says limits 3 (77 ∷ 9 ∷ 50 ∷ 9 ∷ 101 ∷ []) ≡ misshapen
unfolding says model_said split_of
unended = refl

short : says limits 3 (77 ∷ 9 ∷ 50 ∷ 10 ∷ []) ≡ misshapen
unfolding says model_said split_of field_behind field number more digit
short = refl
