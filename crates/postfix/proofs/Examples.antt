-- The definitions computed on small fields. Assumes nothing.
use mathlib.Core.Path.{◌≡◌, refl}
use mathlib.Core.List.{[], ◌∷◌}
use mathlib.Core.Option.{none, some}
use Rattle.paper.specs.Limits.{limits}
use Rattle.lines.specs.Number.{digit, more, number}
use Rattle.model.specs.Model.{symbol, empty, sequence, choice, plus}
use Rattle.postfix.specs.Token.{parts, first_part, sign, symbol_token, sign_of, or_else, token_of, one, token_at}
use Rattle.postfix.specs.Field.{ahead, tokens_of, written, model_in}
use Rattle.postfix.specs.declared.Reading.TheVariants as read

-- the signs of `0 12 , e |+` must be parted, as those of `0 12 , e | +` are; 12 is none of 12 symbols
glued : model_in limits 13 (48 ∷ 32 ∷ 49 ∷ 50 ∷ 32 ∷ 44 ∷ 32 ∷ 101 ∷ 32 ∷ 124 ∷ 43 ∷ []) ≡ none
unfolding model_in written tokens_of ahead token_of or_else sign_of sign symbol_token parts number more digit
glued = refl

model : model_in limits 13 (48 ∷ 32 ∷ 49 ∷ 50 ∷ 32 ∷ 44 ∷ 32 ∷ 101 ∷ 32 ∷ 124 ∷ 32 ∷ 43 ∷ [])
    ≡ some (plus (choice (sequence (symbol 0) (symbol 12)) empty))
unfolding model_in written tokens_of ahead token_of or_else sign_of sign symbol_token parts number more digit
model = refl

beyond : model_in limits 12 (48 ∷ 32 ∷ 49 ∷ 50 ∷ 32 ∷ 44 ∷ []) ≡ none
unfolding model_in written tokens_of ahead token_of or_else sign_of sign symbol_token parts number more digit
beyond = refl

-- no field is empty, and none ends in a space or leaves two models
nothing : model_in limits 13 [] ≡ none
unfolding model_in written tokens_of ahead token_of or_else sign_of sign symbol_token parts number more digit
nothing = refl

trailing : model_in limits 13 (101 ∷ 32 ∷ []) ≡ none
unfolding model_in written tokens_of ahead token_of or_else sign_of sign symbol_token parts number more digit
trailing = refl

two : model_in limits 13 (101 ∷ 32 ∷ 101 ∷ []) ≡ none
unfolding model_in written tokens_of ahead token_of or_else sign_of sign symbol_token parts number more digit
two = refl

-- behind `e` and a space a bad token stands, and behind that none
bad : token_at 13 (101 ∷ 32 ∷ []) 2 ≡ read.Bad
unfolding token_at one first_part token_of or_else sign_of sign symbol_token parts number more digit
bad = refl

over : token_at 13 (101 ∷ 32 ∷ []) 3 ≡ read.None
unfolding token_at
over = refl
