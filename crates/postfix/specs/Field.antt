-- The model that a field writes: at least one token, each parted from the next by one space, in postfix.
use Rattle.std.specs.Prelude.{ℕ, cond, List, [], ◌∷◌, length, leb}
use Rattle.std.proofs.Math.Option.{Option, none, some}
use Rattle.paper.specs.Limits.{Limits}
use Rattle.model.specs.Model.{Model, places}
use Rattle.model.specs.Postfix.{parse}
use Rattle.model.specs.declared.Token.{Token}
use Rattle.postfix.specs.Token.{parts, token_of}
use Rattle.std.specs.Prelude as std
use Rattle.std.specs.Prelude.{Some, None}

-- all tokens, if each part is one
unfoldable pub ahead : Option Token → Option (List Token) → Option (List Token)
ahead none o = none
ahead (some t) none = none
ahead (some t) (some ts) = some (t ∷ ts)

unfoldable pub tokens_of : ℕ → List (List ℕ) → Option (List Token)
tokens_of n [] = some []
tokens_of n (p ∷ ps) = ahead (token_of n p) (tokens_of n ps)

-- what tokens write, if they are not too many
unfoldable pub written : Limits → Option (List Token) → Option Model
written L none = none
written L (some ts) = cond (leb (length ts) L.tokens) (parse ts) none

-- the model that a field writes over n symbols
unfoldable pub model_in : Limits → ℕ → List ℕ → Option Model
model_in L n f = written L (tokens_of n (parts f))

-- what the model reader answers: the number of places of the model, if there is one
unfoldable pub content_of : Option Model → std.Option ℕ
content_of none = None
content_of (some m) = Some (places m)
