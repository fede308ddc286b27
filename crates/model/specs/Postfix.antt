-- A model written in postfix: tokens read in order over a stack of models, of which exactly one must be left.
use Rattle.std.proofs.Math.Option.{Option, none, some}
use Rattle.std.specs.Prelude.{List, [], ◌∷◌}
use Rattle.model.specs.Model.{Model, symbol, empty, sequence, choice, star, maybe, plus}
use Rattle.model.specs.declared.Token.{Token}
use Rattle.model.specs.declared.Token.TheVariants.{Symbol, Empty, Comma, Bar, Star, Query, Plus}

-- two models, the last two on the stack, become one; or the last becomes another. The stack's top stands first.
abbrev pub two : (Model → Model → Model) → List Model → Option (List Model)
two f [] = none
two f (r ∷ []) = none
two f (r ∷ (l ∷ st)) = some (f l r ∷ st)

abbrev pub last : (Model → Model) → List Model → Option (List Model)
last f [] = none
last f (m ∷ st) = some (f m ∷ st)

-- the stack after one more token, if it finds its models
abbrev pub push : Token → List Model → Option (List Model)
push (Symbol a) st = some (symbol a ∷ st)
push Empty st = some (empty ∷ st)
push Comma st = two sequence st
push Bar st = two choice st
push Star st = last star st
push Query st = last maybe st
push Plus st = last plus st

-- exactly one model is left
abbrev pub single : List Model → Option Model
single [] = none
single (m ∷ []) = some m
single (m ∷ (n ∷ st)) = none

abbrev pub then : Option (List Model) → (List Model → Option Model) → Option Model
then none k = none
then (some st) k = k st

-- the rest of the tokens, read over a stack
abbrev pub read : List Token → List Model → Option Model
read [] st = single st
read (t ∷ ts) st = then (push t st) (read ts)

-- the model that tokens write, if they write one
abbrev pub parse : List Token → Option Model
parse ts = read ts []
