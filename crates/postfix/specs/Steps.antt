-- What the readers' helpers answer: the symbol at a place, a token that must end at a place, and what a token does to the stack.
use Rattle.std.specs.Prelude.{ℕ, suc, ◌+◌, cond, List, length, drop, ltb, eqb}
use Rattle.paper.specs.Limits.{at}
use Rattle.lines.specs.Number.{number}
use Rattle.model.specs.declared.Token.{Token}
use Rattle.model.specs.declared.Token.TheVariants.{Symbol, Empty, Comma, Bar, Star, Query, Plus}
use Rattle.postfix.specs.Token.{space, parts, first_part, symbol_token, one}
use Rattle.postfix.specs.declared.Reading.{Reading}
use Rattle.postfix.specs.declared.Reading.TheVariants as read

-- the symbol that the first part from i on is, as a reading
unfoldable pub symbol_at : ℕ → List ℕ → ℕ → Reading
symbol_at n f i =
    let p = first_part (parts (drop i f)) in
    one (symbol_token n (length p) (number 0 p)) (i + suc (length p))

-- the token t that ends at e, if a space stands there or the field ends
unfoldable pub closed : List ℕ → Token → ℕ → Reading
closed f t e = cond (ltb e (length f)) (cond (eqb (at f e) space) (read.One t (e + 1)) read.Bad) (read.One t (e + 1))

-- how many models a token takes from the stack
unfoldable pub takes : Token → ℕ
takes (Symbol a) = 0
takes Empty = 0
takes Comma = 2
takes Bar = 2
takes Star = 1
takes Query = 1
takes Plus = 1

-- how many places a token adds
unfoldable pub adds : Token → ℕ
adds (Symbol a) = 1
adds Empty = 0
adds Comma = 0
adds Bar = 0
adds Star = 0
adds Query = 0
adds Plus = 0
