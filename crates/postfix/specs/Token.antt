-- The tokens of a field: what each part between spaces is, and what reading at a place finds.
use Rattle.std.specs.Prelude.{ℕ, suc, ◌+◌, cond, ◌&&◌, List, [], ◌∷◌, length, drop, ltb, eqb}
use Rattle.std.proofs.Math.Option.{Option, none, some}
use Rattle.lines.specs.Number.{number}
use Rattle.lines.specs.Lines.{onto}
use Rattle.lines.specs.Number.{Number}
use Rattle.std.specs.Prelude.{Ok, Err}
use Rattle.model.specs.declared.Token.{Token}
use Rattle.model.specs.declared.Token.TheVariants.{Symbol, Empty, Comma, Bar, Star, Query, Plus}
use Rattle.postfix.specs.declared.Reading.{Reading}
use Rattle.postfix.specs.declared.Reading.TheVariants as read

-- the byte that parts two tokens
abbrev pub space : ℕ
space = 32

-- the parts of a field between spaces: one more than it has spaces
unfoldable pub parts : List ℕ → List (List ℕ)
parts [] = [] ∷ []
parts (b ∷ l) = cond (eqb b space) ([] ∷ parts l) (onto b (parts l))

-- the token that a byte alone is: `e`, `,`, `|`, `*`, `?` or `+`
unfoldable pub sign : ℕ → Option Token
sign b =
    cond (eqb b 101) (some Empty)
    (cond (eqb b 44) (some Comma)
    (cond (eqb b 124) (some Bar)
    (cond (eqb b 42) (some Star)
    (cond (eqb b 63) (some Query)
    (cond (eqb b 43) (some Plus) none)))))

-- a number that is all of a part of k bytes is the token of a symbol, if it is one of n symbols
unfoldable pub symbol_token : ℕ → ℕ → Number → Option Token
symbol_token n k (Ok (a, i)) = cond (eqb i k && ltb a n) (some (Symbol a)) none
symbol_token n k (Err i) = none

-- a part of one byte may be a sign
unfoldable pub sign_of : List ℕ → Option Token
sign_of [] = none
sign_of (b ∷ []) = sign b
sign_of (b ∷ (c ∷ l)) = none

unfoldable pub or_else : Option Token → Option Token → Option Token
or_else (some t) o = some t
or_else none o = o

-- the token that a part is, over n symbols: a sign, or a symbol's number
unfoldable pub token_of : ℕ → List ℕ → Option Token
token_of n p = or_else (sign_of p) (symbol_token n (length p) (number 0 p))

-- the first of parts
unfoldable pub first_part : List (List ℕ) → List ℕ
first_part [] = []
first_part (p ∷ ps) = p

-- a token and where the next begins, or something bad
unfoldable pub one : Option Token → ℕ → Reading
one (some t) i = read.One t i
one none i = read.Bad

-- what stands at i of a field: the token that the first part from there is, and behind it and a space, or behind the end, the place of
-- the next; none behind the end; or something bad
unfoldable pub token_at : ℕ → List ℕ → ℕ → Reading
token_at n f i =
    let p = first_part (parts (drop i f)) in
    cond (ltb (length f) i) read.None (one (token_of n p) (i + suc (length p)))
