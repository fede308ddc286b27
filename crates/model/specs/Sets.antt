-- Which symbols can begin a word of a model, end one and follow one another in one, as tests that compute. A table is built from these
-- sets of a model's places; `comes_exactly` and `ends_exactly` of proofs/Positions say what they are in terms of words.
use Rattle.std.specs.Prelude.{ℕ, zero, suc, Bool, true, false, not, ◌||◌, ◌&&◌, eqb}
use Rattle.model.specs.Model.{Model, symbol, empty, sequence, choice, star, maybe, plus, bears, places, marked}

abbrev pub nullable : Model → Bool
nullable (symbol a) = false
nullable empty = true
nullable (sequence l r) = nullable l && nullable r
nullable (choice l r) = nullable l || nullable r
nullable (star m) = true
nullable (maybe m) = true
nullable (plus m) = nullable m

abbrev pub first : Model → ℕ → Bool
first (symbol a) x = eqb a x
first empty x = false
first (sequence l r) x = first l x || (nullable l && first r x)
first (choice l r) x = first l x || first r x
first (star m) x = first m x
first (maybe m) x = first m x
first (plus m) x = first m x

abbrev pub last : Model → ℕ → Bool
last (symbol a) x = eqb a x
last empty x = false
last (sequence l r) x = (last l x && nullable r) || last r x
last (choice l r) x = last l x || last r x
last (star m) x = last m x
last (maybe m) x = last m x
last (plus m) x = last m x

abbrev pub follow : Model → ℕ → ℕ → Bool
follow (symbol a) x y = false
follow empty x y = false
follow (sequence l r) x y = follow l x y || (follow r x y || (last l x && first r y))
follow (choice l r) x y = follow l x y || follow r x y
follow (star m) x y = follow m x y || (last m x && first m y)
follow (maybe m) x y = follow m x y
follow (plus m) x y = follow m x y || (last m x && first m y)

-- the place y can come next at position i of the model m, and a word may end there
abbrev pub comes : Model → ℕ → ℕ → Bool
comes m zero y = first (marked m) y
comes m (suc x) y = follow (marked m) x y

abbrev pub ends : Model → ℕ → Bool
ends m zero = nullable (marked m)
ends m (suc x) = last (marked m) x

-- a number below n passes a test
abbrev pub some_below : ℕ → (ℕ → Bool) → Bool
some_below zero p = false
some_below (suc n) p = p n || some_below n p

-- two places other than each other with one symbol
abbrev pub alike : Model → ℕ → ℕ → Bool
alike m x y = not (eqb x y) && eqb (bears m x) (bears m y)

-- at some position two like places can come next
abbrev pub ambiguous : Model → Bool
ambiguous m = some_below (suc (places m))
    (λ i. some_below (places m) (λ x. some_below (places m) (λ y. alike m x y && (comes m i x && comes m i y))))
