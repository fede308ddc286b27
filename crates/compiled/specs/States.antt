-- The states of the models' table, in their order, with their marks.
use Rattle.std.specs.Prelude.{ℕ, zero, suc, Bool, false, cond, ◌&&◌, List, [], ◌∷◌, ◌++◌, map, get_or, eqb}
use Rattle.table.specs.Rules.{mark_for, left_sort, right_sort}
use Rattle.model.specs.Model.{Model, bears, places}
use Rattle.model.specs.Documents.{Line}
use Rattle.model.specs.Sets.{comes, ends}

-- f 0, f 1, .. one behind the other, n of them
unfoldable pub each : {A : Type 0} → ℕ → (ℕ → List A) → List A
each zero f = []
each (suc n) f = each n f ++ f n

-- a state: the element of a symbol; or a position in the model of a symbol, of which 0 is its initial state and y + 1 its place y
pub data State : Type 0 where
  element : (symbol : ℕ) → State
  inside : (symbol : ℕ) (model : Model) (position : ℕ) → State

-- the states of a line: an initial state, and one state for each place, left to right
unfoldable pub insides : Line → List State
insides ln = each (suc (places ln.model)) (λ i. inside ln.of ln.model i ∷ [])

unfoldable pub all_insides : List Line → List State
all_insides [] = []
all_insides (ln ∷ ls) = insides ln ++ all_insides ls

-- the states of n symbols and the lines of their models: the elements, then those of each line in order
unfoldable pub states : ℕ → List Line → List State
states n ls = each n (λ a. element a ∷ []) ++ all_insides ls

-- elements have sort 2, and only the start is final; the others have sort 1
unfoldable pub mark_of : ℕ → State → ℕ
mark_of start (element a) = mark_for right_sort (cond (eqb a start) 1 0)
mark_of start (inside a m i) = mark_for left_sort 0

unfoldable pub marks : ℕ → ℕ → List Line → List ℕ
marks start n ls = map (mark_of start) (states n ls)

-- state q of these, or one from which nothing goes out
unfoldable pub the_state_at : List State → ℕ → State
the_state_at S q = get_or S q (element 0)

-- the state is the initial one of the symbol a
unfoldable pub initial_of : ℕ → State → Bool
initial_of a (element b) = false
initial_of a (inside b m zero) = eqb b a
initial_of a (inside b m (suc y)) = false

-- the symbol whose model, or whose element, a state belongs to
unfoldable pub owner : State → ℕ
owner (element a) = a
owner (inside a m i) = a

-- a word of its model may end at the state
unfoldable pub may_end : State → Bool
may_end (element a) = false
may_end (inside a m i) = ends m i

-- the state is a place that bears the symbol a
unfoldable pub bearing : ℕ → State → Bool
bearing a (element b) = false
bearing a (inside b m zero) = false
bearing a (inside b m (suc y)) = eqb (bears m y) a

-- the second state is a place that can come next after the first
unfoldable pub goes_on_of : State → State → Bool
goes_on_of (element a) t = false
goes_on_of (inside a m i) (element b) = false
goes_on_of (inside a m i) (inside b n zero) = false
goes_on_of (inside a m i) (inside b n (suc y)) = eqb a b && comes m i y
