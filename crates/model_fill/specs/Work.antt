-- What adding the M lines of a text to the slices does, one line and all of them.
use Rattle.std.specs.Prelude.{ℕ, suc, ◌+◌, ◌≤◌, ◌<◌, ◌≡◌, ◌≢◌, List, ◌++◌, length, take, Option, Some, None}
use Rattle.paper.specs.Limits.{Limits}
use Rattle.paper.specs.First.{FirstWrong}
use Rattle.model.specs.Model.{Model, places}
use Rattle.model_line.specs.Line.{says, content}
use Rattle.model_read.specs.Text.{symbols_in, said_by, models_of, TooManyStates, WellFormed}
use Rattle.compiled.specs.States.{State, insides, states, the_state_at}
use Rattle.model_fill.specs.Ambiguity.{models_in, AmbiguousAt}
use Rattle.model_fill.specs.Kept.{belongs_to, Long, Kept}

-- an M line x over n symbols adds its states behind those so far, none of which belongs to its symbol, if there is room
pub record Adds (L : Limits) (n : ℕ) (x B O E N : List ℕ) (base r : ℕ) (B' O' E' N' : List ℕ) : Type 0 where
  pub long : Long L.states B' O' E' N'
  pub adds : (S : List State) (a : ℕ) (m : Model) → says L n x ≡ content a m → base ≡ length S → Kept L.states S B O E N
      → ((q : ℕ) → q < length S → belongs_to (the_state_at S q) ≢ a) → base + suc (places m) ≤ L.states
      → (r ≡ base + suc (places m)) × Kept L.states (S ++ insides (record { of = a; model = m })) B' O' E' N'

-- a text can be turned into a table: it is well-formed, and its table has no state too many
pub record Ready (L : Limits) (s : List ℕ) (n : ℕ) : Type 0 where
  pub symbols : n ≡ symbols_in L s
  pub well_formed : WellFormed L s
  pub states : ¬ TooManyStates L n (models_in L s)

-- the states of a text up to its line k, k lines with the header, are kept
abbrev pub KeptTo : Limits → List ℕ → ℕ → List ℕ → List ℕ → List ℕ → List ℕ → Type 0
KeptTo L s k B O E N = Kept L.states (states (symbols_in L s) (models_of (take k (said_by L s)))) B O E N

-- all M lines of a text are added; or r tells the number of the first line with an ambiguous model, and those up to it are added
pub record AddsAll (L : Limits) (s : List ℕ) (r : Option ℕ) (B' O' E' N' : List ℕ) : Type 0 where
  pub whole : r ≡ None → ((k : ℕ) → ¬ AmbiguousAt (said_by L s) k) × Kept L.states (states (symbols_in L s) (models_in L s)) B' O' E' N'
  pub ambiguous : {line : ℕ} → r ≡ Some line → (k : ℕ) × (line ≡ k + 1) × FirstWrong (AmbiguousAt (said_by L s)) (length (said_by L s)) k × KeptTo L s line B' O' E' N'
