-- What a writer does: bytes put into a slice from a place on, or nothing where they do not fit.
use Rattle.std.specs.Prelude.{ℕ, ◌+◌, ◌≤◌, ◌<◌, ◌≡◌, List, length}
use Rattle.std.proofs.lemmas.List.Edits.{sets}

-- bs stand in o' from at on, up to r, and all else is as in o
pub record Put (o : List ℕ) (at : ℕ) (bs : List ℕ) (r : ℕ) (o' : List ℕ) : Type 0 where
  pub ends : r ≡ at + length bs
  pub holds : o' ≡ sets o at bs

-- bs are put where they fit
abbrev pub Fit : List ℕ → ℕ → List ℕ → ℕ → List ℕ → Type 0
Fit o at bs r o' = at + length bs ≤ length o → Put o at bs r o'

-- bs are put where they fit; else nothing is changed, and the place at is answered
pub record Wrote (o : List ℕ) (at : ℕ) (bs : List ℕ) (r : ℕ) (o' : List ℕ) : Type 0 where
  pub fits : Fit o at bs r o'
  pub lacks : length o < at + length bs → (r ≡ at) × (o' ≡ o)
