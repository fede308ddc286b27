-- Lines as a model text may have them, each with the lines before it, and models that are not ambiguous.
use Rattle.std.specs.Prelude.{ℕ, ◌<◌, ◌≡◌, List, [], ◌∷◌, ◌++◌}
use Rattle.std.proofs.Math.Option.{none, some}
use Rattle.model.specs.Model.{Model, bears, places, Ambiguous}
use Rattle.model.specs.Documents.{Line, model_of}

-- a line behind the lines before it: its symbol is below n and has no line yet, and the symbols of its model are below n
pub record GoodLine (n : ℕ) (before : List Line) (ln : Line) : Type 0 where
  pub below : ln.of < n
  pub new : model_of before ln.of ≡ none
  pub inner : (y : ℕ) → y < places ln.model → bears ln.model y < n

-- lines in order, each good behind those before it
pub data GoodLines (n : ℕ) : List Line → Type 0 where
  no_line : GoodLines n []
  one_more_of : {ls : List Line} {ln : Line} → GoodLines n ls → GoodLine n ls ln → GoodLines n (ls ++ (ln ∷ []))

-- lines over n symbols with a start
pub record Valid (n start : ℕ) (ls : List Line) : Type 0 where
  pub start_below : start < n
  pub lines : GoodLines n ls

-- no line has an ambiguous model
abbrev pub Unambiguous : List Line → Type 0
Unambiguous ls = (a : ℕ) (m : Model) → model_of ls a ≡ some m → ¬ Ambiguous m
