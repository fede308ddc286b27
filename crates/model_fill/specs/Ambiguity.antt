-- The models of a text, its start, and which of its lines has an ambiguous model.
use Rattle.std.specs.Prelude.{ℕ, ◌≡◌, cond, List}
use Rattle.paper.specs.Limits.{Limits}
use Rattle.model.specs.Model.{Model, Ambiguous}
use Rattle.model.specs.Sets.{ambiguous}
use Rattle.model_line.specs.Line.{Said, head, content, misshapen}
use Rattle.model.specs.Documents.{Line}
use Rattle.model_read.specs.Text.{start_of, said_at, said_by, models_of}

-- the M lines of a text, and its start
unfoldable pub models_in : Limits → List ℕ → List Line
models_in L s = models_of (said_by L s)

unfoldable pub start_in : Limits → List ℕ → ℕ
start_in L s = start_of (said_at (said_by L s) 0)

-- 14 or 0, of line k of these lines, counted from 0: its model is ambiguous (`ambiguity_verdict` of proofs/Ambiguities)
unfoldable pub ambiguity_of : Said → ℕ
ambiguity_of (head y s) = 0
ambiguity_of (content a m) = cond (ambiguous m) 14 0
ambiguity_of misshapen = 0

unfoldable pub ambiguity_at : List Said → ℕ → ℕ
ambiguity_at ls k = ambiguity_of (said_at ls k)

-- line k of these lines, counted from 0, has an ambiguous model
pub record AmbiguousAt (ls : List Said) (k : ℕ) : Type 0 where
  pub symbol : ℕ
  pub model : Model
  pub says : said_at ls k ≡ content symbol model
  pub ambiguous : Ambiguous model
