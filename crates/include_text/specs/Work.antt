-- What the private functions write. Nothing of it stands in the contract of the public one.
use Rattle.std.specs.Prelude.{ℕ, ◌*◌, ◌≤◌, List, [], length}
use Rattle.paper.specs.Limits.{Limits}
use Rattle.paper.specs.Told.{Told, refused, passes, accepted, rejected, included, witness, holds, sizes, written}
use Rattle.put.specs.Put.{Put}
use Rattle.inclusion.specs.Inclusion.{Lent}
use Rattle.answers.specs.Lines.{refused_line_of, included_line, witness_text}
use Rattle.include_text.specs.Answer.{AnswerTo, answer_size}

-- the text of what the inclusion test tells, the witness standing in ws
unfoldable pub answer_text : Told → List ℕ → List ℕ
answer_text (refused number side place) ws = refused_line_of side number place
answer_text included ws = included_line
answer_text (witness k) ws = witness_text ws k
answer_text passes ws = []
answer_text accepted ws = []
answer_text rejected ws = []
answer_text (holds y n r) ws = []
answer_text (sizes y s n) ws = []
answer_text (written n) ws = []

-- the slice has the nodes that are told
abbrev pub Enough : Told → List ℕ → Type 0
Enough (refused number side place) ws = Unit
Enough included ws = Unit
Enough (witness k) ws = 2 * k ≤ length ws
Enough passes ws = Unit
Enough accepted ws = Unit
Enough rejected ws = Unit
Enough (holds y n r) ws = Unit
Enough (sizes y s n) ws = Unit
Enough (written n) ws = Unit

-- an answer to the table A and the text t stands at the front of the slice O, and ends at r
pub record Meets (L : Limits) (A : Lent) (t O : List ℕ) (r : ℕ) (O' : List ℕ) : Type 0 where
  pub bytes : List ℕ
  pub answer : AnswerTo L A t bytes
  pub fits : length bytes ≤ answer_size L
  pub put : Put O 0 bytes r O'
