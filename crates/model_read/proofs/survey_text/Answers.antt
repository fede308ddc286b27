-- `model_read::survey_text` meets its contract: a first line that is no good header is refused, else the lines behind it decide.
use Rattle.paper.specs.Limits.{limits}
use Rattle.lines.proofs.LinesLaws.{starts_first, line_part}
use Rattle.model_read.proofs.HeadLaws.{head_bad, head_other, headed}
use Rattle.model_read.proofs.survey_text.Goals as goal
use Rattle.model_read.proofs.survey_text.Goals.{in_default-via-in-Some+in_default, in_default-via-in_default}
use mathlib.Core.Path.{ap, ◌∙◌}
use Rattle.std.specs.Prelude.{Some}

pub slice_bounds-read_line-end : goal.slice_bounds-read_line-end
slice_bounds-read_line-end c = (line_part (starts_first _) c.line_end-end.ensures).1

pub returns-then-bad_head : goal.returns-then-bad_head
returns-then-bad_head c = head_bad limits c.args.text.now c.line_end-end.ensures c.read_line.ensures c.at-then-bad_head.ensures (c.in-Some-Head.is ∙ ap Some c.in-Some-Head.field-0-is) (c.bad_head.ensures.yes c.if-bad_head.true)

pub survey_rest-requires : goal.survey_rest-requires
survey_rest-requires c = headed limits c.args.text.now c.line_end-end.ensures c.read_line.ensures (c.in-Some-Head.is ∙ ap Some c.in-Some-Head.field-0-is) (c.bad_head.ensures.no c.if-bad_head.false)

pub returns-in_default : goal.returns-in_default
returns-in_default c =
    head_other limits c.args.text.now c.line_end-end.ensures c.read_line.ensures c.at.ensures
    (λ y t z. elim c.in_default.branch [
      | in_default-via-in-Some+in_default w ↦ cc
      | in_default-via-in_default w ↦ cc
    ])
