use native.Mathlib.Omega.{arith}
use Rattle.paper.specs.Limits.{limits}
use Rattle.lines.proofs.LinesLaws.{lines_at}
use Rattle.model_read.proofs.Going.{going_start, going_lines, going_size, going_shape, going_places, going_range, going_again, going_on, going_states, going_sizes}
use Rattle.model_read.proofs.survey_rest.Goals as goal
use Rattle.model_read.proofs.survey_rest.Goals.{in_default-via-in-Some+in_default, in_default-via-in_default}
use mathlib.Core.Path.{ap, ◌∙◌}
use Rattle.std.specs.Prelude.{Some}

pub loop-at-init : goal.loop-at-init
loop-at-init c = going_start limits c.requires

pub overflow_add-k : goal.overflow_add-k
overflow_add-k c = omega (arith, going_lines limits c.loop-at.invariant)

pub slice_bounds-read_line-count : goal.slice_bounds-read_line-count
slice_bounds-read_line-count c = omega (arith, (lines_at _ _ _ c.loop-at-test.true c.line_end-end.ensures).0)

pub slice_bounds-read_line-start : goal.slice_bounds-read_line-start
slice_bounds-read_line-start c = omega (arith, (lines_at _ _ _ c.loop-at-test.true c.line_end-end.ensures).0)

pub slice_bounds-read_line-end : goal.slice_bounds-read_line-end
slice_bounds-read_line-end c = (lines_at _ _ _ c.loop-at-test.true c.line_end-end.ensures).1

pub returns-in_default : goal.returns-in_default
returns-in_default c =
    going_shape limits c.loop-at.invariant c.loop-at-test.true c.line_end-end.ensures c.read_line.ensures
    (λ a p z. elim c.in_default.branch [
      | in_default-via-in-Some+in_default w ↦ cc
      | in_default-via-in_default w ↦ cc
    ]) c.at.ensures

pub returns-then-symbols-symbol : goal.returns-then-symbols-symbol
returns-then-symbols-symbol c = going_range limits c.loop-at.invariant c.loop-at-test.true c.line_end-end.ensures c.read_line.ensures (c.in-Some-Model.is ∙ ap Some c.in-Some-Model.field-0-is) c.if-symbols-symbol.true c.at-then-symbols-symbol.ensures

pub returns-then-seen-symbol : goal.returns-then-seen-symbol
returns-then-seen-symbol c = going_again limits c.loop-at.invariant c.loop-at-test.true c.line_end-end.ensures c.read_line.ensures (c.in-Some-Model.is ∙ ap Some c.in-Some-Model.field-0-is) c.if-symbols-symbol.false c.if-seen-symbol.true c.at-then-seen-symbol.ensures

pub overflow_add-states : goal.overflow_add-states
overflow_add-states c = omega (arith, going_places limits c.loop-at.invariant c.loop-at-test.true c.line_end-end.ensures c.read_line.ensures (c.in-Some-Model.is ∙ ap Some c.in-Some-Model.field-0-is))

pub overflow_add-states-in-loop-at : goal.overflow_add-states-in-loop-at
overflow_add-states-in-loop-at c = omega (arith, going_size limits c.loop-at.invariant, going_places limits c.loop-at.invariant c.loop-at-test.true c.line_end-end.ensures c.read_line.ensures (c.in-Some-Model.is ∙ ap Some c.in-Some-Model.field-0-is))

pub loop-at-smaller : goal.loop-at-smaller
loop-at-smaller c = let z = (lines_at _ _ _ c.loop-at-test.true c.line_end-end.ensures).0 in omega (arith, z, c.loop-at-test.true)

pub loop-at-preserved : goal.loop-at-preserved
loop-at-preserved c = going_on limits c.loop-at.invariant c.loop-at-test.true c.line_end-end.ensures c.read_line.ensures (c.in-Some-Model.is ∙ ap Some c.in-Some-Model.field-0-is) c.if-symbols-symbol.false c.if-seen-symbol.false

pub returns-then-states-gt-STATES : goal.returns-then-states-gt-STATES
returns-then-states-gt-STATES c = going_states limits c.loop-at.invariant c.loop-at-test.false c.if-states-gt-STATES.true c.at-then-states-gt-STATES.ensures

pub returns : goal.returns
returns c = going_sizes limits c.loop-at.invariant c.loop-at-test.false c.if-states-gt-STATES.false
