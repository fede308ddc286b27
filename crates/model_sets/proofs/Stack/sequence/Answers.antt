-- `model_sets::Stack::sequence` meets its contract: the links, the two clearings and what is kept are the step of a comma.
use mathlib.Core.Path.{◌∙◌}
use Rattle.paper.specs.Limits.{limits}
use Rattle.model_sets.proofs.Steps.{sequence_steps}
use Rattle.model_sets.proofs.Stack.sequence.Goals as goal
use Rattle.model_sets.proofs.Stack.sequence.Goals.{then-left, else-left}

pub returns-clause-steps : goal.returns-clause-steps
returns-clause-steps c =
    let y = c.link.ensures.stays in
    rw (y.models, y.places)
    (sequence_steps limits _ _ _ _ _ c.link.ensures.linked c.clear.ensures (rw y.ends at c.clear-2.ensures) _ (elim c.if-left.branch [
      | then-left w ↦ rw w.if-left.true w.self-is
      | else-left w ↦ rw w.if-left.false (w.self-is ∙ w.if-left.false)
    ]))
