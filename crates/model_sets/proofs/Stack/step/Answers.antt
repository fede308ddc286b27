-- `model_sets::Stack::step` meets its contract: for each token by the law of `Steps` for it.
use mathlib.Core.Path.{◌∙◌}
use Rattle.paper.specs.Limits.{limits}
use Rattle.model_sets.proofs.Steps.{steps_as, empty_steps, choice_steps, maybe_steps, star_steps, plus_steps}
use Rattle.model_sets.proofs.Stack.step.Goals as goal
use Rattle.model_sets.proofs.Stack.step.Goals.{then-left, else-left}

pub returns-in-Empty-clause-steps : goal.returns-in-Empty-clause-steps
returns-in-Empty-clause-steps c = steps_as limits _ _ _ _ _ c.in-Empty.is (empty_steps limits _ _ _ _ _)

pub returns-after-left-clause-steps : goal.returns-after-left-clause-steps
returns-after-left-clause-steps c = steps_as limits _ _ _ _ _ c.in-Bar.is (choice_steps limits _ _ _ _ _ _ (elim c.if-left.branch [
  | then-left w ↦ rw w.if-left.true (w.self-is ∙ w.if-left.true)
  | else-left w ↦ rw w.if-left.false w.self-is
]))

pub returns-in-Star-clause-steps : goal.returns-in-Star-clause-steps
returns-in-Star-clause-steps c = let y = c.link.ensures.stays in
    rw (y.ends, y.models, y.depth, y.places) (steps_as limits _ _ _ _ _ c.in-Star.is (star_steps limits _ _ _ _ _ c.link.ensures.linked))

pub returns-in-Query-clause-steps : goal.returns-in-Query-clause-steps
returns-in-Query-clause-steps c = steps_as limits _ _ _ _ _ c.in-Query.is (maybe_steps limits _ _ _ _ _)

pub returns-in-Plus-clause-steps : goal.returns-in-Plus-clause-steps
returns-in-Plus-clause-steps c = let y = c.link-in-Plus.ensures.stays in
    rw (y.ends, y.models, y.depth, y.places) (steps_as limits _ _ _ _ _ c.in-Plus.is (plus_steps limits _ _ _ _ _ c.link-in-Plus.ensures.linked))
