-- `steps::join_both` meets its contract: one side after the other.
use Rattle.steps.specs.Runs.{does, skips, follows}
use Rattle.steps.proofs.join_both.Goals as goal
use Rattle.steps.proofs.join_both.Goals.{then-rule-pair, else-rule-pair}

pub returns-then-rule-pair-2-clause-steps : goal.returns-then-rule-pair-2-clause-steps
returns-then-rule-pair-2-clause-steps c = let r = c.join_one-then-rule-pair-2.ensures.step in elim c.if-rule-pair.branch [
  | then-rule-pair w ↦ follows (does w.if-rule-pair.true w.join_one.ensures.step)
      (does c.if-rule-pair-2.true (rw (w.queue-is, w.join_one.ensures.kept.sizes) at r))
  | else-rule-pair w ↦ follows (skips w.if-rule-pair.false) (does c.if-rule-pair-2.true (rw w.queue-is at r))
]

pub returns-else-rule-pair-2-clause-steps : goal.returns-else-rule-pair-2-clause-steps
returns-else-rule-pair-2-clause-steps c = elim c.if-rule-pair.branch [
  | then-rule-pair w ↦ rw w.queue-is (follows (does w.if-rule-pair.true w.join_one.ensures.step) (skips c.if-rule-pair-2.false))
  | else-rule-pair w ↦ rw w.queue-is (follows (skips w.if-rule-pair.false) (skips c.if-rule-pair-2.false))
]
