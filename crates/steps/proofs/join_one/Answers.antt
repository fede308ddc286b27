-- `steps::join_one` meets its contract: one of the two pairs is not taken, or their join is added.
use Rattle.paper.specs.Limits.{limits}
use Rattle.steps.proofs.RunLaws.{left_untaken, right_untaken, join_adds}
use Rattle.steps.proofs.join_one.Goals as goal

pub returns-then-not-is_taken-clause-step : goal.returns-then-not-is_taken-clause-step
returns-then-not-is_taken-clause-step c = left_untaken limits c.args.rule c.number-a.ensures (c.is_taken.ensures.no c.if-not-is_taken.true)

pub returns-then-not-is_taken-2-clause-step : goal.returns-then-not-is_taken-2-clause-step
returns-then-not-is_taken-2-clause-step c = right_untaken limits c.args.rule c.number-a.ensures c.number-b.ensures (c.is_taken-2.ensures.no c.if-not-is_taken-2.true)

pub returns-clause-step : goal.returns-clause-step
returns-clause-step c = join_adds limits c.args.rule c.number-a.ensures c.number-b.ensures (c.is_taken.ensures.yes c.if-not-is_taken.false)
    (c.is_taken-2.ensures.yes c.if-not-is_taken-2.false) (rw c.slice.ensures at c.step-q.ensures) c.number-c.ensures c.add.ensures.added
