-- `steps::join_row` meets its contract. The loop's invariant: the steps of the receiver's states passed are
-- made.
use Rattle.paper.specs.Limits.{limits}
use Rattle.pairs.specs.Work.{Kept}
use Rattle.steps.specs.Runs.{Times, BothSteps}
use Rattle.steps.proofs.join_row.Given as goal

abbrev pub invariant-loop-y : goal.invariant-loop-y
invariant-loop-y l = Kept l.initial.queue l.queue × Times (BothSteps limits l.initial.queue.sizes l.r l.rule l.pair) l.y l.initial.queue.work.now l.initial.queue.count l.queue.work.now l.queue.count
