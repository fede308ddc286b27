-- `steps::leaves` meets its contract. The loop's invariant: the steps of the rules passed are made.
use Rattle.paper.specs.Limits.{limits}
use Rattle.pairs.specs.Work.{Kept}
use Rattle.steps.specs.Runs.{Times, row_at, LeafStep}
use Rattle.steps.proofs.leaves.Given as goal

abbrev pub invariant-loop-g : goal.invariant-loop-g
invariant-loop-g l = Kept l.initial.queue l.queue × Times (λ h. LeafStep limits l.initial.queue.sizes l.r (row_at limits l.s h)) l.g l.initial.queue.work.now l.initial.queue.count l.queue.work.now l.queue.count
