-- `steps::eps_rows` meets its contract. The loop's invariant: the steps of the rules passed are made.
use Rattle.paper.specs.Limits.{limits}
use Rattle.pairs.specs.Work.{Kept}
use Rattle.steps.specs.Runs.{EpsSteps}
use Rattle.steps.proofs.eps_rows.Given as goal

abbrev pub invariant-loop-g : goal.invariant-loop-g
invariant-loop-g l = Kept l.initial.queue l.queue × EpsSteps limits l.initial.queue.sizes l.s l.pair l.g l.initial.queue.work.now l.initial.queue.count l.queue.work.now l.queue.count
