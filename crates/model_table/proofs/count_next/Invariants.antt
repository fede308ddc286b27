-- `model_table::count_next` meets its contract: the places that come next are counted. Assumes nothing.
use mathlib.Core.Path.{◌≡◌}
use Rattle.paper.specs.Limits.{limits}
use Rattle.model_table.specs.Work.{count_from}
use Rattle.model_table.proofs.count_next.Given as goal

abbrev pub invariant-loop-y : goal.invariant-loop-y
invariant-loop-y l = l.n ≡ count_from limits.states l.y l.s.next.now l.q
