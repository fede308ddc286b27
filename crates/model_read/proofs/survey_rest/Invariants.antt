-- `model_read::survey_rest` meets its contract. The loop's invariant: the first k lines are right, and their states are counted.
use Prim.Native.Nat.{◌-◌}
use lib.ListN.{length}
use Rattle.paper.specs.Limits.{limits}
use Rattle.model_read.proofs.Going.{Going}
use Rattle.model_read.proofs.survey_rest.Given as goal

abbrev pub invariant-loop-at : goal.invariant-loop-at
invariant-loop-at l = Going limits l.text l.symbols l.start l.seen l.at l.k l.states

abbrev pub decreases-loop-at : goal.decreases-loop-at
decreases-loop-at l = length l.text - l.at
