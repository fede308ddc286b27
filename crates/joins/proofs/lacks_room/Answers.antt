-- `joins::lacks_room` meets its contract.
use native.Mathlib.Omega.{arith}
use mathlib.Core.Logic.{inl, inr}
use Rattle.paper.proofs.TellsLaws.{tells_yes, tells_lt}
use Rattle.joins.proofs.BuildLaws.{enough}
use Rattle.joins.proofs.lacks_room.Goals as goal

pub returns-then-states-ge-MOST_NUMBER : goal.returns-then-states-ge-MOST_NUMBER
returns-then-states-ge-MOST_NUMBER c = tells_yes (inr (omega arith))

pub returns-then-states-rules : goal.returns-then-states-rules
returns-then-states-rules c = tells_yes (inr (omega arith))

pub returns : goal.returns
returns c = tells_lt _ _ inl (λ h. enough (record { long = h; narrow = omega arith }))
