-- `rule_read::read_rest` meets its contract. The loop's invariant: the first k lines have no fault, and their table stands at the fronts.
use Prim.Native.Nat.{◌-◌}
use mathlib.Core.Path.{◌≡◌}
use lib.ListN.{length}
use Rattle.paper.specs.Limits.{limits}
use Rattle.rule_read.proofs.Going.{Going}
use Rattle.rule_read.proofs.read_rest.Given as goal

abbrev pub invariant-loop-at : goal.invariant-loop-at
invariant-loop-at l = Going limits l.text l.head.symbols l.head.states l.marks l.rules l.at l.k l.done.marks l.done.rules × ((length l.marks ≡ length l.initial.marks) × (length l.rules ≡ length l.initial.rules))

abbrev pub decreases-loop-at : goal.decreases-loop-at
decreases-loop-at l = length l.text - l.at
