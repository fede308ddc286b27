-- `model_fill::Slices::add_lines` meets its contract. The loop's invariant: the states of the first k lines are kept, none of which is
-- ambiguous, in the same slices.
use Prim.Native.Nat.{◌-◌}
use lib.ListN.{length}
use Rattle.paper.specs.Limits.{limits}
use Rattle.model_fill.specs.Slices.{Same}
use Rattle.model_fill.proofs.Going.{Going}
use Rattle.model_fill.proofs.Slices.add_lines.Given as goal

abbrev pub invariant-loop-at : goal.invariant-loop-at
invariant-loop-at l = record {
  going : Going limits l.text l.symbols l.at l.k l.base l.self.bears.now l.self.owners.now l.self.ends.now l.self.next.now;
  same : Same l.initial.self l.self;
}

abbrev pub decreases-loop-at : goal.decreases-loop-at
decreases-loop-at l = length l.text - l.at
