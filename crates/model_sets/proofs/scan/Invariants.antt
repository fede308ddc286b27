-- `model_sets::scan` meets its contract. The loop's invariant: the slices show the models on the stack, and the tokens left make the model.
use Prim.Native.Nat.{◌-◌, suc}
use mathlib.Core.Path.{◌≡◌}
use lib.ListN.{length}
use Rattle.paper.specs.Limits.{limits}
use Rattle.model_sets.specs.Stack.{Same}
use Rattle.model_sets.proofs.Going.{Going}
use Rattle.model_sets.proofs.scan.Given as goal

abbrev pub invariant-loop-at : goal.invariant-loop-at
invariant-loop-at l = record {
  going : Going limits l.symbols l.field l.initial.bears l.initial.stack.ends.now l.initial.stack.next.now l.at l.bears l.stack.ends.now l.stack.next.now l.stack.models l.stack.depth l.stack.places;
  bears : length l.bears ≡ length l.initial.bears;
  same : Same l.initial.stack l.stack;
}

abbrev pub decreases-loop-at : goal.decreases-loop-at
decreases-loop-at l = suc (length l.field) - l.at
