-- `postfix::read_model` meets its contract. Invariant: a stack of that height and those places is reached. Assumes nothing.
use Prim.Native.Nat.{◌-◌, suc}
use lib.ListN.{length}
use Rattle.paper.specs.Limits.{limits}
use Rattle.postfix.proofs.Stack.{Reached}
use Rattle.postfix.proofs.read_model.Given as goal

abbrev pub invariant-loop-at : goal.invariant-loop-at
invariant-loop-at l = Reached limits l.symbols l.field l.at l.count l.depth l.places

abbrev pub decreases-loop-at : goal.decreases-loop-at
decreases-loop-at l = suc (length l.field) - l.at
