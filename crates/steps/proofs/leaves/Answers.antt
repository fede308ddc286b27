use Prim.Native.Nat.{◌/◌}
use mathlib.Core.Path.{◌≡◌}
use native.Mathlib.Omega.{arith}
use lib.ListN.{length}
use Rattle.paper.specs.Limits.{limits}
use Rattle.pairs.proofs.WorkLaws.{kept_here, kept_then}
use Rattle.steps.specs.Runs.{none}
use Rattle.steps.proofs.RunLaws.{times_more}
use Rattle.steps.proofs.leaves.Goals as goal

pub loop-g-init : goal.loop-g-init
loop-g-init c = (kept_here, none)

pub loop-g-preserved : goal.loop-g-preserved
loop-g-preserved c = let (k, t) = c.loop-g.invariant in
    (kept_then k c.leaf_row.ensures.kept, times_more t (rw k.sizes at c.leaf_row.ensures.step))

pub returns-clause-steps : goal.returns-clause-steps
returns-clause-steps c = let e : c.loop-g.g ≡ length c.args.s.now / limits.width = omega arith in rw e at c.loop-g.invariant.1
