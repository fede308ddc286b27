use Rattle.pairs.proofs.WorkLaws.{kept_here, kept_then}
use Rattle.steps.specs.Runs.{none}
use Rattle.steps.proofs.RunLaws.{times_more}
use Rattle.steps.proofs.eps_rows.Goals as goal

pub loop-g-init : goal.loop-g-init
loop-g-init c = (kept_here, none)

pub loop-g-preserved : goal.loop-g-preserved
loop-g-preserved c = let (k, t) = c.loop-g.invariant in
    (kept_then k c.eps_row.ensures.kept, times_more t (rw k.sizes at c.eps_row.ensures.step))
