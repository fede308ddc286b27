use Rattle.paper.specs.Limits.{limits}
use Rattle.model_sets.proofs.Painting.{rows_start, rows_more}
use Rattle.model_sets.proofs.clear_rows.Goals as goal

pub loop-i-init : goal.loop-i-init
loop-i-init c = rows_start limits.states _ c.requires.0 _

pub loop-i-preserved : goal.loop-i-preserved
loop-i-preserved c = rows_more limits.states _ c.requires.0 _ c.loop-i.i c.loop-i.next _ c.loop-i.invariant c.clear.ensures
