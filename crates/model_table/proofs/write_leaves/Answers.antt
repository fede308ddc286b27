use Rattle.model_table.specs.Work.{the_leaves_by}
use Rattle.model_table.proofs.WriteLaws.{each_none, leaves_more}
use Rattle.model_table.proofs.write_leaves.Goals as goal

pub loop-a-init : goal.loop-a-init
unfolding the_leaves_by
loop-a-init c = each_none _ _ _

pub loop-a-preserved : goal.loop-a-preserved
loop-a-preserved c = let x = c.args in
    let l = c.loop-a in
    leaves_more x.s.count x.s.bears.now x.s.owners.now _ l.invariant c.write_leaf-e.auto.rules
    c.write_leaf-e.ensures
