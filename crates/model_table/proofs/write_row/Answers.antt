use Rattle.paper.specs.Limits.{limits}
use Rattle.model_table.specs.Work.{joins_from}
use Rattle.model_table.proofs.WriteLaws.{each_none, row_more}
use Rattle.model_table.proofs.write_row.Goals as goal

pub loop-a-init : goal.loop-a-init
unfolding joins_from
loop-a-init c = each_none _ _ _

pub loop-a-preserved : goal.loop-a-preserved
loop-a-preserved c = let x = c.args in
    let l = c.loop-a in
    row_more limits.states x.s.count x.s.bears.now x.s.next.now _ _ l.invariant c.write_join-e.auto.rules
    c.write_join-e.ensures
