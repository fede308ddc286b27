use Rattle.paper.specs.Limits.{limits}
use Rattle.model_table.specs.Work.{join_with}
use Rattle.model_table.proofs.WriteLaws.{each_none, join_put, join_not, join_other}
use Rattle.model_table.proofs.write_join.Goals as goal
use Rattle.model_table.proofs.write_join.Goals.{then-s-row-ne0+then-s-y, then-s-row-ne0+else-s-y, else-s-row-ne0}

pub loop-y-init : goal.loop-y-init
unfolding join_with
loop-y-init c = each_none _ _ _

pub loop-y-preserved : goal.loop-y-preserved
loop-y-preserved c =
    let B = c.args.s.bears.now in
    let N = c.args.s.next.now in
    let l = c.loop-y.invariant in
    elim c.if-s-row-ne0.branch [
      | then-s-row-ne0+then-s-y w ↦
          rw w.rules-is
          (rw w.e-is (join_put limits.states B N _ _ _ l w.if-s-row-ne0.true w.if-s-y.true (rw w.join.ensures at w.put_rule-e.ensures)))
      | then-s-row-ne0+else-s-y w ↦ rw w.rules-is (rw w.e-is (join_other limits.states B N _ _ _ l w.if-s-y.false))
      | else-s-row-ne0 w ↦ rw w.rules-is (rw w.e-is (join_not limits.states B N _ _ _ l w.if-s-row-ne0.false))
    ]
