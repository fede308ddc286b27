use Rattle.model_table.specs.Work.{leaf_with}
use Rattle.model_table.proofs.WriteLaws.{each_none, leaf_put, leaf_other, leaf_place}
use Rattle.model_table.proofs.write_leaf.Goals as goal
use Rattle.model_table.proofs.write_leaf.Goals.{then-s-q+then-s-q-2, then-s-q+else-s-q-2, else-s-q}

pub loop-q-init : goal.loop-q-init
unfolding leaf_with
loop-q-init c = each_none _ _ _

pub loop-q-preserved : goal.loop-q-preserved
loop-q-preserved c =
    let B = c.args.s.bears.now in
    let O = c.args.s.owners.now in
    let l = c.loop-q.invariant in
    elim c.if-s-q.branch [
      | then-s-q+then-s-q-2 w ↦
          rw w.rules-is (rw w.e-is (leaf_put B O _ _ l w.if-s-q.true w.if-s-q-2.true (rw w.leaf.ensures at w.put_rule-e.ensures)))
      | then-s-q+else-s-q-2 w ↦ rw w.rules-is (rw w.e-is (leaf_place B O _ _ l w.if-s-q-2.false))
      | else-s-q w ↦ rw w.rules-is (rw w.e-is (leaf_other B O _ _ l w.if-s-q.false))
    ]
