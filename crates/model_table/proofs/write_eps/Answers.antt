use Rattle.model_table.specs.Work.{the_eps_by}
use Rattle.model_table.proofs.WriteLaws.{each_none, eps_put, eps_other}
use Rattle.model_table.proofs.write_eps.Goals as goal
use Rattle.model_table.proofs.write_eps.Goals.{then-s-q-ne0, else-s-q-ne0}

pub loop-q-init : goal.loop-q-init
unfolding the_eps_by
loop-q-init c = each_none _ _ _

pub loop-q-preserved : goal.loop-q-preserved
loop-q-preserved c =
    let E = c.args.s.ends.now in
    let O = c.args.s.owners.now in
    let l = c.loop-q.invariant in
    elim c.if-s-q-ne0.branch [
      | then-s-q-ne0 w ↦ rw w.rules-is (rw w.e-is (eps_put E O _ l w.if-s-q-ne0.true (rw w.epsilon.ensures at w.put_rule-e.ensures)))
      | else-s-q-ne0 w ↦ rw w.rules-is (rw w.e-is (eps_other E O _ l w.if-s-q-ne0.false))
    ]
