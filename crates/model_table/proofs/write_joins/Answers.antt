use mathlib.Core.Path.{◌≡◌}
use native.Mathlib.Omega.{arith}
use Rattle.paper.specs.Limits.{limits}
use Rattle.model_table.specs.Work.{the_joins_by}
use Rattle.model_table.proofs.WriteLaws.{each_none, joins_more}
use Rattle.model_table.proofs.write_joins.Goals as goal

pub loop-q-init : goal.loop-q-init
loop-q-init c = each_none _ _ _

pub loop-q-preserved : goal.loop-q-preserved
loop-q-preserved c = let x = c.args in
    let l = c.loop-q in
    joins_more limits.states x.symbols x.s.count x.s.bears.now x.s.next.now _ l.invariant c.write_row-e.auto.rules
    c.write_row-e.ensures

pub returns : goal.returns
unfolding the_joins_by
returns c = let e : c.loop-q.q ≡ c.args.s.count = omega arith in
    rw e at c.loop-q.invariant.fits
