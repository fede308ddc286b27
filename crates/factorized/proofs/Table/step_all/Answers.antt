use native.Mathlib.Omega.{arith}
use Rattle.paper.specs.Limits.{limits}
use Rattle.factorized.proofs.EpsilonLaws.{passed_none, passed_more, zeros_le}
use Rattle.factorized.proofs.Table.step_all.Goals as goal

pub loop-k-init : goal.loop-k-init
loop-k-init c = passed_none limits c.args.self.now.rules.now c.args.reached.now

pub overflow_add-new : goal.overflow_add-new
overflow_add-new c = let p = passed_more limits c.args.self.now.rules.now c.loop-k.invariant c.step_row-new.ensures in
    omega (arith, p.stepped.count, zeros_le c.args.reached.now)

pub loop-k-preserved : goal.loop-k-preserved
loop-k-preserved c = passed_more limits c.args.self.now.rules.now c.loop-k.invariant c.step_row-new.ensures
