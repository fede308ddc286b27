use native.Mathlib.Omega.{arith}
use Rattle.paper.specs.Limits.{limits}
use Rattle.accept.specs.Work.{span, state}
use Rattle.accept.proofs.SetLaws.{missing_le}
use Rattle.accept.proofs.EpsilonLaws.{passed_none, passed_more}
use Rattle.accept.proofs.Input.step_all.Goals as goal

pub loop-k-init : goal.loop-k-init
loop-k-init c = passed_none span limits.width c.args.self.now.rules.now c.args.i c.args.work.now

pub overflow_add-new : goal.overflow_add-new
overflow_add-new c = let p = passed_more span limits.width c.args.self.now.rules.now c.args.i c.loop-k.invariant c.step_row-new.ensures in
    omega (arith, p.stepped.count, missing_le (state span c.args.work.now c.args.i) span)

pub loop-k-preserved : goal.loop-k-preserved
loop-k-preserved c = passed_more span limits.width c.args.self.now.rules.now c.args.i c.loop-k.invariant c.step_row-new.ensures
