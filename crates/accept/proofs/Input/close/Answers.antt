use Rattle.paper.specs.Limits.{limits}
use Rattle.accept.specs.Work.{span}
use Rattle.accept.proofs.EpsilonLaws.{stepped_none, stepped_trans, closed_of}
use Rattle.accept.proofs.Input.close.Goals as goal

pub loop-i-init : goal.loop-i-init
loop-i-init c = (0, stepped_none span c.args.i c.args.work.now)

pub returns-then-new-eq0 : goal.returns-then-new-eq0
returns-then-new-eq0 c = closed_of span limits.width c.args.self.now.rules.now c.args.i c.loop-i.invariant.1 c.step_all-new.ensures c.if-new-eq0.true

pub loop-i-preserved : goal.loop-i-preserved
loop-i-preserved c = (_, stepped_trans span c.args.i c.loop-i.invariant.1 c.step_all-new.ensures.stepped)
