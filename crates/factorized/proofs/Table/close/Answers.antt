use native.Mathlib.Omega.{arith}
use Rattle.paper.specs.Limits.{limits}
use Rattle.factorized.proofs.EpsilonLaws.{stepped_none, stepped_trans, closed_of}
use Rattle.factorized.proofs.Table.close.Goals as goal

pub loop-new-init : goal.loop-new-init
loop-new-init c = (0, stepped_none c.args.reached.now)

pub returns-then-new-eq0 : goal.returns-then-new-eq0
returns-then-new-eq0 c = closed_of limits c.args.self.now.rules.now (omega arith) c.loop-new.invariant.1 c.step_all-new.ensures c.if-new-eq0.true

pub loop-new-preserved : goal.loop-new-preserved
loop-new-preserved c = (_, stepped_trans c.loop-new.invariant.1 c.step_all-new.ensures.stepped)
