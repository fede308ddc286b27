-- `accept::is_final` meets its contract: the mark's last bit, then the set.
use Rattle.paper.proofs.TellsLaws.{tells_no}
use Rattle.accept.proofs.SetLaws.{tells_as}
use Rattle.accept.proofs.is_final.Goals as goal

pub returns-then-marks-q-ne1 : goal.returns-then-marks-q-ne1
returns-then-marks-q-ne1 c = tells_no (λ x. c.if-marks-q-ne1.true x.0)

pub returns : goal.returns
returns c = tells_as (λ x. (c.if-marks-q-ne1.false, x)) (λ x. x.1) c.has.ensures
