-- `pairs::is_final` meets its contract: a state behind the marks is not final.
use mathlib.Core.Path.{◌≡◌}
use native.Mathlib.Omega.{arith}
use lib.ListN.{get_or-eq_default}
use Rattle.paper.specs.Limits.{at}
use Rattle.paper.proofs.TellsLaws.{tells_no, tells_eq}
use Rattle.pairs.proofs.is_final.Goals as goal

pub returns-then-marks-i : goal.returns-then-marks-i
returns-then-marks-i c = tells_no (λ x. absurd (let z : at c.args.marks.now c.args.p.0 ≡ 0 = get_or-eq_default c.args.marks.now 0 (omega arith) in omega arith))

pub returns : goal.returns
returns c = tells_eq _ _ (λ e. e) (λ d. d)
