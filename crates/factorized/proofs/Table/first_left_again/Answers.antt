use mathlib.Core.Path.{refl}
use native.Mathlib.Omega.{arith}
use Rattle.paper.specs.Limits.{limits}
use Rattle.factorized.specs.Work.{side_words}
use Rattle.factorized.proofs.SideLaws.{seen_none}
use Rattle.factorized.proofs.Table.first_left_again.Goals as goal

pub loop-i-init : goal.loop-i-init
loop-i-init c = ((λ j h. absurd (omega arith)), seen_none limits c.args.self.now.rules.now (side_words limits) refl)
