use mathlib.Core.Path.{sym}
use native.Mathlib.Omega.{arith}
use Rattle.paper.proofs.TellsLaws.{tells_yes}
use Rattle.model_clash.proofs.LikeLaws.{clash_some}
use Rattle.model_clash.proofs.clashes.Goals as goal

pub returns-then-is_some : goal.returns-then-is_some
returns-then-is_some c = tells_yes (clash_some c.like_places.result (omega arith) (omega arith) c.like_places.ensures (sym c.if-is_some.ensures))
