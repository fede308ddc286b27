-- `model_clash::like_places` meets its contract. The loops' invariants: no two places before y are alike, and none before z is like y.
use mathlib.Core.Path.{◌≡◌}
use Rattle.std.specs.Prelude.{None}
use Rattle.paper.specs.Limits.{limits}
use Rattle.model_clash.proofs.LikeLaws.{NonePaired, NoneLike}
use Rattle.model_clash.proofs.like_places.Given as goal

abbrev pub invariant-loop-z : goal.invariant-loop-z
invariant-loop-z l =
    (l.found ≡ None) × NonePaired limits.states l.bears l.next l.q l.from l.y × NoneLike limits.states l.bears l.next l.q l.from l.y l.z

abbrev pub invariant-search : goal.invariant-search
invariant-search l = (l.found ≡ None) × NonePaired limits.states l.bears l.next l.q l.from l.y
