use Prim.Native.Nat.{◌+◌}
use native.Mathlib.Omega.{arith}
use lib.ListN.{length-set}
use mathlib.Core.Path.{◌∙◌}
use Rattle.paper.specs.Limits.{limits}
use Rattle.joins.proofs.BuildLaws.{roomy, going_none, going_room, going_within, going_more, going_end, holds_first, built_without, built_with}
use Rattle.joins.proofs.build.Goals as goal

pub returns-then-lacks_room : goal.returns-then-lacks_room
returns-then-lacks_room c = built_without (c.lacks_room.ensures.yes c.if-lacks_room.true)

pub overflow_add-end : goal.overflow_add-end
overflow_add-end c = omega (arith, (roomy _ _ _ (c.lacks_room.ensures.no c.if-lacks_room.false)).narrow)

pub overflow_cast-index : goal.overflow_cast-index
overflow_cast-index c = omega (arith, (roomy _ _ _ (c.lacks_room.ensures.no c.if-lacks_room.false)).narrow)

pub bounds-index-0 : goal.bounds-index-0
bounds-index-0 c = omega (arith, (roomy _ _ _ (c.lacks_room.ensures.no c.if-lacks_room.false)).long)

pub loop-left-init : goal.loop-left-init
loop-left-init c = going_none limits.width c.args.rules.now c.args.states c.args.index.now (roomy _ _ _ (c.lacks_room.ensures.no c.if-lacks_room.false))

pub overflow_cast-left : goal.overflow_cast-left
overflow_cast-left c = omega (arith, c.loop-left.invariant.fits.narrow)

pub put_list-end-requires : goal.put_list-end-requires
put_list-end-requires c = going_room c.loop-left.invariant

pub overflow_cast-index-in-loop-left : goal.overflow_cast-index-in-loop-left
overflow_cast-index-in-loop-left c = omega (arith, going_within (going_more c.loop-left.invariant (omega arith) c.put_list-end.ensures), c.loop-left.invariant.fits.narrow)

pub offset_bounds-index-left : goal.offset_bounds-index-left
offset_bounds-index-left c = omega (arith, c.loop-left.invariant.fits.narrow)

pub bounds-index-left : goal.bounds-index-left
bounds-index-left c = omega (arith, c.loop-left.invariant.fits.long, c.loop-left.invariant.size, c.put_list-end.ensures.size)

pub loop-left-preserved : goal.loop-left-preserved
loop-left-preserved c = going_more c.loop-left.invariant c.loop-left-test.true c.put_list-end.ensures

pub shape_of-index : goal.shape_of-index
shape_of-index c = c.loop-left.invariant.size ∙ length-set c.args.index.now 0 (c.args.states + 1)

pub returns : goal.returns
returns c = built_with (c.lacks_room.ensures.no c.if-lacks_room.false) (holds_first c.args.index.now (c.args.states + 1) (going_end c.loop-left-test.false c.loop-left.invariant))
