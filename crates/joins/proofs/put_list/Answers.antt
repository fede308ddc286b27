use native.Mathlib.Omega.{arith}
use Rattle.paper.specs.Limits.{limits}
use Rattle.joins.proofs.Lists.{put_none, put_room, put_more, put_all}
use Rattle.joins.proofs.put_list.Goals as goal

pub loop-i-init : goal.loop-i-init
loop-i-init c = put_none limits.width c.args.rules.now c.args.left c.args.index.now c.args.from

pub put_row-end-requires : goal.put_row-end-requires
put_row-end-requires c = put_room {w = limits.width} (omega arith) c.requires (omega arith) c.loop-i.invariant

pub loop-i-preserved : goal.loop-i-preserved
loop-i-preserved c = put_more (put_room {w = limits.width} (omega arith) c.requires (omega arith) c.loop-i.invariant) c.loop-i.invariant c.put_row-end.ensures

pub shape_of-index : goal.shape_of-index
shape_of-index c = c.loop-i.invariant.size

pub returns : goal.returns
returns c = put_all (omega arith) (omega arith) c.loop-i.invariant
