use native.Mathlib.Omega.{arith}
use Rattle.inclusion.proofs.WriteLaws.{writing_none, writing_ready, writing_more}
use Rattle.inclusion.proofs.WitnessLaws.{writes_all}
use Rattle.inclusion.proofs.witness.witness.Goals as goal

pub want-requires : goal.want-requires
want-requires c = c.requires.traced

pub loop-j-init : goal.loop-j-init
loop-j-init c = writing_none c.want.ensures.traced _

pub write_row-m-requires : goal.write_row-m-requires
write_row-m-requires c = (writing_ready c.want.ensures.traced (omega arith) c.loop-j.invariant, c.loop-j.invariant.nodes.count, omega (arith, c.requires.room, c.loop-j.invariant.size))

pub loop-j-preserved : goal.loop-j-preserved
loop-j-preserved c = writing_more c.want.ensures.traced c.want.ensures.wanted (omega arith) c.requires.room c.loop-j.invariant c.write_row-m.ensures

pub shape_of-work : goal.shape_of-work
shape_of-work c = (writes_all _ c.requires c.want.ensures c.loop-j.invariant (omega arith)).work_size

pub shape_of-out : goal.shape_of-out
shape_of-out c = c.loop-j.invariant.size

pub returns : goal.returns
returns c = writes_all _ c.requires c.want.ensures c.loop-j.invariant (omega arith)
