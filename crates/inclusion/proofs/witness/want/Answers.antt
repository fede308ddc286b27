use mathlib.Core.Path.{◌≡◌, ◌∙◌}
use native.Mathlib.Omega.{arith}
use Rattle.inclusion.proofs.TraceLaws.{traced_ready}
use Rattle.inclusion.proofs.WantLaws.{wanting_here, wanting_more, wanting_from, wanting_length}
use Rattle.inclusion.proofs.witness.want.Goals as goal

pub mark-requires : goal.mark-requires
mark-requires c = c.requires

pub loop-j-init : goal.loop-j-init
loop-j-init c = wanting_here c.mark.ensures

pub want_row-requires : goal.want_row-requires
want_row-requires c = traced_ready c.loop-j.invariant.traced _ (omega arith)

pub loop-j-preserved : goal.loop-j-preserved
loop-j-preserved c = wanting_more (omega arith) (omega arith) c.loop-j.invariant c.want_row.ensures

pub shape_of-work : goal.shape_of-work
shape_of-work c = wanting_length _ _ c.loop-j.invariant ∙ wanting_length _ _ c.mark.ensures

pub returns : goal.returns
returns c = let e : c.loop-j.j ≡ 0 = omega arith in wanting_from c.mark.ensures (rw e at c.loop-j.invariant)
