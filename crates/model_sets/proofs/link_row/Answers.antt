use Prim.Native.Nat.{◌+◌}
use mathlib.Core.Path.{subst, sym}
use native.Mathlib.Omega.{arith}
use Rattle.model_sets.specs.Work.{rowed, Painted}
use Rattle.model_sets.proofs.Painting.{row_start, row_more, row_skip}
use Rattle.model_sets.proofs.link_row.Goals as goal
use Rattle.model_sets.proofs.link_row.Goals.{then-next-y-ne0, else-next-y-ne0}

pub loop-y-init : goal.loop-y-init
loop-y-init c = row_start _ _ _

pub loop-y-preserved : goal.loop-y-preserved
loop-y-preserved c =
    let l = c.loop-y in
    let g = c.args in
    elim c.if-next-y-ne0.branch [
      | then-next-y-ne0 w ↦
          subst (Painted 1 (rowed g.next.now g.row g.a (l.y + 1)) g.next.now) (sym w.next-is)
          (row_more _ g.row g.a l.next l.y (omega arith) (omega arith) l.invariant w.if-next-y-ne0.true (omega (arith, l.invariant.size)))
      | else-next-y-ne0 w ↦
          subst (Painted 1 (rowed g.next.now g.row g.a (l.y + 1)) g.next.now) (sym w.next-is)
          (row_skip _ g.row g.a l.next l.y (omega arith) (omega arith) l.invariant w.if-next-y-ne0.false)
    ]
