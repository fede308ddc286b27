use Prim.Native.Nat.{◌+◌, ◌*◌}
use native.Mathlib.Omega.{arith}
use Rattle.paper.specs.Limits.{limits}
use Rattle.model_table.proofs.CountLaws.{from_le, from_none, from_more, flag_yes, flag_no}
use Rattle.model_table.proofs.count_next.Goals as goal
use Rattle.model_table.proofs.count_next.Goals.{then-s-row-ne0, else-s-row-ne0}

pub loop-y-init : goal.loop-y-init
loop-y-init c = from_none limits.states _ _

pub overflow_add-n : goal.overflow_add-n
overflow_add-n c = let x = c.args in
    omega (arith, from_le limits.states c.loop-y.y x.s.next.now x.q)

pub loop-y-preserved : goal.loop-y-preserved
loop-y-preserved c =
    let x = c.args in
    let l = c.loop-y in
    let i = x.q * limits.states + l.y in
    from_more limits.states x.s.next.now _ _ _ _ l.invariant
    (elim c.if-s-row-ne0.branch [
      | then-s-row-ne0 w ↦ omega (arith, w.n-is, flag_yes x.s.next.now i w.if-s-row-ne0.true)
      | else-s-row-ne0 w ↦ omega (arith, w.n-is, flag_no x.s.next.now i w.if-s-row-ne0.false)
    ])
