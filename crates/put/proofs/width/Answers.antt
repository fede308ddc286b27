use native.Mathlib.Omega.{arith}
use Rattle.lines.proofs.NumberLaws.{decimal_room, length_one, length_last}
use Rattle.put.proofs.width.Goals as goal

pub overflow_add-k : goal.overflow_add-k
overflow_add-k c = omega (arith, decimal_room c.args.n)

pub loop-m-preserved : goal.loop-m-preserved
loop-m-preserved c = let l = c.loop-m in
    let h = length_last l.m c.loop-m-test.true l.invariant.0 in
    (omega arith, omega arith)

pub returns : goal.returns
returns c = omega (arith, length_one c.loop-m.m (omega arith))
