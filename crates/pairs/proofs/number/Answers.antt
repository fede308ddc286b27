-- `pairs::number` meets its contract: two 16 bit numbers multiplied fit.
use Prim.Native.Nat.{◌+◌, ◌≤◌}
use native.Mathlib.Nat.{mul-le-mul}
use native.Mathlib.Omega.{arith}
use Rattle.pairs.proofs.number.Goals as goal

pub overflow_mul-result : goal.overflow_mul-result
overflow_mul-result c = let hx : c.args.p.0 ≤ 65535 = omega arith in
    let hw : c.args.n + 1 ≤ 65536 = omega arith in
    omega (arith, mul-le-mul hx hw)

pub overflow_add-result-2 : goal.overflow_add-result-2
overflow_add-result-2 c = let hx : c.args.p.0 ≤ 65535 = omega arith in
    let hw : c.args.n + 1 ≤ 65536 = omega arith in
    let hy : c.args.q.0 ≤ 65535 = omega arith in
    omega (arith, mul-le-mul hx hw)
