-- `inclusion::lay` meets its contract: the sums are small.
use Prim.Native.Nat.{◌+◌, ◌≤◌}
use native.Mathlib.Nat.{mul-le-mul}
use native.Mathlib.Omega.{arith}
use Rattle.inclusion.proofs.lay.Goals as goal

pub overflow_mul-result : goal.overflow_mul-result
overflow_mul-result c = let h : c.args.receivers + 1 ≤ 61 = omega arith in omega (arith, mul-le-mul c.requires.0 h)
