-- `pairs::pair_of` meets its contract.
use Prim.Native.Nat.{◌+◌}
use native.Mathlib.Nat.{div-le_self, mod-le}
use native.Mathlib.Omega.{arith}
use Rattle.pairs.proofs.pair_of.Goals as goal

pub overflow_cast-result : goal.overflow_cast-result
overflow_cast-result c = omega (arith, div-le_self c.args.c (c.args.n + 1))

pub overflow_cast-result-2 : goal.overflow_cast-result-2
overflow_cast-result-2 c = omega (arith, mod-le c.args.c (c.args.n + 1))
