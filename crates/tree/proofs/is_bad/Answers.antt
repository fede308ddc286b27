-- `tree::is_bad` meets its contract: a leaf by its symbol, a join by its left child and then by its right one.
use Prim.Native.Nat.{◌+◌, ◌*◌}
use native.Mathlib.Omega.{arith}
use Rattle.tree.proofs.Exact.{leaf_tells, left_tells, right_tells}
use Rattle.tree.proofs.is_bad.Goals as goal

pub returns-then-b : goal.returns-then-b
returns-then-b c = leaf_tells c.args.symbols c.args.nodes.now c.args.i c.if-b.true

pub overflow_cast-a : goal.overflow_cast-a
overflow_cast-a c = omega (arith, c.shared_slice_known-1.given (2 * c.args.i))

pub returns-then-i-a : goal.returns-then-i-a
returns-then-i-a c = left_tells c.args.symbols c.args.nodes.now c.args.i c.if-b.false c.if-i-a.true

pub overflow_cast-result : goal.overflow_cast-result
overflow_cast-result c = omega (arith, c.shared_slice_known-2-1.given (2 * c.args.i + 1))

pub returns : goal.returns
returns c = right_tells c.args.symbols c.args.nodes.now c.args.i c.if-b.false c.if-i-a.false
