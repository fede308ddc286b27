-- `put::size_of` meets its contract: the sizes of the pieces add up to the size of the line. Assumes nothing.
use native.Mathlib.Omega.{arith}
use Rattle.lines.proofs.NumberLaws.{decimal_room}
use Rattle.lines.proofs.FieldLaws.{length_three, length_two}
use Rattle.put.proofs.size_of.Goals as goal

pub overflow_add-two : goal.overflow_add-two
overflow_add-two c = omega (arith, decimal_room c.args.a)

pub overflow_add-two-2 : goal.overflow_add-two-2
overflow_add-two-2 c = omega (arith, decimal_room c.args.a, decimal_room c.args.b)

pub overflow_add-result : goal.overflow_add-result
overflow_add-result c = omega (arith, decimal_room c.args.a, decimal_room c.args.b)

pub overflow_add-result-then-n-eq3 : goal.overflow_add-result-then-n-eq3
overflow_add-result-then-n-eq3 c = omega (arith, decimal_room c.args.a, decimal_room c.args.b, decimal_room c.args.c)

pub returns-then-n-eq3 : goal.returns-then-n-eq3
returns-then-n-eq3 c = λ t. omega (arith, length_three t c.args.n c.args.a c.args.b c.args.c c.if-n-eq3.true)

pub returns : goal.returns
returns c = λ t. omega (arith, length_two t c.args.n c.args.a c.args.b c.args.c c.if-n-eq3.false)
