-- `factorized::Table::number_state` meets its contract: two on the left, two on the right, or the numbers are stored.
use Prim.Native.Nat.{◌+◌}
use native.Mathlib.Omega.{arith}
use Rattle.std.proofs.lemmas.Result.{err_from_is_err_and}
use Rattle.paper.specs.Limits.{limits}
use Rattle.factorized.proofs.OneLaws.{single_most}
use Rattle.factorized.proofs.StateLaws.{flags_long, reached_of, split_left, split_right, numbered}
use Rattle.factorized.proofs.Table.number_state.Goals as goal

pub close-requires : goal.close-requires
close-requires c = omega (arith, flags_long (limits.states + 1) c.args.p, c.args.self.now.ranged.few)

pub returns-in_err-left : goal.returns-in_err-left
returns-in_err-left c =
    let e = err_from_is_err_and c.from_residual.result c.from_residual.ensures.1 in
    rw e.1 (split_left limits c.args.self.now.marks.now c.args.self.now.rules.now c.args.p _ (reached_of (limits.states + 1) c.args.p _ (omega arith) c.close.ensures) c.args.numbers.now c.in_err-left.ensures)

pub returns-in_err-right : goal.returns-in_err-right
returns-in_err-right c =
    let e = err_from_is_err_and c.from_residual-in_err-right.result c.from_residual-in_err-right.ensures.1 in
    rw e.1 (split_right limits c.args.self.now.marks.now c.args.self.now.rules.now c.args.p _ (reached_of (limits.states + 1) c.args.p _ (omega arith) c.close.ensures) c.args.numbers.now c.in_err-right.ensures)

pub overflow_cast-numbers : goal.overflow_cast-numbers
overflow_cast-numbers c = rw c.unwrap_or.ensures (omega (arith, single_most c.in_ok-left.ensures, c.args.self.now.ranged.few))

pub returns : goal.returns
returns c =
    rw (c.unwrap_or.ensures, c.unwrap_or-2.ensures, c.from.ensures)
    (numbered limits c.args.self.now.marks.now c.args.self.now.rules.now c.args.p _ (reached_of (limits.states + 1) c.args.p _ (omega arith) c.close.ensures) c.args.numbers.now
    c.in_ok-left.ensures c.in_ok-right.ensures c.ends.ensures (omega arith))
