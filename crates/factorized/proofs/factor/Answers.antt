-- `factorized::factor` meets its contract: the table's refusal, that of `receive`, or the numbers are copied.
use mathlib.Core.Path.{sym}
use native.Mathlib.Omega.{arith}
use Rattle.std.proofs.lemmas.Result.{err_from_is_err_and}
use Rattle.paper.specs.Limits.{limits}
use Rattle.table.proofs.Exact.{passes_exactly}
use Rattle.factorized.proofs.RangeLaws.{ranged}
use Rattle.factorized.proofs.CheckLaws.{factored_table, factored_refused, factored_passes}
use Rattle.factorized.proofs.factor.Goals as goal

pub returns-in_err-check : goal.returns-in_err-check
returns-in_err-check c =
    let e = err_from_is_err_and c.from_residual.result c.from_residual.ensures.1 in
    rw (e.1, e.2) (factored_table limits c.args.symbols c.args.marks.now c.args.rules.now c.args.numbers.now (sym c.in_err-check.ensures))

pub invariant_of-receive : goal.invariant_of-receive
invariant_of-receive c =
    let s = (passes_exactly limits c.args.symbols c.args.marks.now c.args.rules.now).0 (sym c.in_ok-check.ensures) in
    record { ranged = ranged limits (omega arith) s }

pub returns-in_err-receive : goal.returns-in_err-receive
returns-in_err-receive c =
    let s = (passes_exactly limits c.args.symbols c.args.marks.now c.args.rules.now).0 (sym c.in_ok-check.ensures) in
    let e = err_from_is_err_and c.from_residual-in_err-receive.result c.from_residual-in_err-receive.ensures.1 in
    rw (e.1, e.2) (factored_refused limits c.args.symbols c.args.marks.now c.args.rules.now c.args.numbers.now s c.in_err-receive.ensures)

pub copy-requires : goal.copy-requires
copy-requires c =
    let s = (passes_exactly limits c.args.symbols c.args.marks.now c.args.rules.now).0 (sym c.in_ok-check.ensures) in
    omega (arith, (ranged limits (omega arith) s).few, c.receive.ensures.long)

pub returns : goal.returns
returns c =
    let s = (passes_exactly limits c.args.symbols c.args.marks.now c.args.rules.now).0 (sym c.in_ok-check.ensures) in
    factored_passes limits c.args.symbols c.args.marks.now c.args.rules.now c.args.numbers.now s _ c.in_ok-receive.ensures c.copy.ensures
