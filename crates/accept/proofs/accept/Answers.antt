-- `accept::accept` meets its contract: each answer by its case of `Judged`.
use mathlib.Core.Path.{sym}
use Rattle.std.proofs.lemmas.Result.{err_from_is_err_and}
use Rattle.accept.specs.Accept.{bad_table, bad_tree}
use Rattle.accept.proofs.JudgeLaws.{decidable_of, judged_told}
use Rattle.accept.proofs.accept.Goals as goal

pub returns-in_err-check : goal.returns-in_err-check
returns-in_err-check c =
    let e = err_from_is_err_and c.from_residual.result c.from_residual.ensures.1 in
    rw (e.1, e.2) (bad_table (sym c.in_err-check.ensures))

pub returns-in_err-check-2 : goal.returns-in_err-check-2
returns-in_err-check-2 c =
    let e = err_from_is_err_and c.from_residual-in_err-check-2.result c.from_residual-in_err-check-2.ensures.1 in
    rw (e.1, e.2) (bad_tree (sym c.in_ok-check.ensures) (sym c.in_err-check-2.ensures))

pub accepts-requires : goal.accepts-requires
accepts-requires c = decidable_of c.args.symbols c.args.marks.now c.args.rules.now c.args.nodes.now (sym c.in_ok-check.ensures) (sym c.in_ok-check-2.ensures)

pub returns : goal.returns
returns c = judged_told c.accepts.result (sym c.in_ok-check.ensures) (sym c.in_ok-check-2.ensures) c.accepts.ensures
