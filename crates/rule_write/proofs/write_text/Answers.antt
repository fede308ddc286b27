-- `rule_write::write_text` meets its contract: a refused table and a short slice write nothing, and else the whole text has room.
use mathlib.Core.Path.{sym}
use native.Mathlib.Omega.{arith}
use Rattle.std.proofs.lemmas.Result.{err_from_is_err_and}
use Rattle.paper.specs.Limits.{limits}
use Rattle.put.proofs.PutLaws.{fit_kept}
use Rattle.std.proofs.Common.{rules}
use Rattle.rule_write.proofs.WriteLaws.{passes_states, text_laid, writes_fault, writes_short, writes_all}
use Rattle.rule_write.proofs.Size.{table_text_size}
use Rattle.rule_write.proofs.write_text.Goals as goal

pub returns-in_err-check : goal.returns-in_err-check
returns-in_err-check c =
    let p = err_from_is_err_and c.from_residual.result c.from_residual.ensures.1 in
    rw (p.1, p.2) (writes_fault limits _ _ _ _ (sym c.in_err-check.ensures))

pub returns-then-out-lt-TEXT : goal.returns-then-out-lt-TEXT
returns-then-out-lt-TEXT c = rw c.at.ensures (writes_short limits _ _ _ _ (sym c.in_ok-check.ensures) c.if-out-lt-TEXT.true)

pub overflow_cast-states : goal.overflow_cast-states
overflow_cast-states c = omega (arith, passes_states limits c.args.symbols c.args.marks.now c.args.rules.now c.args.out.now (sym c.in_ok-check.ensures))

pub write_states-requires : goal.write_states-requires
write_states-requires c = omega (arith, passes_states limits c.args.symbols c.args.marks.now c.args.rules.now c.args.out.now (sym c.in_ok-check.ensures))

pub returns : goal.returns
returns c = let p = sym c.in_ok-check.ensures in
    let size = table_text_size c.args.symbols c.args.marks.now c.args.rules.now p in
    writes_all limits c.args.symbols c.args.marks.now c.args.rules.now c.args.out.now p c.if-out-lt-TEXT.false (omega arith)
    (fit_kept (search rules) (text_laid limits c.args.symbols c.args.marks.now c.args.rules.now c.args.out.now c.write_line.ensures.wrote c.write_states.ensures.fit c.write_rules.ensures.fit))
