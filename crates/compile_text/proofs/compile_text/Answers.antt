-- `compile_text::compile_text` meets its contract: 1; the line of a refusal; or the text of the table, which is never refused.
use native.Mathlib.Omega.{arith}
use mathlib.Core.Path.{sym}
use lib.Seq.{length-take-le}
use Rattle.paper.specs.Limits.{limits}
use Rattle.std.proofs.Common.{rules}
use Rattle.put.proofs.PutLaws.{wrote_kept}
use Rattle.answers.proofs.WrittenLaws.{writes_short}
use Rattle.compile_text.specs.Answer.{compile_text_of}
use Rattle.compile_text.proofs.CompileLaws.{answers_refused, states_inside, rules_inside, answers_table}
use Rattle.compile_text.proofs.compile_text.Goals as goal

pub returns-then-out-lt-TEXT : goal.returns-then-out-lt-TEXT
returns-then-out-lt-TEXT c = rw c.at.ensures (writes_short limits.text (compile_text_of limits c.args.text.now) c.args.out.now c.if-out-lt-TEXT.true)

pub overflow_mul-end : goal.overflow_mul-end
overflow_mul-end c = omega (arith, rules_inside c.compile.ensures (omega arith) (omega arith) c.in-Ok.is, c.compile.auto.rules)

pub slice_bounds-marks-end : goal.slice_bounds-marks-end
slice_bounds-marks-end c = states_inside c.compile.ensures (omega arith) (omega arith) c.in-Ok.is

pub slice_bounds-write_text-end : goal.slice_bounds-write_text-end
slice_bounds-write_text-end c = sym (length-take-le _ _ (states_inside c.compile.ensures (omega arith) (omega arith) c.in-Ok.is))

pub slice_bounds-rules-end : goal.slice_bounds-rules-end
slice_bounds-rules-end c = rules_inside c.compile.ensures (omega arith) (omega arith) c.in-Ok.is

pub slice_bounds-write_text-end-in-Ok : goal.slice_bounds-write_text-end-in-Ok
slice_bounds-write_text-end-in-Ok c = sym (length-take-le _ _ (rules_inside c.compile.ensures (omega arith) (omega arith) c.in-Ok.is))

pub returns-in-Err : goal.returns-in-Err
returns-in-Err c = answers_refused c.compile.ensures (omega arith) (omega arith) c.in-Err.is (omega arith) (wrote_kept (search rules) c.write_refused.ensures.wrote)

pub returns-in-Ok : goal.returns-in-Ok
returns-in-Ok c = answers_table c.compile.ensures (omega arith) (omega arith) c.in-Ok.is (omega arith) c.write_text.ensures
