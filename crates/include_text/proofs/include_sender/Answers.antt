-- `include_text::include_sender` meets its contract: the sender's refusal; or what the rest meets.
use native.Mathlib.Omega.{arith}
use mathlib.Core.Path.{sym}
use lib.Seq.{length-take-le}
use Rattle.include_text.proofs.AnswerLaws.{text_refused, text_right, states_inside, rules_inside, table_read, answers_refused, answers_met}
use Rattle.include_text.proofs.include_sender.Goals as goal

pub overflow_mul-end : goal.overflow_mul-end
overflow_mul-end c = omega (arith, rules_inside c.read_text.ensures (omega arith) (omega arith) c.in-Ok.is, c.read_text.auto.rules)

pub slice_bounds-marks-end : goal.slice_bounds-marks-end
slice_bounds-marks-end c = states_inside c.read_text.ensures (omega arith) (omega arith) c.in-Ok.is

pub slice_bounds-include_receiver-end : goal.slice_bounds-include_receiver-end
slice_bounds-include_receiver-end c = sym (length-take-le _ _ (states_inside c.read_text.ensures (omega arith) (omega arith) c.in-Ok.is))

pub slice_bounds-rules-end : goal.slice_bounds-rules-end
slice_bounds-rules-end c = rules_inside c.read_text.ensures (omega arith) (omega arith) c.in-Ok.is

pub slice_bounds-include_receiver-end-in-Ok : goal.slice_bounds-include_receiver-end-in-Ok
slice_bounds-include_receiver-end-in-Ok c = sym (length-take-le _ _ (rules_inside c.read_text.ensures (omega arith) (omega arith) c.in-Ok.is))

pub returns-in-Err-clause-answered : goal.returns-in-Err-clause-answered
returns-in-Err-clause-answered c = answers_refused c.requires.room (text_refused c.read_text.ensures (omega arith) (omega arith) c.in-Err.is)
    (rw (c.of.ensures, c.requires.front) at c.write_refused.ensures.wrote)

pub returns-in-Ok-clause-answered : goal.returns-in-Ok-clause-answered
returns-in-Ok-clause-answered c = answers_met c.requires.room (text_right c.read_text.ensures (omega arith) (omega arith) c.in-Ok.is) (table_read c.read_text.ensures (omega arith) (omega arith) c.in-Ok.is) c.include_receiver.ensures.meets
