-- `include_text::include_receiver` meets its contract: the receiver's refusal, or what the comparison tells.
use native.Mathlib.Omega.{arith}
use mathlib.Core.Path.{sym}
use lib.Seq.{length-take-le}
use Rattle.include_text.proofs.AnswerLaws.{text_refused, text_right, states_inside, rules_inside, table_read, meets_refused, enough, meets}
use Rattle.include_text.proofs.include_receiver.Goals as goal

pub overflow_mul-end : goal.overflow_mul-end
overflow_mul-end c = omega (arith, rules_inside c.read_text.ensures (omega arith) (omega arith) c.in-Ok.is, c.read_text.auto.rules)

pub slice_bounds-own_marks-end : goal.slice_bounds-own_marks-end
slice_bounds-own_marks-end c = states_inside c.read_text.ensures (omega arith) (omega arith) c.in-Ok.is

pub slice_bounds-include-end : goal.slice_bounds-include-end
slice_bounds-include-end c = sym (length-take-le _ _ (states_inside c.read_text.ensures (omega arith) (omega arith) c.in-Ok.is))

pub slice_bounds-own_rules-end : goal.slice_bounds-own_rules-end
slice_bounds-own_rules-end c = rules_inside c.read_text.ensures (omega arith) (omega arith) c.in-Ok.is

pub slice_bounds-include-end-in-Ok : goal.slice_bounds-include-end-in-Ok
slice_bounds-include-end-in-Ok c = sym (length-take-le _ _ (rules_inside c.read_text.ensures (omega arith) (omega arith) c.in-Ok.is))

pub write_answer-requires : goal.write_answer-requires
write_answer-requires c = enough c.include-answer.ensures

pub returns-in-Err-clause-meets : goal.returns-in-Err-clause-meets
returns-in-Err-clause-meets c = meets_refused (text_refused c.read_text.ensures (omega arith) (omega arith) c.in-Err.is) c.requires.room
    (rw (c.of.ensures, c.requires.front) at c.write_refused.ensures.wrote)

pub returns-in-Ok-clause-meets : goal.returns-in-Ok-clause-meets
returns-in-Ok-clause-meets c = meets (text_right c.read_text.ensures (omega arith) (omega arith) c.in-Ok.is) (table_read c.read_text.ensures (omega arith) (omega arith) c.in-Ok.is) (omega arith) c.requires.room c.include-answer.ensures
    (rw c.requires.front at c.write_answer.ensures.fit)
