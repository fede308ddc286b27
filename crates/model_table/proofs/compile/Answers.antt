-- `model_table::compile` meets its contract: each refusal and the table by the law of `Compiling` or `Exact` for it.
use mathlib.Core.Path.{refl, ap, ◌∙◌}
use Rattle.std.proofs.lemmas.Result.{err_from_is_err_and}
use Rattle.paper.specs.Told.{refusal}
use mathlib.Core.Logic.{inl, inr}
use native.Mathlib.Omega.{arith}
use Rattle.paper.specs.Limits.{limits}
use Rattle.table.proofs.RoomLaws.{roomy}
use Rattle.model_table.proofs.Exact.{compile_short}
use Rattle.model_table.proofs.Compiling.{compiles_refused, fill_refused, states_few, still_long, marks_room, too_many, rules_room, compiles_table}
use Rattle.model_table.specs.Compile.{told}
use Rattle.model_table.proofs.Compiling.{empty_long}
use Rattle.model_table.proofs.compile.Goals as goal

pub returns-then-marks-lt-STATES : goal.returns-then-marks-lt-STATES
returns-then-marks-lt-STATES c = compiles_refused limits _ _ _ (ap refusal c.at.ensures) (compile_short limits _ _ _ (inl c.if-marks-lt-STATES.true))

pub returns-then-rules-lt-RULE_NUMBERS : goal.returns-then-rules-lt-RULE_NUMBERS
returns-then-rules-lt-RULE_NUMBERS c = compiles_refused limits _ _ _ (ap refusal c.at-then-rules-lt-RULE_NUMBERS.ensures) (compile_short limits _ _ _ (inr c.if-rules-lt-RULE_NUMBERS.true))

pub count_rules-count-requires : goal.count_rules-count-requires
count_rules-count-requires c = (states_few limits _ c.args.marks.now c.args.rules.now (roomy limits c.args.marks.now c.args.rules.now c.if-marks-lt-STATES.false c.if-rules-lt-RULE_NUMBERS.false) empty_long c.fill_states.ensures c.in_ok-survey.was, still_long limits _ c.args.marks.now c.args.rules.now (roomy limits c.args.marks.now c.args.rules.now c.if-marks-lt-STATES.false c.if-rules-lt-RULE_NUMBERS.false) empty_long c.fill_states.ensures c.in_ok-survey.was)

pub returns-then-count-gt-RULES : goal.returns-then-count-gt-RULES
returns-then-count-gt-RULES c = compiles_refused limits _ _ _ (ap refusal c.at-then-count-gt-RULES.ensures) (too_many limits _ c.args.marks.now c.args.rules.now (roomy limits c.args.marks.now c.args.rules.now c.if-marks-lt-STATES.false c.if-rules-lt-RULE_NUMBERS.false) empty_long c.fill_states.ensures c.in_ok-survey.was (omega arith) refl c.count_rules-count.ensures c.if-count-gt-RULES.true)

pub write_marks-requires : goal.write_marks-requires
write_marks-requires c = marks_room limits _ c.args.marks.now c.args.rules.now (roomy limits c.args.marks.now c.args.rules.now c.if-marks-lt-STATES.false c.if-rules-lt-RULE_NUMBERS.false) empty_long c.fill_states.ensures c.in_ok-survey.was

pub write_rules-requires : goal.write_rules-requires
write_rules-requires c = (states_few limits _ c.args.marks.now c.args.rules.now (roomy limits c.args.marks.now c.args.rules.now c.if-marks-lt-STATES.false c.if-rules-lt-RULE_NUMBERS.false) empty_long c.fill_states.ensures c.in_ok-survey.was, still_long limits _ c.args.marks.now c.args.rules.now (roomy limits c.args.marks.now c.args.rules.now c.if-marks-lt-STATES.false c.if-rules-lt-RULE_NUMBERS.false) empty_long c.fill_states.ensures c.in_ok-survey.was, rules_room limits _ c.args.marks.now c.args.rules.now (roomy limits c.args.marks.now c.args.rules.now c.if-marks-lt-STATES.false c.if-rules-lt-RULE_NUMBERS.false) empty_long c.fill_states.ensures c.in_ok-survey.was (omega arith) refl c.count_rules-count.ensures c.if-count-gt-RULES.false)

pub returns-in_err-survey : goal.returns-in_err-survey
returns-in_err-survey c =
    let p = err_from_is_err_and c.from_residual.result c.from_residual.ensures.1 in
    compiles_refused limits _ _ _ (ap told p.1 ∙ ap refusal p.2) (fill_refused limits _ c.args.marks.now c.args.rules.now (roomy limits c.args.marks.now c.args.rules.now c.if-marks-lt-STATES.false c.if-rules-lt-RULE_NUMBERS.false) empty_long c.fill_states.ensures c.in_err-survey.was)

pub returns : goal.returns
returns c = compiles_table limits _ c.args.marks.now c.args.rules.now (roomy limits c.args.marks.now c.args.rules.now c.if-marks-lt-STATES.false c.if-rules-lt-RULE_NUMBERS.false) empty_long c.fill_states.ensures c.in_ok-survey.was (omega arith) refl c.count_rules-count.ensures c.if-count-gt-RULES.false c.write_marks.ensures c.write_rules.ensures
