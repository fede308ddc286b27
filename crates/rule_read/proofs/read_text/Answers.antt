-- `rule_read::read_text` meets its contract: without room or with a refusal nothing is written, else the table is copied.
use Prim.Native.Nat.{ℕ, ◌*◌}
use mathlib.Core.Path.{refl, ap}
use mathlib.Core.Logic.{inl, inr}
use mathlib.Core.List.{List, ◌++◌}
use lib.ListN.{drop}
use native.Mathlib.Omega.{arith}
use Rattle.std.proofs.lemmas.Result.{err_from_is_err_and}
use Rattle.paper.specs.Limits.{limits}
use Rattle.rule_read.proofs.Filling.{reads_short, reads_refused, reads_table}
use Rattle.table.proofs.RoomLaws.{roomy}
use Rattle.rule_read.proofs.read_text.Goals as goal

pub returns-then-marks-lt-STATES : goal.returns-then-marks-lt-STATES
returns-then-marks-lt-STATES c = reads_short limits _ _ _ (inl c.if-marks-lt-STATES.true) c.at.ensures

pub returns-then-rules-lt-RULE_NUMBERS : goal.returns-then-rules-lt-RULE_NUMBERS
returns-then-rules-lt-RULE_NUMBERS c = reads_short limits _ _ _ (inr c.if-rules-lt-RULE_NUMBERS.true) c.at-then-rules-lt-RULE_NUMBERS.ensures

pub returns-in_err-found : goal.returns-in_err-found
returns-in_err-found c =
    let p = err_from_is_err_and c.from_residual.result c.from_residual.ensures.1 in
    let h = roomy limits c.args.marks.now c.args.rules.now c.if-marks-lt-STATES.false c.if-rules-lt-RULE_NUMBERS.false in
    rw (p.1, p.2) (reads_refused limits _ _ _ h c.in_err-found.ensures refl)

pub overflow_mul-numbers : goal.overflow_mul-numbers
overflow_mul-numbers c = omega (arith, (c.in_ok-found.ensures.fronts refl).rules_in, c.read_work.auto)

pub slice_bounds-copy_from_slice-end : goal.slice_bounds-copy_from_slice-end
slice_bounds-copy_from_slice-end c = omega (arith, (c.in_ok-found.ensures.fronts refl).marks_in, c.read_work.auto, c.if-marks-lt-STATES.false)

pub slice_bounds-ms-end : goal.slice_bounds-ms-end
slice_bounds-ms-end c = (c.in_ok-found.ensures.fronts refl).marks_in

pub returns : goal.returns
returns c =
    let h = roomy limits c.args.marks.now c.args.rules.now c.if-marks-lt-STATES.false c.if-rules-lt-RULE_NUMBERS.false in
    reads_table limits _ _ _ h c.in_ok-found.ensures refl
    (ap (λ (x : List ℕ). x ++ drop c.in_ok-found.found.states c.args.marks.now) c.copy_from_slice.ensures.after)
    (ap (λ (x : List ℕ). x ++ drop (c.in_ok-found.found.rules * 4) c.args.rules.now) c.copy_from_slice-2.ensures.after)
