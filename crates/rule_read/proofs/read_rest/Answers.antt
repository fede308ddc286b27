use mathlib.Core.Path.{refl, ◌∙◌}
use native.Mathlib.Omega.{arith}
use Rattle.paper.specs.Limits.{limits}
use Rattle.paper.proofs.FaultLaws.{fault_number}
use Rattle.lines.proofs.LinesLaws.{lines_at}
use Rattle.rule_read.proofs.Said.{wide_limits}
use Rattle.rule_read.proofs.Going.{going_start, going_refused, going_fits, going_on, going_short, going_table}
use Rattle.rule_read.proofs.read_rest.Goals as goal

pub loop-at-init : goal.loop-at-init
loop-at-init c = (going_start limits wide_limits c.requires.0 c.requires.1, (refl, refl))

pub slice_bounds-read_line-count : goal.slice_bounds-read_line-count
slice_bounds-read_line-count c = omega (arith, (lines_at _ _ _ c.loop-at-test.true c.line_end-end.ensures).0)

pub slice_bounds-read_line-start : goal.slice_bounds-read_line-start
slice_bounds-read_line-start c = omega (arith, (lines_at _ _ _ c.loop-at-test.true c.line_end-end.ensures).0)

pub slice_bounds-read_line-end : goal.slice_bounds-read_line-end
slice_bounds-read_line-end c = (lines_at _ _ _ c.loop-at-test.true c.line_end-end.ensures).1

pub returns-in-Some : goal.returns-in-Some
returns-in-Some c = going_refused limits wide_limits c.loop-at.invariant.0 c.loop-at-test.true c.line_end-end.ensures c.read_line-l.ensures c.in-Some.ensures _ _ c.at.ensures (fault_number c.in-Some.fault)

pub store-done-requires : goal.store-done-requires
store-done-requires c = going_fits limits wide_limits c.loop-at.invariant.0 c.loop-at-test.true c.line_end-end.ensures c.read_line-l.ensures c.in_default.ensures refl

pub loop-at-smaller : goal.loop-at-smaller
loop-at-smaller c = let z = (lines_at _ _ _ c.loop-at-test.true c.line_end-end.ensures).0 in omega (arith, z, c.loop-at-test.true)

pub loop-at-preserved : goal.loop-at-preserved
loop-at-preserved c = let st = c.store-done in
    (going_on limits wide_limits c.loop-at.invariant.0 c.loop-at-test.true c.line_end-end.ensures c.read_line-l.ensures c.in_default.ensures refl st.ensures st.auto.marks st.auto.rules, (st.auto.marks ∙ c.loop-at.invariant.1.0, st.auto.rules ∙ c.loop-at.invariant.1.1))

pub returns-then-done-head : goal.returns-then-done-head
returns-then-done-head c = going_short limits wide_limits c.loop-at.invariant.0 c.loop-at-test.false _ _ c.at-then-done-head.ensures c.if-done-head.true

pub returns : goal.returns
returns c = going_table limits wide_limits c.loop-at.invariant.0 c.loop-at-test.false c.if-done-head.false
