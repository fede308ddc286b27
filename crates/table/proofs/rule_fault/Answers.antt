-- `table::rule_fault` meets its contract: each number by what the three tests tell.
use mathlib.Core.Path.{sym}
use native.Mathlib.Omega.{arith}
use Rattle.paper.specs.Limits.{limits}
use Rattle.table.proofs.Exact.{rule_fault_lem, shape, range, again, none}
use Rattle.table.proofs.Rows.{row_below, row_shape, row_shaped, row_range, row_ranged, row_again, row_new}
use Rattle.table.proofs.rule_fault.Goals as goal

pub returns-in_err-rule : goal.returns-in_err-rule
returns-in_err-rule c = absurd (omega (arith, row_below {w = limits.width} (omega arith) _ _ c.requires.width_in_bounds, c.in_err-rule.ensures))

pub returns-then-misshapen : goal.returns-then-misshapen
returns-then-misshapen c = sym (rule_fault_lem limits c.args.symbols c.args.states c.args.rules.now c.args.i
    (shape (row_shape limits _ _ c.in_ok-rule.ensures (c.misshapen.ensures.yes c.if-misshapen.true))))

pub returns-then-out_of_range : goal.returns-then-out_of_range
returns-then-out_of_range c = sym (rule_fault_lem limits c.args.symbols c.args.states c.args.rules.now c.args.i
    (range (row_shaped limits _ _ c.in_ok-rule.ensures (c.misshapen.ensures.no c.if-misshapen.false))
    (row_range limits _ _ c.in_ok-rule.ensures _ _ (c.out_of_range.ensures.yes c.if-out_of_range.true))))

pub returns-then-is_repeat : goal.returns-then-is_repeat
returns-then-is_repeat c = sym (rule_fault_lem limits c.args.symbols c.args.states c.args.rules.now c.args.i
    (again (row_shaped limits _ _ c.in_ok-rule.ensures (c.misshapen.ensures.no c.if-misshapen.false))
    (row_ranged limits _ _ c.in_ok-rule.ensures _ _ (c.out_of_range.ensures.no c.if-out_of_range.false))
    (row_again limits _ _ c.in_ok-rule.ensures (c.is_repeat.ensures.yes c.if-is_repeat.true))))

pub returns : goal.returns
returns c = sym (rule_fault_lem limits c.args.symbols c.args.states c.args.rules.now c.args.i
    (none (record {
      shaped = row_shaped limits _ _ c.in_ok-rule.ensures (c.misshapen.ensures.no c.if-misshapen.false);
      in_range = row_ranged limits _ _ c.in_ok-rule.ensures _ _ (c.out_of_range.ensures.no c.if-out_of_range.false);
      new = row_new limits _ _ c.in_ok-rule.ensures (c.is_repeat.ensures.no c.if-is_repeat.false);
    })))
