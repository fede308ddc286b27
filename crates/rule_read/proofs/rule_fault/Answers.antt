-- `rule_read::rule_fault` meets its contract: the lowest number by the first of the four tests that tells.
use mathlib.Core.Path.{sym}
use Rattle.paper.specs.Limits.{limits}
use Rattle.rule_read.proofs.Verdict.{rule_early}
use Rattle.rule_read.proofs.Rows.{front_many, front_range, front_again, front_none}
use Rattle.rule_read.proofs.Said.{wide_limits}
use Rattle.rule_read.proofs.rule_fault.Goals as goal

pub returns-then-done-states : goal.returns-then-done-states
returns-then-done-states c = sym (rule_early limits _ _ _ _ _ _ _ _ c.if-done-states.true)

pub returns-then-done-ge-RULES : goal.returns-then-done-ge-RULES
returns-then-done-ge-RULES c = sym (front_many limits wide_limits _ _ _ c.args.rules.now _ c.requires _ _ _ _ c.if-done-states.false c.if-done-ge-RULES.true)

pub returns-then-out_of_range : goal.returns-then-out_of_range
returns-then-out_of_range c = sym (front_range limits wide_limits _ _ _ c.args.rules.now _ c.requires _ _ _ _ c.if-done-states.false c.if-done-ge-RULES.false (c.out_of_range.ensures.yes c.if-out_of_range.true))

pub returns-then-has_row : goal.returns-then-has_row
returns-then-has_row c = sym (front_again limits wide_limits _ _ _ c.args.rules.now _ c.requires _ _ _ _ c.if-done-states.false c.if-done-ge-RULES.false (c.out_of_range.ensures.no c.if-out_of_range.false) (c.has_row.ensures.yes c.if-has_row.true))

pub returns : goal.returns
returns c = sym (front_none limits wide_limits _ _ _ c.args.rules.now _ c.requires _ _ _ _ c.if-done-states.false c.if-done-ge-RULES.false (c.out_of_range.ensures.no c.if-out_of_range.false) (c.has_row.ensures.no c.if-has_row.false))
