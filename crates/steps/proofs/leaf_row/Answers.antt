-- `steps::leaf_row` meets its contract: the rule is no leaf rule, or its pair is added.
use Rattle.paper.specs.Limits.{limits}
use Rattle.steps.proofs.RunLaws.{leaf_skips, leaf_adds}
use Rattle.steps.proofs.leaf_row.Goals as goal

pub returns-then-rule-ne-LEAF_RULE-clause-step : goal.returns-then-rule-ne-LEAF_RULE-clause-step
returns-then-rule-ne-LEAF_RULE-clause-step c = leaf_skips limits (c.rule_row-rule.ensures.inside c.requires) c.if-rule-ne-LEAF_RULE.true

pub returns-clause-step : goal.returns-clause-step
returns-clause-step c = leaf_adds limits (c.rule_row-rule.ensures.inside c.requires) c.if-rule-ne-LEAF_RULE.false c.leaf_state-q.ensures c.number-c.ensures c.add.ensures.added
