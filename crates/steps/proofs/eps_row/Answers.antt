-- `steps::eps_row` meets its contract: the rule is no ε rule from the pair's state, or its pair is added.
use Rattle.paper.specs.Limits.{limits}
use Rattle.steps.proofs.RunLaws.{eps_skips, eps_adds}
use Rattle.steps.proofs.eps_row.Goals as goal

pub returns-then-rule-ne-EPSILON_RULE-clause-step : goal.returns-then-rule-ne-EPSILON_RULE-clause-step
returns-then-rule-ne-EPSILON_RULE-clause-step c = eps_skips limits (c.rule_row-rule.ensures.inside c.requires) c.args.pair (λ x. c.if-rule-ne-EPSILON_RULE.true x.0)

pub returns-then-rule-pair-clause-step : goal.returns-then-rule-pair-clause-step
returns-then-rule-pair-clause-step c = eps_skips limits (c.rule_row-rule.ensures.inside c.requires) c.args.pair (λ x. c.if-rule-pair.true x.1)

pub returns-clause-step : goal.returns-clause-step
returns-clause-step c = eps_adds limits (c.rule_row-rule.ensures.inside c.requires) c.args.pair c.if-rule-ne-EPSILON_RULE.false c.if-rule-pair.false c.number-a.ensures c.number-c.ensures c.add.ensures.added
