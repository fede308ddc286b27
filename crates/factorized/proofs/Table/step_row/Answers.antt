-- `factorized::Table::step_row` meets its contract: the rule takes no ε step from the flags, its target is flagged already, or it is flagged.
use mathlib.Core.Path.{◌∙◌, sym}
use native.Mathlib.Omega.{arith}
use Rattle.paper.specs.Limits.{limits}
use Rattle.paper.proofs.TellsLaws.{true_not_false}
use Rattle.factorized.proofs.RangeLaws.{in_range_wider}
use Rattle.factorized.proofs.EpsilonLaws.{rowed_same, rowed_one}
use Rattle.factorized.proofs.Table.step_row.Goals as goal

pub returns-then-self-k-ne-EPSILON_RULE : goal.returns-then-self-k-ne-EPSILON_RULE
returns-then-self-k-ne-EPSILON_RULE c = rowed_same limits c.args.self.now.rules.now c.args.k c.args.reached.now (λ e. absurd (c.if-self-k-ne-EPSILON_RULE.true e))

pub returns-then-not-reached-from : goal.returns-then-not-reached-from
returns-then-not-reached-from c = let r = c.rule-rule.ensures in
    rowed_same limits c.args.self.now.rules.now c.args.k c.args.reached.now (rw (r.kind, r.left, r.target) (λ e h. absurd (true_not_false (sym h ∙ c.if-not-reached-from.true))))

pub returns-then-reached-to : goal.returns-then-reached-to
returns-then-reached-to c = let r = c.rule-rule.ensures in
    rowed_same limits c.args.self.now.rules.now c.args.k c.args.reached.now (rw (r.kind, r.left, r.target) (λ e h. c.if-reached-to.true))

pub returns : goal.returns
returns c = let r = c.rule-rule.ensures in rw (sym r.target) (rowed_one limits c.args.self.now.rules.now c.args.k c.args.reached.now (omega arith) (in_range_wider (omega (arith, c.requires.reached)) c.args.self.now.ranged.rules) c.requires.k_in_bounds
    c.if-self-k-ne-EPSILON_RULE.false (rw r.left c.if-not-reached-from.false) (rw r.target c.if-reached-to.false))
