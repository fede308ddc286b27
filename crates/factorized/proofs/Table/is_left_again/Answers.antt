-- `factorized::Table::is_left_again` meets its contract: an ε rule, a left side that the set has, one that is put into it.
use borrow.Author.Tests.{eqb-true, eqb-false}
use mathlib.Core.Path.{sym, ◌∙◌}
use Rattle.paper.specs.Limits.{limits}
use Rattle.factorized.proofs.RangeLaws.{in_limits}
use Rattle.factorized.proofs.SideLaws.{looked_again, looked_new}
use Rattle.factorized.proofs.Table.is_left_again.Goals as goal

pub returns-then-get : goal.returns-then-get
returns-then-get c = looked_again limits c.args.self.now.rules.now (in_limits c.args.self.now.ranged) c.args.i c.requires.i_in_bounds c.args.seen.now c.requires.seen c.side-s.result (let r = c.rule-rule.ensures in rw (r.kind, r.left, r.right) c.side-s.ensures) (λ e. c.if-rule-eq-EPSILON_RULE.false (sym c.rule-rule.ensures.kind ∙ e)) (eqb-true _ _ (sym c.get.ensures ∙ c.if-get.true))

pub returns : goal.returns
returns c = looked_new limits c.args.self.now.rules.now (in_limits c.args.self.now.ranged) c.args.i c.requires.i_in_bounds c.args.seen.now c.requires.seen c.side-s.result (let r = c.rule-rule.ensures in rw (r.kind, r.left, r.right) c.side-s.ensures) (λ e. c.if-rule-eq-EPSILON_RULE.false (sym c.rule-rule.ensures.kind ∙ e)) _ (eqb-false _ _ (sym c.get.ensures ∙ c.if-get.false)) c.put.ensures
