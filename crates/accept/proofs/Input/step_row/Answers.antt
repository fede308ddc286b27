-- `accept::Input::step_row` meets its contract: the set has the rule's target already, or it is put, or the rule takes no ε step from the set.
use native.Mathlib.Omega.{arith}
use Rattle.paper.specs.Limits.{limits}
use Rattle.accept.specs.Work.{span}
use Rattle.accept.proofs.EpsilonLaws.{passed_same, passed_one}
use Rattle.accept.proofs.Input.step_row.Goals as goal

pub returns-then-self-r-ne-EPSILON_RULE : goal.returns-then-self-r-ne-EPSILON_RULE
returns-then-self-r-ne-EPSILON_RULE c = passed_same span limits.width c.args.self.now.rules.now c.args.i c.args.k c.args.work.now (λ e. absurd (c.if-self-r-ne-EPSILON_RULE.true e))

pub returns-then-not-has : goal.returns-then-not-has
returns-then-not-has c = passed_same span limits.width c.args.self.now.rules.now c.args.i c.args.k c.args.work.now (λ e x. absurd (c.has.ensures.no c.if-not-has.true x))

pub returns-then-has : goal.returns-then-has
returns-then-has c = passed_same span limits.width c.args.self.now.rules.now c.args.i c.args.k c.args.work.now (λ e x. c.has-2.ensures.yes c.if-has.true)

pub returns : goal.returns
returns c = passed_one span limits.width c.args.self.now.rules.now c.args.i c.args.k c.args.work.now _ (record { states = c.args.self.now.can.states; row = omega arith }) c.if-self-r-ne-EPSILON_RULE.false (c.has.ensures.yes c.if-not-has.false) (c.has-2.ensures.no c.if-has.false) c.add.ensures
