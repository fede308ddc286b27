-- `factorized::side` meets its contract: a leaf rule's side is its symbol, a join rule's stands behind all symbols.
use mathlib.Core.Path.{sym}
use Rattle.paper.specs.Limits.{limits}
use Rattle.factorized.proofs.SideLaws.{side_leaf, side_join}
use Rattle.factorized.proofs.side.Goals as goal

pub returns-then-rule-eq-LEAF_RULE : goal.returns-then-rule-eq-LEAF_RULE
returns-then-rule-eq-LEAF_RULE c = sym (side_leaf limits c.args.rule.kind c.args.rule.left c.args.rule.right c.if-rule-eq-LEAF_RULE.true)

pub returns : goal.returns
returns c = sym (side_join limits c.args.rule.kind c.args.rule.left c.args.rule.right c.if-rule-eq-LEAF_RULE.false)
