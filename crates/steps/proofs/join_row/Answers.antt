use Prim.Native.Nat.{◌+◌}
use mathlib.Core.Path.{◌≡◌}
use native.Mathlib.Omega.{arith}
use Rattle.paper.specs.Limits.{limits}
use Rattle.pairs.proofs.WorkLaws.{kept_here, kept_then}
use Rattle.steps.specs.Runs.{none}
use Rattle.steps.proofs.RunLaws.{times_more, row_skips, row_joins, row_idles}
use Rattle.steps.proofs.join_row.Goals as goal

pub returns-then-rule-ne-JOIN_RULE-clause-steps : goal.returns-then-rule-ne-JOIN_RULE-clause-steps
returns-then-rule-ne-JOIN_RULE-clause-steps c = row_skips limits (c.rule_row-rule.ensures.inside c.requires) c.if-rule-ne-JOIN_RULE.true

pub returns-then-rule-pair-2-clause-steps : goal.returns-then-rule-pair-2-clause-steps
returns-then-rule-pair-2-clause-steps c = row_idles limits (c.rule_row-rule.ensures.inside c.requires) c.if-rule-ne-JOIN_RULE.false c.if-rule-pair.true c.if-rule-pair-2.true

pub loop-y-init : goal.loop-y-init
loop-y-init c = (kept_here, none)

pub loop-y-preserved : goal.loop-y-preserved
loop-y-preserved c = let (k, t) = c.loop-y.invariant in
    (kept_then k c.join_both.ensures.kept, times_more t (rw k.sizes at c.join_both.ensures.steps))

pub returns-clause-steps : goal.returns-clause-steps
returns-clause-steps c = let e : c.loop-y.y ≡ c.args.queue.now.sizes.receivers + 1 = omega arith in
    row_joins limits (c.rule_row-rule.ensures.inside c.requires) c.if-rule-ne-JOIN_RULE.false (rw e at c.loop-y.invariant.1)
