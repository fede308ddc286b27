use mathlib.Core.Path.{sym, ◌∙◌}
use native.Mathlib.Omega.{arith}
use borrow.Author.Count.{below_more}
use lib.ListN.{length}
use Rattle.paper.specs.Limits.{limits}
use Rattle.table.proofs.Rows.{row_below}
use Rattle.moves.specs.Looked.{found, nothing}
use Rattle.moves.proofs.leaf_state.Goals as goal
use Rattle.moves.proofs.leaf_state.Goals.{then-row-eq-LEAF_RULE+else-row-a, else-row-eq-LEAF_RULE}

pub loop-i-init : goal.loop-i-init
loop-i-init c = λ j h. absurd (omega arith)

pub returns-then-row-a : goal.returns-then-row-a
returns-then-row-a c = let e = c.rule_row-row.ensures.inside (omega arith) in
    rw e.to (found {i = c.loop-i.i} (record { inside = omega arith; kind = sym e.kind ∙ c.if-row-eq-LEAF_RULE.true; symbol = sym e.left ∙ c.if-row-a.true }) c.loop-i.invariant)

pub loop-i-preserved : goal.loop-i-preserved
loop-i-preserved c = let e = c.rule_row-row.ensures.inside (omega arith) in
    below_more _ _ c.loop-i.invariant (elim c.if-row-eq-LEAF_RULE.branch [
      | then-row-eq-LEAF_RULE+else-row-a w ↦ λ l. w.if-row-a.false (e.left ∙ l.symbol)
      | else-row-eq-LEAF_RULE w ↦ λ l. w.if-row-eq-LEAF_RULE.false (e.kind ∙ l.kind)
    ])

pub returns : goal.returns
returns c = nothing (λ j l. c.loop-i.invariant j (omega (arith, row_below {w = limits.width} (omega arith) (length c.args.rules.now) j l.inside)) l)
