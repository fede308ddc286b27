use mathlib.Core.Path.{◌∙◌, sym, ap}
use mathlib.Core.Logic.{inl, inr}
use native.Mathlib.Omega.{arith}
use borrow.Author.Count.{below_more}
use borrow.Author.Tests.{eqb-true, eqb-false}
use lib.ListN.{length}
use Rattle.paper.specs.Limits.{limits}
use Rattle.paper.specs.Told.{refusal}
use Rattle.tree.proofs.Exact.{refuse_length, refuse_node, pass_all, length_good, node_good}
use Rattle.tree.proofs.check.Goals as goal

pub returns-then-nodes-eq1 : goal.returns-then-nodes-eq1
returns-then-nodes-eq1 c = ap refusal c.at.ensures ∙ sym (refuse_length limits c.args.symbols c.args.nodes.now (inl c.if-nodes-eq1.true))

pub returns-then-is_empty : goal.returns-then-is_empty
returns-then-is_empty c = ap refusal c.at-then-is_empty.ensures ∙ sym (refuse_length limits c.args.symbols c.args.nodes.now (inr (inl (eqb-true (length c.args.nodes.now) 0 (sym c.if-is_empty.ensures)))))

pub returns-then-nodes : goal.returns-then-nodes
returns-then-nodes c = ap refusal c.at-then-nodes.ensures ∙ sym (refuse_length limits c.args.symbols c.args.nodes.now (inr (inr c.if-nodes.true)))

pub returns-then-is_bad : goal.returns-then-is_bad
returns-then-is_bad c = ap refusal c.at-then-is_bad.ensures
    ∙ sym (refuse_node limits c.args.symbols c.args.nodes.now c.loop-i.i (length_good limits c.args.nodes.now c.if-nodes-eq1.false (eqb-false (length c.args.nodes.now) 0 (sym c.if-is_empty.ensures)) c.if-nodes.false) (omega arith) (c.is_bad.ensures.yes c.if-is_bad.true) c.loop-i.invariant)

pub loop-i-preserved : goal.loop-i-preserved
loop-i-preserved c = below_more _ _ c.loop-i.invariant (node_good c.args.symbols c.args.nodes.now c.loop-i.i (c.is_bad.ensures.no c.if-is_bad.false))

pub returns : goal.returns
returns c = sym (pass_all limits c.args.symbols c.args.nodes.now (length_good limits c.args.nodes.now c.if-nodes-eq1.false (eqb-false (length c.args.nodes.now) 0 (sym c.if-is_empty.ensures)) c.if-nodes.false) (λ j h. c.loop-i.invariant j (omega arith)))
