use mathlib.Core.Path.{refl, ◌∙◌}
use Rattle.include_text.proofs.NodeLaws.{fit_more, fit_none}
use Rattle.include_text.proofs.write_nodes.Goals as goal

pub loop-i-init : goal.loop-i-init
loop-i-init c = record { same = refl; fit = fit_none _ _ c.args.nodes.now }

pub loop-i-preserved : goal.loop-i-preserved
loop-i-preserved c = record {
  same = c.write_node.ensures.same ∙ c.loop-i.invariant.same;
  fit = fit_more c.args.nodes.now c.loop-i.i c.loop-i.invariant.fit c.write_node.ensures.wrote;
}
