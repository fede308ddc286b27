use mathlib.Core.Path.{refl, ◌∙◌}
use Rattle.rule_write.specs.Write.{states_text_of}
use Rattle.rule_write.proofs.WriteLaws.{laid_none, states_more}
use Rattle.rule_write.proofs.write_states.Goals as goal

pub loop-i-init : goal.loop-i-init
unfolding states_text_of
loop-i-init c = record { same = refl; laid = laid_none _ _ }

pub loop-i-preserved : goal.loop-i-preserved
loop-i-preserved c = record {
  same = c.write_line.ensures.same ∙ c.loop-i.invariant.same;
  laid = states_more c.args.marks.now _ c.loop-i.invariant.laid c.write_line.ensures.wrote;
}
