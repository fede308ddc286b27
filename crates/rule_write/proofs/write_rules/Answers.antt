use mathlib.Core.Path.{refl, ◌∙◌}
use Rattle.paper.specs.Limits.{limits}
use Rattle.rule_write.specs.Write.{rules_text_of}
use Rattle.rule_write.proofs.WriteLaws.{laid_none, row_line, rules_more}
use Rattle.rule_write.proofs.write_rules.Goals as goal

pub loop-i-init : goal.loop-i-init
unfolding rules_text_of
loop-i-init c = record { same = refl; laid = laid_none _ _ }

pub loop-i-preserved : goal.loop-i-preserved
loop-i-preserved c = record {
  same = c.write_line.ensures.same ∙ c.loop-i.invariant.same;
  laid = rules_more limits.width c.args.rules.now _ c.loop-i.invariant.laid (rw (row_line c.in-Some.ensures) c.write_line.ensures.wrote);
}
