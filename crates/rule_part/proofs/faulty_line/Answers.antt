-- `rule_part::faulty_line` meets its contract: by whether the sender's text is refused, and then the receiver's.
use mathlib.Core.Path.{◌∙◌}
use Rattle.paper.specs.Limits.{limits}
use Rattle.rule_part.proofs.PartLaws.{part_sender, part_receiver, part_none}
use Rattle.rule_part.proofs.faulty_line.Goals as goal

pub returns-in-Some : goal.returns-in-Some
returns-in-Some c = c.line.ensures ∙ part_sender limits _ _ c.in-Some.ensures.0 c.in-Some.ensures.1

pub returns-in-Some-refused_at : goal.returns-in-Some-refused_at
returns-in-Some-refused_at c = c.line-in-Some-refused_at.ensures ∙ part_receiver limits _ _ c.in_default.ensures c.in-Some-refused_at.ensures.0 c.in-Some-refused_at.ensures.1

pub returns : goal.returns
returns c = part_none limits _ _ c.in_default.ensures c.in_default-refused_at.ensures
