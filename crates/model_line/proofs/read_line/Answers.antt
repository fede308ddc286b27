-- `model_line::read_line` meets its contract: the letter tells which of the two shapes is read. Assumes nothing.
use mathlib.Core.Path.{sym, ◌∙◌}
use lib.ListN.{length}
use borrow.Author.Tests.{eqb-true}
use Rattle.model_line.proofs.LineLaws.{line_empty, line_other, line_head, line_wrong}
use Rattle.model_line.proofs.read_line.Goals as goal

pub returns-then-is_empty : goal.returns-then-is_empty
returns-then-is_empty c = line_empty _ _ _ (eqb-true (length c.args.x.now) 0 (sym c.if-is_empty.ensures))

pub returns-then-x-ne-LETTER_D : goal.returns-then-x-ne-LETTER_D
returns-then-x-ne-LETTER_D c = c.read_content.ensures ∙ line_other _ _ _ c.if-x-ne-LETTER_D.true

pub returns : goal.returns
returns c = line_head _ _ _ c.if-x-ne-LETTER_D.false (sym c.read_fields.ensures ∙ c.in-Ok.is)

pub returns-in_default : goal.returns-in_default
returns-in_default c = line_wrong _ _ _ c.if-x-ne-LETTER_D.false (sym c.read_fields.ensures ∙ c.in_default.is)
