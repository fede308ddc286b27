-- `model_table::mark_of` meets its contract: the mark of a state. Assumes nothing.
use Rattle.model_table.proofs.MarkLaws.{mark_inside, mark_start, mark_element}
use Rattle.model_table.proofs.mark_of.Goals as goal

pub returns-then-symbols-q : goal.returns-then-symbols-q
returns-then-symbols-q c = mark_inside _ _ _ c.if-symbols-q.true

pub returns-then-q-start : goal.returns-then-q-start
returns-then-q-start c = mark_start _ _ _ c.if-symbols-q.false c.if-q-start.true

pub returns : goal.returns
returns c = mark_element _ _ _ c.if-symbols-q.false c.if-q-start.false
