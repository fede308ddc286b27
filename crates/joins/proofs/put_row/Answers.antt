-- `joins::put_row` meets its contract: the position is put if both tests pass.
use native.Mathlib.Omega.{arith}
use Rattle.joins.proofs.Lists.{row_joins}
use Rattle.joins.specs.Work.{put, skipped}
use Rattle.joins.proofs.put_row.Goals as goal

pub returns-then-rules-row-ne-JOIN_RULE : goal.returns-then-rules-row-ne-JOIN_RULE
returns-then-rules-row-ne-JOIN_RULE c = skipped (λ j. c.if-rules-row-ne-JOIN_RULE.true j.kind)

pub returns-then-rules-row : goal.returns-then-rules-row
returns-then-rules-row c = skipped (λ j. c.if-rules-row.true j.left)

pub offset_bounds-index-end : goal.offset_bounds-index-end
offset_bounds-index-end c = let h = c.requires.room (row_joins c.requires c.if-rules-row-ne-JOIN_RULE.false c.if-rules-row.false) in omega arith

pub bounds-index-end : goal.bounds-index-end
bounds-index-end c = c.requires.room (row_joins c.requires c.if-rules-row-ne-JOIN_RULE.false c.if-rules-row.false)

pub overflow_add-result : goal.overflow_add-result
overflow_add-result c = let h = c.requires.room (row_joins c.requires c.if-rules-row-ne-JOIN_RULE.false c.if-rules-row.false) in omega arith

pub returns : goal.returns
returns c = put (row_joins c.requires c.if-rules-row-ne-JOIN_RULE.false c.if-rules-row.false)
