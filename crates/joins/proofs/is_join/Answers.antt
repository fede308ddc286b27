-- `joins::is_join` meets its contract: the row's place, then its numbers are compared.
use native.Mathlib.Omega.{arith}
use mathlib.Core.Path.{refl}
use Rattle.paper.specs.Limits.{limits}
use Rattle.paper.proofs.TellsLaws.{tells_no, tells_eq}
use Rattle.table.proofs.Rows.{row_whole}
use Rattle.joins.proofs.SearchLaws.{not_whole}
use Rattle.joins.proofs.is_join.Goals as goal

pub returns-then-rules-i : goal.returns-then-rules-i
returns-then-rules-i c = tells_no (not_whole {w = limits.width} (omega arith) c.args.rules.now c.if-rules-i.true)

pub returns-then-rules-row : goal.returns-then-rules-row
returns-then-rules-row c = tells_no (λ (q, row). c.if-rules-row.true row.right)

pub returns-then-rules-row-ne-JOIN_RULE : goal.returns-then-rules-row-ne-JOIN_RULE
returns-then-rules-row-ne-JOIN_RULE c = tells_no (λ (q, row). c.if-rules-row-ne-JOIN_RULE.true row.kind)

pub returns : goal.returns
returns c = tells_eq _ _
    (λ e. (_, record { inside = row_whole {w = limits.width} (omega arith) _ _ c.if-rules-i.false; kind = c.if-rules-row-ne-JOIN_RULE.false; left = e; right = c.if-rules-row.false; target = refl }))
    (λ d (q, row). d row.left)
