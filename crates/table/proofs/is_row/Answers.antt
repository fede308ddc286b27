-- `table::is_row` meets its contract.
use native.Mathlib.Omega.{arith}
use Rattle.paper.specs.Limits.{limits}
use Rattle.table.proofs.Rows.{row_is}
use Rattle.table.proofs.is_row.Goals as goal

pub returns : goal.returns
returns c = rw c.eq.ensures (row_is {w = limits.width} (omega arith) c.row_at.result c.args.rule c.row_at.ensures)
