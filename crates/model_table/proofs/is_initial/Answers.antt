-- `model_table::is_initial` meets its contract: it answers whether a state is the initial one of a symbol. Assumes nothing.
use Rattle.model_table.proofs.CountLaws.{starts_none, starts_some}
use Rattle.model_table.proofs.is_initial.Goals as goal

pub returns-then-s-q : goal.returns-then-s-q
returns-then-s-q c = starts_none _ _ _ c.if-s-q.true

pub returns : goal.returns
returns c = starts_some _ _ _ c.if-s-q.false
