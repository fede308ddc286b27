-- `model_sets::bear` meets its contract: only a symbol is written down.
use Rattle.model_sets.proofs.Taken.{bear_none, bear_one}
use Rattle.model_sets.proofs.bear.Goals as goal

pub returns-in_default : goal.returns-in_default
returns-in_default c = bear_none _ _ _ c.in_default.not-Symbol

pub returns : goal.returns
returns c = bear_one _ _ c.in-Symbol.is
