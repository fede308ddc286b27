-- `model_fill::Slices::clear` meets its contract: four filled slices keep the states of no line.
use mathlib.Core.Path.{refl}
use Rattle.model_fill.proofs.ClearLaws.{cleared}
use Rattle.model_fill.proofs.Slices.clear.Goals as goal

pub returns-clause-kept : goal.returns-clause-kept
returns-clause-kept c = cleared refl c.requires c.fill.ensures c.fill-2.ensures c.fill-3.ensures c.fill-4.ensures
