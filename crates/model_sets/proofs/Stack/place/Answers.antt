-- `model_sets::Stack::place` meets its contract: what is written is the step of a symbol.
use Rattle.paper.specs.Limits.{limits}
use Rattle.model_sets.proofs.Steps.{symbol_steps}
use Rattle.model_sets.proofs.Stack.place.Goals as goal

pub returns-clause-steps : goal.returns-clause-steps
returns-clause-steps c = λ a. symbol_steps limits _ _ _ _ _ a
