-- `accept::Input::settle` meets its contract: the targets of rules, then all that ε steps reach from them.
use Rattle.accept.proofs.GoingLaws.{going_next}
use Rattle.accept.proofs.Input.settle.Goals as goal

pub returns : goal.returns
returns c = going_next c.args.self.now.rules.now c.args.self.now.nodes.now c.args.work.now c.args.i c.requires.i_in_bounds c.requires.going _ _ c.gather.ensures c.close.ensures
