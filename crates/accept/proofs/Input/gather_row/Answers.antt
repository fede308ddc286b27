-- `accept::Input::gather_row` meets its contract: the rule fits and its target is put, or the memory stays.
use Rattle.paper.specs.Limits.{limits}
use Rattle.accept.specs.Work.{span}
use Rattle.accept.proofs.GatherLaws.{gathered_one}
use Rattle.accept.proofs.Input.gather_row.Goals as goal

pub returns : goal.returns
returns c = gathered_one span limits.width c.args.self.now.rules.now c.args.self.now.nodes.now c.args.i c.args.k c.args.work.now _ (c.fits.ensures.yes c.if-not-fits.false) c.add.ensures
