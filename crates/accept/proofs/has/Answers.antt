-- `accept::has` meets its contract: state q of node i is one bit of the memory.
use Rattle.accept.specs.Work.{span}
use Rattle.accept.proofs.SetLaws.{state_tells}
use Rattle.accept.proofs.has.Goals as goal

pub returns : goal.returns
returns c = rw c.get.ensures (state_tells span c.args.work.now c.args.i c.args.q)
