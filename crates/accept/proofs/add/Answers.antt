-- `accept::add` meets its contract: one bit of the memory is put.
use native.Mathlib.Omega.{arith}
use Rattle.accept.specs.Work.{span}
use Rattle.accept.proofs.SetLaws.{added_of_made}
use Rattle.accept.proofs.add.Goals as goal

pub returns : goal.returns
returns c = added_of_made span c.args.work.now c.args.i c.args.q _ c.requires.1 (omega (arith, c.requires.0.long, c.requires.0.inside)) c.put.ensures
