-- `accept::accepts` meets its contract: the memory begins with zeros, and the last node's set tells.
use Prim.Native.Nat.{◌*◌}
use mathlib.Core.Path.{refl}
use Rattle.paper.specs.Limits.{limits}
use Rattle.accept.specs.Work.{words}
use Rattle.accept.proofs.GoingLaws.{going_start, accepts_tells}
use Rattle.accept.proofs.accepts.Goals as goal

pub evaluate-requires : goal.evaluate-requires
evaluate-requires c = going_start c.args.rules.now c.args.nodes.now (words * limits.nodes) refl c.requires.can

pub returns : goal.returns
returns c = accepts_tells c.args.rules.now c.args.nodes.now c.args.marks.now _ c.requires c.evaluate.ensures c.has_final.ensures
