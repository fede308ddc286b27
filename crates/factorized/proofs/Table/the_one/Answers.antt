use mathlib.Core.Path.{sym, ◌∙◌}
use native.Mathlib.Omega.{arith}
use Rattle.factorized.specs.Work.{none}
use Rattle.factorized.proofs.OneLaws.{single_more, single_found}
use Rattle.factorized.proofs.Table.the_one.Goals as goal
use Rattle.factorized.proofs.Table.the_one.Goals.{then-stands+else-is_some, else-stands}

pub loop-q-init : goal.loop-q-init
loop-q-init c = none (λ q h. absurd (omega arith))

pub loop-q-preserved : goal.loop-q-preserved
loop-q-preserved c = elim c.if-stands.branch [
  | then-stands+else-is_some w ↦ rw w.one-is (single_found c.loop-q.invariant (sym w.is_some.ensures ∙ w.if-is_some.false) (c.stands.ensures.yes w.if-stands.true))
  | else-stands w ↦ rw w.one-is (single_more c.loop-q.invariant (c.stands.ensures.no w.if-stands.false))
]
