use native.Mathlib.Omega.{arith}
use mathlib.Core.Path.{sym, ◌∙◌}
use Rattle.paper.specs.Limits.{limits}
use Rattle.factorized.proofs.StateLaws.{listed_more, all_numbered}
use Rattle.factorized.proofs.Table.number_states.Goals as goal

pub loop-p-preserved : goal.loop-p-preserved
loop-p-preserved c = listed_more limits c.args.self.now.marks.now c.args.self.now.rules.now c.loop-p.invariant c.number_state.ensures (sym c.is_err.ensures.value ∙ c.if-is_err.false)

pub returns-else-is_err : goal.returns-else-is_err
returns-else-is_err c = all_numbered limits c.args.self.now.marks.now c.args.self.now.rules.now (omega arith)
    (listed_more limits c.args.self.now.marks.now c.args.self.now.rules.now c.loop-p.invariant c.number_state.ensures (sym c.is_err.ensures.value ∙ c.if-is_err.false))
