use borrow.Author.Rules.{rules}
use mathlib.Core.Path.{refl, sym, ◌∙◌}
use native.Mathlib.Omega.{arith}
use Rattle.lines.proofs.LinesLaws.{line_end_end, line_end_lf, line_end_more}
use Rattle.lines.proofs.line_end.Goals as goal

pub loop-i-init : goal.loop-i-init
loop-i-init c = (omega arith, refl)

pub returns-then-s-i-eq-LF : goal.returns-then-s-i-eq-LF
returns-then-s-i-eq-LF c = sym (c.loop-i.invariant.1 ∙ line_end_lf _ _ (search rules) c.if-s-i-eq-LF.true)

pub loop-i-preserved : goal.loop-i-preserved
loop-i-preserved c = (omega arith, c.loop-i.invariant.1 ∙ line_end_more _ _ (search rules) c.if-s-i-eq-LF.false)

pub returns : goal.returns
returns c = (omega arith) ∙ sym (c.loop-i.invariant.1 ∙ line_end_end _ _ c.loop-i-test.false)
