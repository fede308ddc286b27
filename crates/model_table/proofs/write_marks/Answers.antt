use native.Mathlib.Omega.{arith}
use Rattle.model_table.proofs.MarkLaws.{marks_none, marks_more}
use Rattle.model_table.proofs.write_marks.Goals as goal

pub loop-q-init : goal.loop-q-init
loop-q-init c = marks_none _ _ _

pub loop-q-preserved : goal.loop-q-preserved
loop-q-preserved c = let x = c.args in
    let l = c.loop-q in
    marks_more x.symbols x.start x.marks.now l.marks _ _ (omega arith) c.mark_of.ensures l.invariant
