-- `model_table::write_marks` meets its contract: the marks stand at the front, the rest is as it was. Assumes nothing.
use mathlib.Core.Path.{◌≡◌}
use mathlib.Core.List.{◌++◌}
use lib.ListN.{drop}
use Rattle.model_table.specs.Work.{marks_for}
use Rattle.model_table.proofs.write_marks.Given as goal

abbrev pub invariant-loop-q : goal.invariant-loop-q
invariant-loop-q l = l.marks ≡ marks_for l.symbols l.start l.q ++ drop l.q l.initial.marks
