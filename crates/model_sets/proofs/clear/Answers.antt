use native.Mathlib.Omega.{arith}
use lib.ListN.{length-take, length-drop}
use Rattle.model_sets.proofs.Painting.{clear_kept, clear_part}
use Rattle.model_sets.proofs.clear.Goals as goal

pub returns-then-not-kept : goal.returns-then-not-kept
returns-then-not-kept c = clear_part _ _ _ _ _ _ c.if-not-kept.true c.requires.0 c.requires.1 (simp (length-take, length-drop) (omega arith)) (c.fill.ensures.after (λ y h. h))

pub returns-else-not-kept : goal.returns-else-not-kept
returns-else-not-kept c = clear_kept _ _ _ _ c.if-not-kept.false
