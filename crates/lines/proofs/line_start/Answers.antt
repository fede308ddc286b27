use mathlib.Core.Path.{◌≡◌}
use native.Mathlib.Omega.{arith}
use Rattle.lines.proofs.LinesLaws.{starts_first, starts_next, starts_none}
use Rattle.lines.proofs.line_start.Goals as goal

pub loop-i-init : goal.loop-i-init
loop-i-init c = (omega arith, starts_first _)

pub returns-then-s-at : goal.returns-then-s-at
returns-then-s-at c = starts_none c.loop-i.invariant.1 c.if-s-at.true c.loop-i.invariant.0

pub loop-i-preserved : goal.loop-i-preserved
loop-i-preserved c = (omega arith, starts_next c.loop-i.invariant.1 c.if-s-at.false c.line_end-at.ensures)

pub returns : goal.returns
returns c = let l = c.loop-i in
    let z : l.i ≡ c.args.k = omega arith in
    rw z at l.invariant.1
