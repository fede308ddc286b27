-- What was read before, and then what this read gave, is what the reader gave.
use Rattle.std.proofs.Common.{rules, length, sym, subst, ◌-◌}
use Rattle.std.specs.Io.KnownBytes.{Consumes}
use Rattle.std.proofs.KnownBytes.{Consumes-trans}
use Rattle.intake.proofs.Grown.{take-put_mid_more}
use Rattle.intake.proofs.read_full.Goals as goal

pub loop-count-preserved : goal.loop-count-preserved
loop-count-preserved g c =
    let from = c.loop-count.count in
    let room = length c.loop-count.bytes - from in
    let joined = take-put_mid_more from room c.in-Ok.n c.loop-count.bytes c.read.new.buf c.loop-count.invariant.1 c.in-Ok.ensures.bound.0 in
    (search rules, search rules, subst (Consumes _ _) (sym joined) (Consumes-trans _ _ _ _ _ c.loop-count.invariant.2 c.in-Ok.ensures.bytes.0))
