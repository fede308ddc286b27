-- As many bytes as are told stand in the slice.
use Rattle.std.proofs.Common.{refl, sym, length-take-le}
use Rattle.answers.proofs.WrittenLaws.{text_inside}
use Rattle.compile.proofs.main.Goals as goal

pub slice_bounds-out-end : goal.slice_bounds-out-end
slice_bounds-out-end c = text_inside _ _ _ c.in-Ok.ensures refl

pub slice_bounds-write_all-end : goal.slice_bounds-write_all-end
slice_bounds-write_all-end c = sym (length-take-le _ _ (text_inside _ _ _ c.in-Ok.ensures refl))
