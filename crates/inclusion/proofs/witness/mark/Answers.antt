-- `inclusion::witness::mark` meets its contract: all marks are taken away, then the pair at place i is marked.
use native.Mathlib.Omega.{arith}
use Prim.Native.Nat.{◌+◌, ◌-◌}
use borrow.Rule.Slice.PartMut.{put_mid}
use lib.ListN.{length-take, length-drop}
use Rattle.inclusion.proofs.WantLaws.{Clearing, marks_inside, clearing_all, clearing_placed, wanting_none}
use Rattle.inclusion.proofs.witness.mark.Goals as goal

pub overflow_add-base : goal.overflow_add-base
overflow_add-base c = omega (arith, marks_inside c.args.work.now c.requires)

pub offset_bounds-work-base : goal.offset_bounds-work-base
offset_bounds-work-base c = omega (arith, marks_inside c.args.work.now c.requires)

pub slice_bounds-fill-end : goal.slice_bounds-fill-end
slice_bounds-fill-end c = omega (arith, marks_inside c.args.work.now c.requires)

pub bounds-work-base : goal.bounds-work-base
bounds-work-base c =
    let k : Clearing c.args.base c.args.n c.args.work.now (put_mid c.args.base (c.args.base + c.args.n - c.args.base) c.args.work.now c.fill.new.self) c.args.n = clearing_all c.requires (omega arith) (let h = marks_inside c.args.work.now c.requires in simp (length-take, length-drop) (omega arith)) (c.fill.ensures.after (λ y h. h)) in
    let s = clearing_placed c.requires k in omega arith

pub bounds-work-base-2 : goal.bounds-work-base-2
bounds-work-base-2 c =
    let k : Clearing c.args.base c.args.n c.args.work.now (put_mid c.args.base (c.args.base + c.args.n - c.args.base) c.args.work.now c.fill.new.self) c.args.n = clearing_all c.requires (omega arith) (let h = marks_inside c.args.work.now c.requires in simp (length-take, length-drop) (omega arith)) (c.fill.ensures.after (λ y h. h)) in
    let s = clearing_placed c.requires k in omega arith

pub returns : goal.returns
returns c = wanting_none c.requires (clearing_all c.requires (omega arith) (let h = marks_inside c.args.work.now c.requires in simp (length-take, length-drop) (omega arith)) (c.fill.ensures.after (λ y h. h))) (omega arith)
