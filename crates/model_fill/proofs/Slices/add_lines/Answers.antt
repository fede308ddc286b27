use mathlib.Core.Path.{refl, ◌∙◌}
use native.Mathlib.Omega.{arith}
use Rattle.paper.specs.Limits.{limits}
use Rattle.lines.proofs.LinesLaws.{lines_at}
use Rattle.model_fill.proofs.Going.{second_line, going_start, going_few, line_room, going_ambiguous, going_more, going_end}
use Rattle.model_fill.proofs.Slices.add_lines.Goals as goal

pub loop-at-init : goal.loop-at-init
loop-at-init c = record {
  going = going_start limits (omega arith) c.requires.0 c.requires.1 (second_line limits (omega arith) c.requires.0 c.line_end-at.ensures);
  same = record { bears = refl; owners = refl; ends = refl; next = refl };
}

pub slice_bounds-add_line-count : goal.slice_bounds-add_line-count
slice_bounds-add_line-count c = omega (arith, (lines_at _ _ _ c.loop-at-test.true c.line_end-end.ensures).0)

pub slice_bounds-add_line-start : goal.slice_bounds-add_line-start
slice_bounds-add_line-start c = omega (arith, (lines_at _ _ _ c.loop-at-test.true c.line_end-end.ensures).0)

pub slice_bounds-add_line-end : goal.slice_bounds-add_line-end
slice_bounds-add_line-end c = (lines_at _ _ _ c.loop-at-test.true c.line_end-end.ensures).1

pub add_line-behind-requires : goal.add_line-behind-requires
add_line-behind-requires c = (line_room limits (omega arith) c.loop-at.invariant.going c.loop-at-test.true, c.loop-at.invariant.going.kept.long)

pub overflow_add-k : goal.overflow_add-k
overflow_add-k c = omega (arith, going_few limits (omega arith) c.loop-at.invariant.going)

pub returns-then-clashes-clause-adds : goal.returns-then-clashes-clause-adds
returns-then-clashes-clause-adds c = going_ambiguous limits (omega arith) c.loop-at.invariant.going c.loop-at-test.true c.line_end-end.ensures refl c.add_line-behind.ensures.adds refl c.clashes.ensures c.if-clashes.true

pub loop-at-smaller : goal.loop-at-smaller
loop-at-smaller c = let z = (lines_at _ _ _ c.loop-at-test.true c.line_end-end.ensures).0 in
    omega (arith, z, c.loop-at-test.true)

pub loop-at-preserved : goal.loop-at-preserved
loop-at-preserved c = let y = c.add_line-behind.ensures.same in
    let v = c.loop-at.invariant.same in
    record {
      going = going_more limits (omega arith) c.loop-at.invariant.going c.loop-at-test.true c.line_end-end.ensures refl c.add_line-behind.ensures.adds c.clashes.ensures c.if-clashes.false;
      same = record { bears = y.bears ∙ v.bears; owners = y.owners ∙ v.owners; ends = y.ends ∙ v.ends; next = y.next ∙ v.next };
    }

pub returns-clause-adds : goal.returns-clause-adds
returns-clause-adds c = going_end limits (omega arith) c.loop-at.invariant.going c.loop-at-test.false
