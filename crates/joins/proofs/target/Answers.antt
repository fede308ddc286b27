use Prim.Native.Nat.{◌+◌}
use native.Mathlib.Omega.{arith}
use Rattle.paper.specs.Limits.{limits}
use Rattle.joins.proofs.SearchLaws.{finds_short, finds_beyond, searched_none, searched_more, searched_end, searched_found}
use Rattle.joins.proofs.target.Goals as goal

pub returns-then-index-next : goal.returns-then-index-next
returns-then-index-next c = finds_short limits.width c.args.rules.now c.args.index.now c.args.left c.args.right c.if-index-next.true

pub overflow_cast-index : goal.overflow_cast-index
overflow_cast-index c = omega (arith, c.shared_slice_known-3-1.given 0)

pub returns-then-index-next-2 : goal.returns-then-index-next-2
returns-then-index-next-2 c = finds_beyond limits.width c.args.rules.now c.args.index.now c.args.left c.args.right c.if-index-next-2.true

pub overflow_cast-index-2 : goal.overflow_cast-index-2
overflow_cast-index-2 c = omega (arith, c.shared_slice_known-4-1.given (c.args.left + 1))

pub loop-k-init : goal.loop-k-init
loop-k-init c = searched_none limits.width c.args.rules.now c.args.index.now c.args.left c.args.right

pub offset_bounds-index-k : goal.offset_bounds-index-k
offset_bounds-index-k c = omega (arith, c.min-end.ensures)

pub bounds-index-k : goal.bounds-index-k
bounds-index-k c = omega (arith, c.min-end.ensures)

pub overflow_cast-i : goal.overflow_cast-i
overflow_cast-i c = omega (arith, c.shared_slice_known-in-loop-k-1.given c.loop-k.k)

pub overflow_mul-result : goal.overflow_mul-result
overflow_mul-result c = omega (arith, (c.is_join.ensures.yes c.if-is_join.true).1.inside)

pub overflow_add-result : goal.overflow_add-result
overflow_add-result c = omega (arith, (c.is_join.ensures.yes c.if-is_join.true).1.inside)

pub offset_bounds-rules-i : goal.offset_bounds-rules-i
offset_bounds-rules-i c = omega (arith, (c.is_join.ensures.yes c.if-is_join.true).1.inside)

pub bounds-rules-i : goal.bounds-rules-i
bounds-rules-i c = omega (arith, (c.is_join.ensures.yes c.if-is_join.true).1.inside)

pub returns-then-is_join : goal.returns-then-is_join
returns-then-is_join c = searched_found limits.width c.args.rules.now c.args.index.now _ _ c.loop-k.invariant (omega arith) (omega (arith, c.min-end.ensures)) (c.is_join.ensures.yes c.if-is_join.true)

pub loop-k-preserved : goal.loop-k-preserved
loop-k-preserved c = searched_more limits.width c.args.rules.now c.args.index.now _ _ c.loop-k.invariant (c.is_join.ensures.no c.if-is_join.false)

pub returns : goal.returns
returns c = searched_end limits.width c.args.rules.now c.args.index.now _ _ c.loop-k.invariant (omega (arith, c.min-end.ensures))
