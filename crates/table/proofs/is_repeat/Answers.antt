use Prim.Native.Nat.{◌-◌}
use native.Mathlib.Omega.{arith}
use Rattle.paper.specs.Limits.{limits}
use Rattle.paper.proofs.TellsLaws.{tells_yes, tells_no}
use Rattle.table.specs.Links.{lists}
use Rattle.table.proofs.LinksLaws.{walked_start, walked_more, walked_end}
use Rattle.table.proofs.is_repeat.Goals as goal

pub list_of-requires : goal.list_of-requires
list_of-requires c = tt

pub bounds-links-list_of : goal.bounds-links-list_of
bounds-links-list_of c = omega (arith, c.requires.1.long)

pub loop-next-init : goal.loop-next-init
loop-next-init c = walked_start lists (omega arith) limits c.args.rules.now c.args.links.now _ c.requires.1 _ _ _ _ _ c.list_of.ensures

pub returns-then-is_row : goal.returns-then-is_row
returns-then-is_row c = tells_yes (c.loop-next.next - 1, omega arith, c.is_row.ensures.yes c.if-is_row.true)

pub bounds-links-j : goal.bounds-links-j
bounds-links-j c = omega (arith, c.requires.1.long)

pub loop-next-smaller : goal.loop-next-smaller
loop-next-smaller c = omega (arith, c.requires.1.down (c.loop-next.next - 1) (omega arith))

pub loop-next-preserved : goal.loop-next-preserved
loop-next-preserved c = walked_more lists (omega arith) limits c.args.rules.now c.args.links.now _ c.requires.1 _ _ _ _ (c.loop-next.next - 1) c.loop-next.next (omega arith) (c.is_row.ensures.no c.if-is_row.false) c.loop-next.invariant

pub returns : goal.returns
returns c = tells_no (walked_end lists (omega arith) limits c.args.rules.now c.args.links.now _ c.requires.1 _ _ _ _ c.loop-next.next (omega arith) c.loop-next.invariant)
