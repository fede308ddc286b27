-- `table::link` meets its contract.
use mathlib.Core.Path.{sym}
use native.Mathlib.Omega.{arith}
use lib.ListN.{length-set}
use Rattle.paper.specs.Limits.{limits}
use Rattle.table.specs.Links.{lists}
use Rattle.table.proofs.LinksLaws.{linked_more}
use Rattle.table.proofs.link.Goals as goal

pub bounds-links-list-2 : goal.bounds-links-list-2
bounds-links-list-2 c = simp length-set (omega (arith, c.requires.linked.long))

pub returns : goal.returns
returns c = linked_more lists (omega arith) limits c.args.rules.now c.args.links.now c.args.i c.list_of-list.result (sym c.list_of-list.ensures) (omega (arith, c.requires.linked.few)) c.requires.linked
