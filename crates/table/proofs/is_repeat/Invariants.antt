-- `table::is_repeat` meets its contract. The loop's invariant: a row that has the numbers is still to come on the list.
use Rattle.paper.specs.Limits.{limits}
use Rattle.table.specs.Links.{lists}
use Rattle.table.proofs.LinksLaws.{Walked}
use Rattle.table.proofs.is_repeat.Given as goal

abbrev pub invariant-loop-next : goal.invariant-loop-next
invariant-loop-next l = Walked lists limits.width l.rules l.links l.n l.rule.kind l.rule.left l.rule.right l.rule.to l.next

abbrev pub decreases-loop-next : goal.decreases-loop-next
decreases-loop-next l = l.next
