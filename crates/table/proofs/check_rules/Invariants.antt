-- `table::check_rules` meets its contract. The loop's invariant: no rule before `i` has a fault, and those rules are linked.
use Rattle.paper.specs.First.{Clear}
use Rattle.paper.specs.Limits.{limits}
use Rattle.table.specs.Check.{rule_fault_of}
use Rattle.table.specs.Links.{lists, Linked}
use Rattle.table.proofs.check_rules.Given as goal

abbrev pub invariant-loop-i : goal.invariant-loop-i
invariant-loop-i l = Clear (rule_fault_of limits l.symbols l.states l.rules) l.i × Linked lists limits l.rules l.links l.i
