-- `tree::check` meets its contract. The loop's invariant: no node before i is bad.
use Rattle.paper.specs.First.{Clear}
use Rattle.tree.specs.Nodes.{node_fault}
use Rattle.tree.proofs.check.Given as goal

abbrev pub invariant-loop-i : goal.invariant-loop-i
invariant-loop-i l = Clear (node_fault l.symbols l.nodes) l.i
