-- `answers::write_node` meets its contract: a join is put, and a leaf's line is that of a word.
use Rattle.answers.proofs.LineLaws.{node_leaf, node_join}
use Rattle.answers.proofs.write_node.Goals as goal

pub returns-then-y-ne-LEAF-clause-wrote : goal.returns-then-y-ne-LEAF-clause-wrote
returns-then-y-ne-LEAF-clause-wrote c = rw (node_join c.args.x c.args.y c.if-y-ne-LEAF.true) c.write_letters.ensures.wrote

pub returns-else-y-ne-LEAF-clause-wrote : goal.returns-else-y-ne-LEAF-clause-wrote
returns-else-y-ne-LEAF-clause-wrote c = rw (node_leaf c.args.x c.args.y c.if-y-ne-LEAF.false) c.write_word.ensures.wrote
