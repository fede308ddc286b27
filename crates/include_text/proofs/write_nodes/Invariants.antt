-- `include_text::write_nodes` meets its contract. The loop's invariant: the lines of the nodes before node i stand.
use mathlib.Core.Path.{◌≡◌}
use Rattle.put.specs.Put.{Fit}
use Rattle.answers.specs.Lines.{node_lines}
use Rattle.include_text.proofs.write_nodes.Given as goal

abbrev pub invariant-loop-i : goal.invariant-loop-i
invariant-loop-i l = record {
  same : l.out.bytes.ghost_name ≡ l.initial.out.bytes.ghost_name;
  fit : Fit l.initial.out.bytes.now l.initial.out.at (node_lines l.nodes l.i) l.out.at l.out.bytes.now;
}
