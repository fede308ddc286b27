-- `rule_write::write_states` meets its contract. The loop's invariant: the lines of the states before state i are laid from the place on.
use Rattle.std.specs.Prelude.{◌≡◌}
use Rattle.rule_write.specs.Write.{states_text_of}
use Rattle.rule_write.proofs.WriteLaws.{Laid}
use Rattle.rule_write.proofs.write_states.Given as goal

abbrev pub invariant-loop-i : goal.invariant-loop-i
invariant-loop-i l = record { same : l.out.bytes.ghost_name ≡ l.initial.out.bytes.ghost_name; laid : Laid l.initial.out.bytes.now l.initial.out.at (states_text_of l.marks l.i) l.out.at l.out.bytes.now }
