-- `rule_write::write_rules` meets its contract. The loop's invariant: the lines of the rules before rule i are laid from the place on.
use Rattle.std.specs.Prelude.{◌≡◌}
use Rattle.paper.specs.Limits.{limits}
use Rattle.rule_write.specs.Write.{rules_text_of}
use Rattle.rule_write.proofs.WriteLaws.{Laid}
use Rattle.rule_write.proofs.write_rules.Given as goal

abbrev pub invariant-loop-i : goal.invariant-loop-i
invariant-loop-i l = record { same : l.out.bytes.ghost_name ≡ l.initial.out.bytes.ghost_name; laid : Laid l.initial.out.bytes.now l.initial.out.at (rules_text_of limits.width l.rules l.i) l.out.at l.out.bytes.now }
