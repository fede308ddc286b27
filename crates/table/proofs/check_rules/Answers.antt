use mathlib.Core.Path.{◌∙◌, sym, ap}
use native.Mathlib.Omega.{arith}
use borrow.Author.Count.{below_more}
use Rattle.paper.specs.Limits.{limits}
use Rattle.paper.specs.Told.{passes, refusal}
use Rattle.paper.specs.Faults.{number_of}
use Rattle.paper.proofs.FaultLaws.{fault_number}
use Rattle.paper.proofs.FirstLaws.{first_clear, first_fault}
use Rattle.table.specs.Check.{rule_fault_of}
use Rattle.table.specs.Links.{lists}
use Rattle.table.proofs.LinksLaws.{linked_start}
use Rattle.table.proofs.Rows.{row_whole}
use Rattle.table.proofs.check_rules.Goals as goal

pub loop-i-init : goal.loop-i-init
loop-i-init c = (λ j h. absurd (omega arith), linked_start lists (omega arith) limits c.args.rules.now c.requires)

pub slice_bounds-rule_fault-end : goal.slice_bounds-rule_fault-end
slice_bounds-rule_fault-end c = sym c.loop-i.invariant.1.long

pub rule_fault-requires : goal.rule_fault-requires
rule_fault-requires c = record { width_in_bounds = row_whole {w = limits.width} (omega arith) _ _ c.loop-i-test.true; linked = c.loop-i.invariant.1 }

pub returns-in-Some : goal.returns-in-Some
returns-in-Some c = ap refusal c.at.ensures
    ∙ sym (first_fault (rule_fault_of limits c.args.symbols c.args.states c.args.rules.now) _ (number_of c.in-Some.fault) c.loop-i.i passes
    (record { inside = c.loop-i-test.true; here = sym c.in-Some.ensures; fault = fault_number c.in-Some.fault; before = c.loop-i.invariant.0 }))

pub slice_bounds-link-end : goal.slice_bounds-link-end
slice_bounds-link-end c = sym c.loop-i.invariant.1.long

pub link-requires : goal.link-requires
link-requires c = record { width_in_bounds = row_whole {w = limits.width} (omega arith) _ _ c.loop-i-test.true; linked = c.loop-i.invariant.1 }

pub loop-i-preserved : goal.loop-i-preserved
loop-i-preserved c = (below_more _ _ c.loop-i.invariant.0 (sym c.in_default.ensures), c.link.ensures)

pub returns : goal.returns
returns c = sym (first_clear (rule_fault_of limits c.args.symbols c.args.states c.args.rules.now) _ passes (λ j h. c.loop-i.invariant.0 j (omega arith)))
