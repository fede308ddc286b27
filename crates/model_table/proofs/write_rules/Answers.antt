-- `model_table::write_rules` meets its contract: the three kinds of rules fit one behind the other, since there is room for all.
use mathlib.Core.Path.{refl}
use native.Mathlib.Omega.{arith}
use Rattle.paper.specs.Limits.{limits}
use Rattle.compiled.specs.Rules.{numbers}
use Rattle.model_table.specs.Work.{the_leaves_by, the_eps_by, the_joins_by, the_numbers_by}
use Rattle.model_table.proofs.Chain.{first_long, first_inside, second_long, second_inside, third_inside, all_put}
use Rattle.model_table.proofs.write_rules.Goals as goal

pub offset_bounds-rules-a : goal.offset_bounds-rules-a
unfolding the_numbers_by
offset_bounds-rules-a c = let z = first_inside (numbers (the_leaves_by _ _ c.args.s.bears.now c.args.s.owners.now)) (numbers (the_eps_by _ c.args.s.ends.now c.args.s.owners.now)) (numbers (the_joins_by limits.states _ _ c.args.s.bears.now c.args.s.next.now)) c.args.rules.now c.requires.2 c.write_leaves-a.ensures in
    let l = first_long (numbers (the_leaves_by _ _ c.args.s.bears.now c.args.s.owners.now)) (numbers (the_eps_by _ c.args.s.ends.now c.args.s.owners.now)) (numbers (the_joins_by limits.states _ _ c.args.s.bears.now c.args.s.next.now)) c.args.rules.now c.requires.2 c.write_leaves-a.ensures in
    omega arith

pub slice_bounds-write_eps-count : goal.slice_bounds-write_eps-count
unfolding the_numbers_by
slice_bounds-write_eps-count c = first_inside (numbers (the_leaves_by _ _ c.args.s.bears.now c.args.s.owners.now)) (numbers (the_eps_by _ c.args.s.ends.now c.args.s.owners.now)) (numbers (the_joins_by limits.states _ _ c.args.s.bears.now c.args.s.next.now)) c.args.rules.now c.requires.2 c.write_leaves-a.ensures

pub slice_bounds-write_eps-start : goal.slice_bounds-write_eps-start
unfolding the_numbers_by
slice_bounds-write_eps-start c = first_inside (numbers (the_leaves_by _ _ c.args.s.bears.now c.args.s.owners.now)) (numbers (the_eps_by _ c.args.s.ends.now c.args.s.owners.now)) (numbers (the_joins_by limits.states _ _ c.args.s.bears.now c.args.s.next.now)) c.args.rules.now c.requires.2 c.write_leaves-a.ensures

pub overflow_add-b : goal.overflow_add-b
unfolding the_numbers_by
overflow_add-b c = let z = second_inside (numbers (the_leaves_by _ _ c.args.s.bears.now c.args.s.owners.now)) (numbers (the_eps_by _ c.args.s.ends.now c.args.s.owners.now)) (numbers (the_joins_by limits.states _ _ c.args.s.bears.now c.args.s.next.now)) c.args.rules.now c.requires.2 c.write_leaves-a.ensures refl c.write_eps.ensures in
    let l = second_long (numbers (the_leaves_by _ _ c.args.s.bears.now c.args.s.owners.now)) (numbers (the_eps_by _ c.args.s.ends.now c.args.s.owners.now)) (numbers (the_joins_by limits.states _ _ c.args.s.bears.now c.args.s.next.now)) c.args.rules.now c.requires.2 c.write_leaves-a.ensures refl c.write_eps.ensures in
    omega arith

pub offset_bounds-rules-b : goal.offset_bounds-rules-b
unfolding the_numbers_by
offset_bounds-rules-b c = let z = second_inside (numbers (the_leaves_by _ _ c.args.s.bears.now c.args.s.owners.now)) (numbers (the_eps_by _ c.args.s.ends.now c.args.s.owners.now)) (numbers (the_joins_by limits.states _ _ c.args.s.bears.now c.args.s.next.now)) c.args.rules.now c.requires.2 c.write_leaves-a.ensures refl c.write_eps.ensures in
    let l = second_long (numbers (the_leaves_by _ _ c.args.s.bears.now c.args.s.owners.now)) (numbers (the_eps_by _ c.args.s.ends.now c.args.s.owners.now)) (numbers (the_joins_by limits.states _ _ c.args.s.bears.now c.args.s.next.now)) c.args.rules.now c.requires.2 c.write_leaves-a.ensures refl c.write_eps.ensures in
    omega arith

pub slice_bounds-write_joins-count : goal.slice_bounds-write_joins-count
unfolding the_numbers_by
slice_bounds-write_joins-count c = second_inside (numbers (the_leaves_by _ _ c.args.s.bears.now c.args.s.owners.now)) (numbers (the_eps_by _ c.args.s.ends.now c.args.s.owners.now)) (numbers (the_joins_by limits.states _ _ c.args.s.bears.now c.args.s.next.now)) c.args.rules.now c.requires.2 c.write_leaves-a.ensures refl c.write_eps.ensures

pub slice_bounds-write_joins-start : goal.slice_bounds-write_joins-start
unfolding the_numbers_by
slice_bounds-write_joins-start c = second_inside (numbers (the_leaves_by _ _ c.args.s.bears.now c.args.s.owners.now)) (numbers (the_eps_by _ c.args.s.ends.now c.args.s.owners.now)) (numbers (the_joins_by limits.states _ _ c.args.s.bears.now c.args.s.next.now)) c.args.rules.now c.requires.2 c.write_leaves-a.ensures refl c.write_eps.ensures

pub overflow_add-result : goal.overflow_add-result
unfolding the_numbers_by
overflow_add-result c = let z = third_inside (numbers (the_leaves_by _ _ c.args.s.bears.now c.args.s.owners.now)) (numbers (the_eps_by _ c.args.s.ends.now c.args.s.owners.now)) (numbers (the_joins_by limits.states _ _ c.args.s.bears.now c.args.s.next.now)) c.args.rules.now c.requires.2 c.write_leaves-a.ensures refl c.write_eps.ensures refl c.write_joins.ensures in
    omega arith

pub returns : goal.returns
unfolding the_numbers_by
returns c = all_put (numbers (the_leaves_by _ _ c.args.s.bears.now c.args.s.owners.now)) (numbers (the_eps_by _ c.args.s.ends.now c.args.s.owners.now)) (numbers (the_joins_by limits.states _ _ c.args.s.bears.now c.args.s.next.now)) c.args.rules.now c.requires.2 c.write_leaves-a.ensures refl c.write_eps.ensures refl c.write_joins.ensures
