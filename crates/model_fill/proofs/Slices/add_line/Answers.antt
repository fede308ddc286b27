-- `model_fill::Slices::add_line` meets its contract: a line that is none and a model with no room add nothing, else its states stand.
use mathlib.Core.Path.{sym, ◌∙◌, refl}
use native.Mathlib.Omega.{arith}
use Rattle.paper.specs.Limits.{limits}
use Rattle.model_line.specs.Line.{token_field}
use Rattle.model_line.proofs.SplitLaws.{split_shown}
use Rattle.model_fill.proofs.Adding.{answer_few, adds_misshapen, adds_unfit, adds_line}
use Rattle.model_fill.proofs.Lending.{lent_length}
use Rattle.model_fill.proofs.Slices.add_line.Goals as goal

pub returns-in_default-clause-adds : goal.returns-in_default-clause-adds
returns-in_default-clause-adds c = adds_misshapen limits _ c.args.x.now _ (sym c.in_default.is ∙ c.split.ensures) c.requires.1

pub overflow_sub-to : goal.overflow_sub-to
overflow_sub-to c = let m = split_shown c.args.x.now (sym c.split.ensures ∙ c.in-Some.is) in
    omega (arith, m.room)

pub slice_bounds-fill_sets-count : goal.slice_bounds-fill_sets-count
slice_bounds-fill_sets-count c = let m = split_shown c.args.x.now (sym c.split.ensures ∙ c.in-Some.is) in
    omega (arith, m.room)

pub slice_bounds-fill_sets-start : goal.slice_bounds-fill_sets-start
slice_bounds-fill_sets-start c = let m = split_shown c.args.x.now (sym c.split.ensures ∙ c.in-Some.is) in
    omega (arith, m.room)

pub returns-in_default-sets-clause-adds : goal.returns-in_default-sets-clause-adds
unfolding token_field
returns-in_default-sets-clause-adds c = let f = c.fill_sets-sets in
    adds_unfit limits _ c.args.x.now _ _ c.requires.1 c.requires.0 (sym c.in-Some.is ∙ c.split.ensures) f.ensures (f.auto.bears ∙ lent_length _ _ c.args.self.now.bears.now refl) (f.auto.ends ∙ lent_length _ _ c.args.self.now.ends.now refl) (f.auto.next ∙ lent_length _ _ c.args.self.now.next.now refl) (sym c.in_default-sets.is)

pub overflow_add-behind : goal.overflow_add-behind
overflow_add-behind c = let z = answer_few limits.states _ _ _ _ (sym c.in-Some-sets.is ∙ c.fill_sets-sets.ensures.answer) in
    let h = c.requires.0 in
    omega arith

pub returns-clause-adds : goal.returns-clause-adds
unfolding token_field
returns-clause-adds c = let f = c.fill_sets-sets in
    adds_line limits _ c.args.x.now _ _ c.requires.1 c.requires.0 (sym c.in-Some.is ∙ c.split.ensures) f.ensures (f.auto.bears ∙ lent_length _ _ c.args.self.now.bears.now refl) (f.auto.ends ∙ lent_length _ _ c.args.self.now.ends.now refl) (f.auto.next ∙ lent_length _ _ c.args.self.now.next.now refl) (sym c.in-Some-sets.is) c.fill.ensures
