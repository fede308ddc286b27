-- `model_line::read_content` meets its contract: the token field lies within the line, before its LF. Assumes nothing.
use mathlib.Core.Path.{sym, ◌∙◌}
use native.Mathlib.Omega.{arith}
use Rattle.model_line.specs.Line.{token_field}
use Rattle.model_line.proofs.SplitLaws.{split_shown}
use Rattle.model_line.proofs.LineLaws.{model_none, model_read_lem, model_bad}
use borrow.Author.Rules.{rules}
use Rattle.model_line.proofs.read_content.Goals as goal

pub returns-in_err-symbol : goal.returns-in_err-symbol
returns-in_err-symbol c = c.from_residual.ensures ∙ model_none _ _ _ (sym c.split.ensures ∙ c.in_err-symbol.was)

pub overflow_sub-to : goal.overflow_sub-to
overflow_sub-to c = let m = split_shown c.args.x.now (sym c.split.ensures ∙ c.in_ok-symbol.was) in
    omega (arith, m.room)

pub slice_bounds-read_model-count : goal.slice_bounds-read_model-count
slice_bounds-read_model-count c = let m = split_shown c.args.x.now (sym c.split.ensures ∙ c.in_ok-symbol.was) in
    omega (arith, m.room)

pub slice_bounds-read_model-start : goal.slice_bounds-read_model-start
slice_bounds-read_model-start c = let m = split_shown c.args.x.now (sym c.split.ensures ∙ c.in_ok-symbol.was) in
    search rules

pub returns : goal.returns
unfolding token_field
returns c = let e = sym c.split.ensures ∙ c.in_ok-symbol.was in
    model_read_lem _ _ _ e (sym c.read_model.ensures ∙ c.in_ok-places.was)

pub returns-in_err-places : goal.returns-in_err-places
unfolding token_field
returns-in_err-places c = let e = sym c.split.ensures ∙ c.in_ok-symbol.was in
    c.from_residual-in_err-places.ensures ∙ model_bad _ _ _ e (sym c.read_model.ensures ∙ c.in_err-places.was)
