-- `model_fill::fill_states` meets its contract: each answer by the law of `FillLaws` for it.
use Prim.Native.Nat.{ℕ}
use mathlib.Core.Path.{◌≡◌, refl, ap, ◌∙◌}
use mathlib.Core.List.{List}
use borrow.Author.Rules.{rules}
use Rattle.std.specs.Prelude.{Err}
use Rattle.std.proofs.lemmas.Result.{err_from_is_err_and}
use Rattle.paper.specs.Limits.{Limits, limits}
use Rattle.model_fill.specs.Fill.{Filling, FillsStates}
use Rattle.model_fill.proofs.FillLaws.{fills_unfit, fills_refused, fills_ready, fills_ambiguous, fills_whole}
use Rattle.model_fill.proofs.fill_states.Goals as goal

-- the slices at the end are those of the struct
at_end : {L : Limits} {s B O E N : List ℕ} {r : Filling} {B' O' E' N' : List ℕ} (B₁ O₁ E₁ N₁ : List ℕ) → B' ≡ B₁ → O' ≡ O₁ → E' ≡ E₁ → N' ≡ N₁
    → FillsStates L s B O E N r B₁ O₁ E₁ N₁ → FillsStates L s B O E N r B' O' E' N'
at_end B₁ O₁ E₁ N₁ b o e n h = rw (b, o, e, n) h

pub returns-then-not-are_long : goal.returns-then-not-are_long
returns-then-not-are_long c = fills_unfit limits _ (c.are_long.ensures.no c.if-not-are_long.true) refl

pub add_lines-requires : goal.add_lines-requires
add_lines-requires c = (fills_ready limits _ (c.are_long.ensures.yes c.if-not-are_long.false) c.survey_text.ensures c.in_ok-survey.was, c.clear.ensures.kept)

pub returns-in-Some : goal.returns-in-Some
returns-in-Some c = let z = c.add_lines.new.self in
    at_end z.bears.now z.owners.now z.ends.now z.next.now (search rules) (search rules) (search rules) (search rules)
    (fills_ambiguous limits _ (c.are_long.ensures.yes c.if-not-are_long.false) c.survey_text.ensures c.in_ok-survey.was c.add_lines.ensures.adds c.in-Some.is refl)

pub returns-in_err-survey : goal.returns-in_err-survey
returns-in_err-survey c =
    let p = err_from_is_err_and c.from_residual.result c.from_residual.ensures.1 in
    fills_refused limits _ (c.are_long.ensures.yes c.if-not-are_long.false) c.survey_text.ensures c.in_err-survey.was (p.1 ∙ ap Err p.2)

pub returns : goal.returns
returns c = let z = c.add_lines.new.self in
    at_end z.bears.now z.owners.now z.ends.now z.next.now (search rules) (search rules) (search rules) (search rules)
    (fills_whole limits _ (c.are_long.ensures.yes c.if-not-are_long.false) c.survey_text.ensures c.in_ok-survey.was c.add_lines.ensures.adds c.in_default.is refl)
