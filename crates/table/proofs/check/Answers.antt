-- `table::check` meets its contract: each answer by the law of `Exact` for its refusal.
use mathlib.Core.Path.{◌∙◌, sym, ap}
use Rattle.paper.specs.Limits.{limits}
use Rattle.paper.specs.Told.{refusal}
use Rattle.table.proofs.Exact.{refuse_size, refuse_length, refuse_mark, to_rules, mark_good}
use Rattle.table.proofs.LinksLaws.{few_rules}
use Rattle.table.proofs.check.Goals as goal

pub returns-then-too_large : goal.returns-then-too_large
returns-then-too_large c = ap refusal c.at.ensures
    ∙ sym (refuse_size limits c.args.symbols c.args.marks.now c.args.rules.now (c.too_large.ensures.yes c.if-too_large.true))

pub returns-then-rules-ne0 : goal.returns-then-rules-ne0
returns-then-rules-ne0 c = ap refusal c.at-then-rules-ne0.ensures
    ∙ sym (refuse_length limits c.args.symbols c.args.marks.now c.args.rules.now (c.too_large.ensures.no c.if-too_large.false) c.if-rules-ne0.true)

pub returns-in-Some : goal.returns-in-Some
returns-in-Some c = let f = c.in-Some.ensures in ap refusal c.at-in-Some.ensures
    ∙ sym (refuse_mark limits c.args.symbols c.args.marks.now c.args.rules.now (c.too_large.ensures.no c.if-too_large.false) (λ d. d c.if-rules-ne0.false)
    c.in-Some.state f.inside f.wrong (λ j h. mark_good c.args.marks.now j (f.before j h)))

pub check_rules-requires : goal.check_rules-requires
check_rules-requires c = few_rules limits _ _ _ (c.too_large.ensures.no c.if-too_large.false)

pub returns : goal.returns
returns c = c.check_rules.ensures
    ∙ sym (to_rules limits c.args.symbols c.args.marks.now c.args.rules.now (c.too_large.ensures.no c.if-too_large.false) (λ d. d c.if-rules-ne0.false)
    (λ j h. mark_good c.args.marks.now j (c.in_default.ensures j h)))
