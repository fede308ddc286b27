-- `lines::read_fields` meets its contract: what the fields before it gave leads to each answer. Assumes nothing.
use borrow.Author.Tests.{eq-eqb, ne_eqb}
use mathlib.Core.Path.{sym, ◌∙◌}
use Rattle.std.proofs.lemmas.Result.{err_from_is_err_and}
use Rattle.lines.specs.Fields.{fields}
use Rattle.lines.proofs.read_fields.Goals as goal

pub returns-in_err-a : goal.returns-in_err-a
unfolding fields
returns-in_err-a c =
    let p = err_from_is_err_and c.from_residual.result c.from_residual.ensures.1 in
    rw (p.1, p.2, sym c.read_field.ensures ∙ c.in_err-a.was)

pub returns-in_err-b : goal.returns-in_err-b
unfolding fields
returns-in_err-b c =
    let p = err_from_is_err_and c.from_residual-in_err-b.result c.from_residual-in_err-b.ensures.1 in
    rw (p.1, p.2, sym c.read_field.ensures ∙ c.in_ok-a.was, sym c.read_field-2.ensures ∙ c.in_err-b.was)

pub returns-then-n-ne3 : goal.returns-then-n-ne3
unfolding fields
returns-then-n-ne3 c =
    rw (sym c.read_field.ensures ∙ c.in_ok-a.was, sym c.read_field-2.ensures ∙ c.in_ok-b.was, ne_eqb _ 3 c.if-n-ne3.true) c.read_end.ensures

pub returns-in_err-c : goal.returns-in_err-c
unfolding fields
returns-in_err-c c =
    let p = err_from_is_err_and c.from_residual-in_err-c.result c.from_residual-in_err-c.ensures.1 in
    rw (
      p.1,
      p.2,
      sym c.read_field.ensures ∙ c.in_ok-a.was,
      sym c.read_field-2.ensures ∙ c.in_ok-b.was,
      eq-eqb _ 3 c.if-n-ne3.false,
      sym c.read_field-3.ensures ∙ c.in_err-c.was,
    )

pub returns : goal.returns
unfolding fields
returns c =
    rw (
      sym c.read_field.ensures ∙ c.in_ok-a.was,
      sym c.read_field-2.ensures ∙ c.in_ok-b.was,
      eq-eqb _ 3 c.if-n-ne3.false,
      sym c.read_field-3.ensures ∙ c.in_ok-c.was,
    )
    c.read_end-2.ensures
