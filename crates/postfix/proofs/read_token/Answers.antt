-- `postfix::read_token` meets its contract: the first byte tells which sign the part is, or that it may be a symbol. Assumes nothing.
use mathlib.Core.Path.{refl, ◌∙◌}
use borrow.Author.Tests.{ne_eqb}
use Rattle.postfix.specs.Token.{sign}
use Rattle.postfix.proofs.TokenLaws.{token_none, token_end, token_sign, token_symbol}
use borrow.Author.Rules.{rules}
use lib.ListN.{get_or}
use native.Mathlib.Omega.{arith}
use Rattle.postfix.proofs.read_token.Goals as goal

pub returns-then-field-at : goal.returns-then-field-at
returns-then-field-at c = token_none _ _ _ c.if-field-at.true

pub returns-then-field-at-2 : goal.returns-then-field-at-2
returns-then-field-at-2 c = token_end _ _ _ c.if-field-at-2.true

pub returns-in-101 : goal.returns-in-101
unfolding sign
returns-in-101 c = c.parted.ensures ∙ token_sign _ _ _ (search rules) c.in-101.is refl

pub returns-in-44 : goal.returns-in-44
unfolding sign
returns-in-44 c = c.parted-in-44.ensures ∙ token_sign _ _ _ (search rules) c.in-44.is refl

pub returns-in-124 : goal.returns-in-124
unfolding sign
returns-in-124 c = c.parted-in-124.ensures ∙ token_sign _ _ _ (search rules) c.in-124.is refl

pub returns-in-42 : goal.returns-in-42
unfolding sign
returns-in-42 c = c.parted-in-42.ensures ∙ token_sign _ _ _ (search rules) c.in-42.is refl

pub returns-in-63 : goal.returns-in-63
unfolding sign
returns-in-63 c = c.parted-in-63.ensures ∙ token_sign _ _ _ (search rules) c.in-63.is refl

pub returns-in-43 : goal.returns-in-43
unfolding sign
returns-in-43 c = c.parted-in-43.ensures ∙ token_sign _ _ _ (search rules) c.in-43.is refl

pub returns-in_default : goal.returns-in_default
unfolding sign
returns-in_default c =
    let b = get_or c.args.field.now c.args.at 0 in
    c.read_symbol.ensures
    ∙ token_symbol _ _ _ (search rules) (simp (
      ne_eqb b 101 (omega arith),
      ne_eqb b 44 (omega arith),
      ne_eqb b 124 (omega arith),
      ne_eqb b 42 (omega arith),
      ne_eqb b 63 (omega arith),
      ne_eqb b 43 (omega arith),
    ))
