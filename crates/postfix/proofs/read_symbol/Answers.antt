-- `postfix::read_symbol` meets its contract: a number in place is the number of the part that begins there. Assumes nothing.
use mathlib.Core.Path.{sym, ◌∙◌}
use Rattle.lines.proofs.Within.{number_ends}
use Rattle.postfix.proofs.TokenLaws.{symbol_bad, symbol_over, symbol_read}
use Rattle.postfix.proofs.read_symbol.Goals as goal

pub returns-in_default : goal.returns-in_default
returns-in_default c = symbol_bad _ _ _ (sym c.read_number.ensures ∙ c.in_default.is)

pub returns-then-symbols-a : goal.returns-then-symbols-a
returns-then-symbols-a c =
    symbol_over _ _ _ (sym c.read_number.ensures ∙ c.in-Ok.is) c.if-symbols-a.true

pub parted-requires : goal.parted-requires
parted-requires c =
    let a = c.args in
    (number_ends a.field.now a.at (sym c.read_number.ensures ∙ c.in-Ok.is)).1

pub returns : goal.returns
returns c =
    c.parted.ensures ∙ symbol_read _ _ _ (sym c.read_number.ensures ∙ c.in-Ok.is) c.if-symbols-a.false
