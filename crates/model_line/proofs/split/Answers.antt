-- `model_line::split` meets its contract: each test decides one step of `split_of`. Assumes nothing.
use mathlib.Core.Path.{sym, ◌∙◌}
use lib.ListN.{length}
use borrow.Author.Tests.{eqb-true}
use Rattle.model_line.proofs.SplitLaws.{split_empty, split_letter, split_open, split_bad, split_tab, split_short, split_found}
use Rattle.model_line.proofs.split.Goals as goal

pub returns-then-is_empty : goal.returns-then-is_empty
returns-then-is_empty c = split_empty _ (eqb-true (length c.args.x.now) 0 (sym c.if-is_empty.ensures))

pub returns-then-x-ne-LETTER_M : goal.returns-then-x-ne-LETTER_M
returns-then-x-ne-LETTER_M c = split_letter _ c.if-x-ne-LETTER_M.true

pub returns-then-x-ne-LF : goal.returns-then-x-ne-LF
returns-then-x-ne-LF c = split_open _ c.if-x-ne-LETTER_M.false c.if-x-ne-LF.true

pub returns-in_default : goal.returns-in_default
returns-in_default c = let e = sym c.read_field.ensures ∙ c.in_default.is in
    split_bad _ c.if-x-ne-LETTER_M.false c.if-x-ne-LF.false e

pub returns-then-x-end : goal.returns-then-x-end
returns-then-x-end c = let e = sym c.read_field.ensures ∙ c.in-Ok.is in
    let m = c.if-x-ne-LETTER_M.false in
    split_short _ m c.if-x-ne-LF.false e c.if-x-end.true

pub returns-then-x-end-ne-TAB : goal.returns-then-x-end-ne-TAB
returns-then-x-end-ne-TAB c = let e = sym c.read_field.ensures ∙ c.in-Ok.is in
    let m = c.if-x-ne-LETTER_M.false in
    split_tab _ m c.if-x-ne-LF.false e c.if-x-end-ne-TAB.true

pub returns : goal.returns
returns c = let e = sym c.read_field.ensures ∙ c.in-Ok.is in
    let m = c.if-x-ne-LETTER_M.false in
    split_found _ m c.if-x-ne-LF.false e c.if-x-end-ne-TAB.false
