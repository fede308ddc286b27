-- `rule_read::read_work` meets its contract: a first line that is no head within the limits is refused, else the lines behind it decide.
use native.Mathlib.Omega.{arith}
use mathlib.Core.Path.{sym}
use lib.ListN.{length}
use borrow.Author.Tests.{eqb-true, eqb-false}
use Rattle.paper.specs.Limits.{limits}
use Rattle.lines.proofs.LinesLaws.{lines_at}
use Rattle.rule_read.proofs.HeadLaws.{text_empty, head_shape, head_state, head_rule, head_large, headed}
use Rattle.rule_read.proofs.read_work.Goals as goal

pub returns-then-is_empty : goal.returns-then-is_empty
returns-then-is_empty c = text_empty limits _ _ _ (eqb-true (length c.args.text.now) 0 (sym c.if-is_empty.ensures)) c.at.ensures

pub slice_bounds-read_line-end : goal.slice_bounds-read_line-end
slice_bounds-read_line-end c = let full = eqb-false (length c.args.text.now) 0 (sym c.if-is_empty.ensures) in
    (lines_at _ _ _ (omega (arith, full)) c.line_end-end.ensures).1

pub returns-then-too_large : goal.returns-then-too_large
returns-then-too_large c = let full = eqb-false (length c.args.text.now) 0 (sym c.if-is_empty.ensures) in
    head_large limits c.args.text.now (omega (arith, full)) c.line_end-end.ensures c.read_line-l.ensures _ _ c.in-Head.is (c.too_large.ensures.yes c.if-too_large.true) c.at-then-too_large.ensures

pub read_rest-requires : goal.read_rest-requires
read_rest-requires c = let full = eqb-false (length c.args.text.now) 0 (sym c.if-is_empty.ensures) in
    (headed limits c.args.text.now (omega (arith, full)) c.line_end-end.ensures c.read_line-l.ensures c.in-Head.is (c.too_large.ensures.no c.if-too_large.false), c.requires)

pub returns-in-State : goal.returns-in-State
returns-in-State c = let full = eqb-false (length c.args.text.now) 0 (sym c.if-is_empty.ensures) in
    head_state limits c.args.text.now (omega (arith, full)) c.line_end-end.ensures c.read_line-l.ensures _ _ c.in-State.is c.at-in-State.ensures

pub returns-in-Rule : goal.returns-in-Rule
returns-in-Rule c = let full = eqb-false (length c.args.text.now) 0 (sym c.if-is_empty.ensures) in
    head_rule limits c.args.text.now (omega (arith, full)) c.line_end-end.ensures c.read_line-l.ensures _ _ c.in-Rule.is c.at-in-Rule.ensures

pub returns-in-Faulty : goal.returns-in-Faulty
returns-in-Faulty c = let full = eqb-false (length c.args.text.now) 0 (sym c.if-is_empty.ensures) in
    head_shape limits c.args.text.now (omega (arith, full)) c.line_end-end.ensures c.read_line-l.ensures _ _ c.in-Faulty.is c.at-in-Faulty.ensures
