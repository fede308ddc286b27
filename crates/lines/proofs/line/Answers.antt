-- `lines::line` meets its contract: a line stands from where it starts up to where it ends. Assumes nothing.
use borrow.Author.Rules.{rules}
use Rattle.lines.proofs.LinesLaws.{line_part}
use Rattle.lines.proofs.line.Goals as goal

pub slice_bounds-result-count : goal.slice_bounds-result-count
slice_bounds-result-count c = (line_part c.line_start-from.ensures c.line_end-to.ensures).0

pub slice_bounds-result-start : goal.slice_bounds-result-start
slice_bounds-result-start c = let m = line_part c.line_start-from.ensures c.line_end-to.ensures in
    search rules

pub slice_bounds-result-end : goal.slice_bounds-result-end
slice_bounds-result-end c = let m = line_part c.line_start-from.ensures c.line_end-to.ensures in
    search rules

pub returns : goal.returns
returns c = (line_part c.line_start-from.ensures c.line_end-to.ensures).2
