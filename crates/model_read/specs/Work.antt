-- What the survey knows of a text when it has read its header.
use Rattle.std.specs.Prelude.{ℕ, ◌≤◌, ◌≡◌, List, length}
use Rattle.paper.specs.Limits.{Limits}
use Rattle.lines.specs.Lines.{Starts}
use Rattle.model_line.specs.Line.{head}
use Rattle.model_read.specs.Text.{said_at, said_by, BadHead}

-- the first line of a text is a header of y symbols and the start t without a fault, and the line behind it starts at i
pub record Headed (L : Limits) (s : List ℕ) (y t i : ℕ) : Type 0 where
  pub says : said_at (said_by L s) 0 ≡ head y t
  pub right : ¬ BadHead L y t
  pub some : 1 ≤ length (said_by L s)
  pub behind : Starts s 1 i
