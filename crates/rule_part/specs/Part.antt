-- The faulty line of two texts, as a part of the sender's or the receiver's: faults are 2 to 6, each at its line.
use Rattle.std.specs.Prelude.{ℕ, ◌-◌, List, [], cond}
use Rattle.paper.specs.Limits.{Limits}
use Rattle.paper.specs.Told.{is_refusal, place_of}
use Rattle.lines.specs.Lines.{line_at}
use Rattle.rule_read.specs.Text.{text_told}

-- if the text is refused, its line at that place, with its LF if it has one, and empty if that line is missing; if the text is not
-- refused, the other bytes
unfoldable pub line_or : Limits → List ℕ → List ℕ → List ℕ
line_or L text other = let t = text_told L text in cond (is_refusal t) (line_at text (place_of t - 1)) other

-- the faulty line of two texts: the sender's if both have a fault, empty if neither has
unfoldable pub faulty_part : Limits → List ℕ → List ℕ → List ℕ
faulty_part L sender receiver = line_or L sender (line_or L receiver [])
