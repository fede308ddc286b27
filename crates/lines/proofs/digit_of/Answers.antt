-- `lines::digit_of` meets its contract. Assumes nothing.
use Rattle.lines.proofs.NumberSteps.{digit_of_byte, digit_of_none}
use Rattle.lines.proofs.digit_of.Goals as goal

pub returns-then-is_ascii_digit : goal.returns-then-is_ascii_digit
returns-then-is_ascii_digit c = let h = c.if-is_ascii_digit.ensures.cases in digit_of_byte _ h.0 h.1

pub returns : goal.returns
returns c = digit_of_none _ c.if-is_ascii_digit.ensures.cases
