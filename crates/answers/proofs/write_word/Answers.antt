-- `answers::write_word` meets its contract: the line is made in an array of its own, and then put.
use Rattle.std.specs.Prelude.{[], ◌∷◌, ◌++◌}
use native.Mathlib.Omega.{arith}
use Rattle.lines.specs.Fields.{entry}
use Rattle.lines.specs.Lines.{lf}
use Rattle.answers.proofs.LineLaws.{Made, word_made, wrote_made, length_taken}
use Rattle.answers.proofs.write_word.Goals.{After-write_byte}
use Rattle.answers.proofs.write_word.Goals as goal

line_made : (c : After-write_byte) → Made (c.args.word.now ++ (entry c.args.n ++ (lf ∷ []))) c.write_byte.new.self.at c.write_byte.new.self.bytes.now
line_made c = word_made c.args.word.now c.args.n c.requires (omega arith) c.write_bytes.ensures.wrote.fits c.write_field.ensures.wrote.fits c.write_byte.ensures.wrote.fits

pub slice_bounds-write_bytes-end : goal.slice_bounds-write_bytes-end
slice_bounds-write_bytes-end c = length_taken (line_made (goal.at.slice_bounds-write_bytes-end c).After-write_byte)

pub returns-clause-wrote : goal.returns-clause-wrote
returns-clause-wrote c = wrote_made (line_made (goal.at.returns-clause-wrote c).After-write_byte) c.write_bytes-2.ensures.wrote
