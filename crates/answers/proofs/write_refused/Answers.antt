-- `answers::write_refused` meets its contract: the line is made in an array of its own, and then put.
use native.Mathlib.Omega.{arith}
use Rattle.answers.specs.Lines.{refused_line_of}
use Rattle.answers.proofs.LineLaws.{Made, refused_made, wrote_made, length_taken}
use Rattle.answers.proofs.write_refused.Goals.{After-write_byte}
use Rattle.answers.proofs.write_refused.Goals as goal

line_made : (c : After-write_byte) → Made (refused_line_of c.args.f.side c.args.f.number c.args.f.place) c.write_byte.new.self.at c.write_byte.new.self.bytes.now
line_made c = refused_made c.args.f.side c.args.f.number c.args.f.place (omega arith) c.write_bytes.ensures.wrote.fits c.write_field.ensures.wrote.fits
    c.write_field-2.ensures.wrote.fits c.write_field-3.ensures.wrote.fits c.write_byte.ensures.wrote.fits

pub slice_bounds-write_bytes-end-2 : goal.slice_bounds-write_bytes-end-2
slice_bounds-write_bytes-end-2 c = length_taken (line_made (goal.at.slice_bounds-write_bytes-end-2 c).After-write_byte)

pub returns-clause-wrote : goal.returns-clause-wrote
returns-clause-wrote c = wrote_made (line_made (goal.at.returns-clause-wrote c).After-write_byte) c.write_bytes-2.ensures.wrote
