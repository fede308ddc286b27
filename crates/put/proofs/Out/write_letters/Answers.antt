-- `put::Out::write_letters` meets its contract: the pieces are put one behind the other where there is room for all of them. Assumes nothing.
use Rattle.lines.specs.Fields.{letters}
use Rattle.put.proofs.PutLaws.{fit_then, wrote_room}
use Rattle.put.proofs.Out.write_letters.Goals as goal

pub returns-then-has_room-clause-wrote : goal.returns-then-has_room-clause-wrote
unfolding letters
returns-then-has_room-clause-wrote c = wrote_room c.has_room.ensures (c.size_of.ensures c.args.t) c.if-has_room.true
    (fit_then c.write_byte.ensures.wrote.fits
    (fit_then c.write_field.ensures.wrote.fits (fit_then c.write_field-then-has_room.ensures.wrote.fits c.put_last.ensures.fit)))
