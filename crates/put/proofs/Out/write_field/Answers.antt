-- `put::Out::write_field` meets its contract: a tab and a number are put where there is room for both. Assumes nothing.
use native.Mathlib.Omega.{arith}
use Rattle.lines.specs.Fields.{entry}
use Rattle.lines.proofs.NumberLaws.{decimal_room}
use Rattle.put.proofs.PutLaws.{fit_then, wrote_room, wrote_lack}
use Rattle.put.proofs.Out.write_field.Goals as goal

pub overflow_add-width : goal.overflow_add-width
overflow_add-width c = omega (arith, decimal_room c.args.n)

pub returns-then-has_room-clause-wrote : goal.returns-then-has_room-clause-wrote
unfolding entry
returns-then-has_room-clause-wrote c = wrote_room c.has_room.ensures (omega arith) c.if-has_room.true
    (fit_then c.write_byte.ensures.wrote.fits c.write_number.ensures.wrote.fits)

pub returns-else-has_room-clause-wrote : goal.returns-else-has_room-clause-wrote
unfolding entry
returns-else-has_room-clause-wrote c = wrote_lack c.has_room.ensures (omega arith) c.if-has_room.false
