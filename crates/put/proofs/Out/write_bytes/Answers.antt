-- `put::Out::write_bytes` meets its contract: the bytes are put where there is room for all of them. Assumes nothing.
use native.Mathlib.Omega.{arith}
use mathlib.Core.Path.{refl}
use Rattle.put.proofs.PutLaws.{put_part, wrote_room}
use Rattle.put.proofs.Out.write_bytes.Goals as goal

pub returns-then-has_room-clause-wrote : goal.returns-then-has_room-clause-wrote
returns-then-has_room-clause-wrote c = wrote_room c.has_room.ensures refl c.if-has_room.true (put_part c.copy_from_slice.ensures.after (omega arith))
