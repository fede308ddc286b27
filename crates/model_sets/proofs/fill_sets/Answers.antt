-- `model_sets::fill_sets` meets its contract: with no model or no room nothing is changed, else the scan begins with cleared flags.
use Rattle.paper.specs.Limits.{limits}
use Rattle.model_sets.proofs.Filling.{fills_bad, fills_full, fills_begins, fills_sets}
use Rattle.model_sets.proofs.fill_sets.Goals as goal

pub returns-in_err-p : goal.returns-in_err-p
returns-in_err-p c = rw c.from_residual.ensures (fills_bad limits _ _ _ _ _ c.read_model.ensures c.in_err-p.was)

pub returns-then-not-has_room : goal.returns-then-not-has_room
returns-then-not-has_room c = fills_full limits _ _ _ _ _ c.read_model.ensures c.in_ok-p.was (c.has_room.ensures.no c.if-not-has_room.true)

pub scan-requires : goal.scan-requires
scan-requires c = fills_begins limits _ _ _ _ _ c.read_model.ensures c.in_ok-p.was (c.has_room.ensures.yes c.if-not-has_room.false) c.clear.ensures c.clear_rows.ensures

pub returns : goal.returns
returns c = fills_sets limits _ _ _ _ _ c.read_model.ensures c.in_ok-p.was (c.has_room.ensures.yes c.if-not-has_room.false) c.clear.ensures c.clear_rows.ensures c.scan.ensures
