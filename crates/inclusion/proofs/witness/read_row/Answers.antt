-- `inclusion::witness::read_row` meets its contract: the four numbers are read in the parts of the work memory.
use native.Mathlib.Omega.{arith}
use Rattle.inclusion.proofs.TraceLaws.{placed, entry_at}
use Rattle.inclusion.proofs.witness.read_row.Goals as goal

pub overflow_add-base : goal.overflow_add-base
overflow_add-base c = let p = placed c.args.work.now c.requires in omega arith

pub get-pair-requires : goal.get-pair-requires
get-pair-requires c = let p = placed c.args.work.now c.requires in omega arith

pub get-mark-requires : goal.get-mark-requires
get-mark-requires c = let p = placed c.args.work.now c.requires in omega arith

pub overflow_add-base-2 : goal.overflow_add-base-2
overflow_add-base-2 c = let p = placed c.args.work.now c.requires in omega arith

pub get-left-requires : goal.get-left-requires
get-left-requires c = let p = placed c.args.work.now c.requires in omega arith

pub overflow_add-base-3 : goal.overflow_add-base-3
overflow_add-base-3 c = let p = placed c.args.work.now c.requires in omega arith

pub get-right-requires : goal.get-right-requires
get-right-requires c = let p = placed c.args.work.now c.requires in omega arith

pub returns : goal.returns
returns c = entry_at c.args.work.now c.requires c.get-pair.ensures c.get-mark.ensures c.get-left.ensures c.get-right.ensures
