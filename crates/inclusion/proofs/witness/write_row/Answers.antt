-- `inclusion::witness::write_row` meets its contract: a pair without a mark, an ε pair, a leaf or a join.
use native.Mathlib.Omega.{arith}
use Rattle.inclusion.proofs.TraceLaws.{seen}
use Rattle.inclusion.proofs.WriteLaws.{write_none, write_eps_lem, write_node_lem}
use Rattle.inclusion.proofs.witness.write_row.Goals as goal

pub read_row-e-requires : goal.read_row-e-requires
read_row-e-requires c = c.requires.0

pub returns-then-e-eq0 : goal.returns-then-e-eq0
returns-then-e-eq0 c = write_none (seen c.args.work.now c.requires.0 c.read_row-e.ensures) c.read_row-e.ensures c.if-e-eq0.true

pub overflow_add-lefts : goal.overflow_add-lefts
overflow_add-lefts c = let s = seen c.args.work.now c.requires.0 c.read_row-e.ensures in omega arith

pub overflow_add-c : goal.overflow_add-c
overflow_add-c c = let s = seen c.args.work.now c.requires.0 c.read_row-e.ensures in omega arith

pub part-x-requires : goal.part-x-requires
part-x-requires c = λ d. let s = seen c.args.work.now c.requires.0 c.read_row-e.ensures in let x = s.first d in omega arith

pub offset_bounds-work-c : goal.offset_bounds-work-c
offset_bounds-work-c c = let s = seen c.args.work.now c.requires.0 c.read_row-e.ensures in omega arith

pub bounds-work-c : goal.bounds-work-c
bounds-work-c c = let s = seen c.args.work.now c.requires.0 c.read_row-e.ensures in omega arith

pub returns-then-right : goal.returns-then-right
returns-then-right c = write_eps_lem (seen c.args.work.now c.requires.0 c.read_row-e.ensures) c.read_row-e.ensures c.if-e-eq0.false c.if-right.true c.part-x.ensures.1

pub part-y-requires : goal.part-y-requires
part-y-requires c = λ d. let s = seen c.args.work.now c.requires.0 c.read_row-e.ensures in let x = s.second d c.if-right.false in omega arith

pub offset_bounds-work-c-2 : goal.offset_bounds-work-c-2
offset_bounds-work-c-2 c = let s = seen c.args.work.now c.requires.0 c.read_row-e.ensures in omega arith

pub bounds-work-c-2 : goal.bounds-work-c-2
bounds-work-c-2 c = let s = seen c.args.work.now c.requires.0 c.read_row-e.ensures in omega arith

pub returns : goal.returns
returns c = write_node_lem (seen c.args.work.now c.requires.0 c.read_row-e.ensures) c.read_row-e.ensures c.if-e-eq0.false c.if-right.false c.part-x.ensures c.part-y.ensures c.put_node.ensures
