-- `inclusion::witness::want_row` meets its contract: a pair without a mark, a leaf, an ε pair, a join.
use native.Mathlib.Omega.{arith}
use lib.ListN.{length-set}
use Rattle.inclusion.proofs.TraceLaws.{seen}
use Rattle.inclusion.proofs.WantLaws.{want_none_lem, want_leaf, want_eps, want_join}
use Rattle.inclusion.proofs.witness.want_row.Goals as goal

pub read_row-e-requires : goal.read_row-e-requires
read_row-e-requires c = c.requires

pub returns-then-e-eq0 : goal.returns-then-e-eq0
returns-then-e-eq0 c = want_none_lem (seen c.args.work.now c.requires c.read_row-e.ensures) c.read_row-e.ensures c.if-e-eq0.true

pub returns-then-right : goal.returns-then-right
returns-then-right c = want_leaf (seen c.args.work.now c.requires c.read_row-e.ensures) c.read_row-e.ensures c.if-right.true

pub overflow_add-work : goal.overflow_add-work
overflow_add-work c = let s = seen c.args.work.now c.requires c.read_row-e.ensures in let x = s.first c.if-right.false in omega arith

pub offset_bounds-work-base : goal.offset_bounds-work-base
offset_bounds-work-base c = let s = seen c.args.work.now c.requires c.read_row-e.ensures in let x = s.first c.if-right.false in omega arith

pub bounds-work-base : goal.bounds-work-base
bounds-work-base c = let s = seen c.args.work.now c.requires c.read_row-e.ensures in let x = s.first c.if-right.false in omega arith

pub returns-then-right-2 : goal.returns-then-right-2
returns-then-right-2 c = want_eps (seen c.args.work.now c.requires c.read_row-e.ensures) c.read_row-e.ensures c.if-e-eq0.false c.if-right-2.true

pub overflow_cast-work-2 : goal.overflow_cast-work-2
overflow_cast-work-2 c = let s = seen c.args.work.now c.requires c.read_row-e.ensures in let x = s.second c.if-right.false c.if-right-2.false in omega arith

pub overflow_add-work-2 : goal.overflow_add-work-2
overflow_add-work-2 c = let s = seen c.args.work.now c.requires c.read_row-e.ensures in let x = s.second c.if-right.false c.if-right-2.false in omega arith

pub offset_bounds-work-base-2 : goal.offset_bounds-work-base-2
offset_bounds-work-base-2 c = let s = seen c.args.work.now c.requires c.read_row-e.ensures in let x = s.second c.if-right.false c.if-right-2.false in omega arith

pub bounds-work-base-2 : goal.bounds-work-base-2
bounds-work-base-2 c = let s = seen c.args.work.now c.requires c.read_row-e.ensures in let x = s.second c.if-right.false c.if-right-2.false in rw length-set (omega arith)

pub returns : goal.returns
returns c = want_join (seen c.args.work.now c.requires c.read_row-e.ensures) c.read_row-e.ensures c.if-e-eq0.false c.if-right.false c.if-right-2.false
