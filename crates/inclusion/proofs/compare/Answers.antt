-- `inclusion::compare` meets its contract: the index is built behind the numbers, and the search's outcome is told or its tree written.
use mathlib.Core.Path.{refl}
use native.Mathlib.Omega.{arith}
use Rattle.paper.specs.Limits.{limits}
use Rattle.table.proofs.Range.{states_few, rules_few}
use Rattle.inclusion.specs.Inclusion.{lent, is_included, is_witness}
use Rattle.inclusion.proofs.PrepareLaws.{index_inside, built_searchable, found_all, search_failed}
use Rattle.inclusion.proofs.WitnessLaws.{writable}
use Rattle.inclusion.proofs.compare.Goals as goal

pub lay-z-requires : goal.lay-z-requires
lay-z-requires c = (states_few limits c.requires.0.sender, states_few limits c.requires.0.receiver.0, rules_few limits c.requires.0.receiver.0)

pub slice_bounds-build-count : goal.slice_bounds-build-count
slice_bounds-build-count c = index_inside c.requires.0.sender c.requires.0.receiver.0 c.requires.0.receiver.1 c.requires.1 c.lay-z.ensures

pub slice_bounds-build-start : goal.slice_bounds-build-start
slice_bounds-build-start c = index_inside c.requires.0.sender c.requires.0.receiver.0 c.requires.0.receiver.1 c.requires.1 c.lay-z.ensures

pub search-requires : goal.search-requires
search-requires c = (c.args.receiver_marks.now, built_searchable c.requires.0.sender c.requires.0.receiver.0 c.requires.0.receiver.1 c.requires.1 c.lay-z.ensures c.build.ensures)

pub returns-in_err-i : goal.returns-in_err-i
returns-in_err-i c = let s = built_searchable c.requires.0.sender c.requires.0.receiver.0 c.requires.0.receiver.1 c.requires.1 c.lay-z.ensures c.build.ensures in
    rw c.from_residual.ensures (is_included c.requires.0 (found_all (c.search.ensures.answer c.args.receiver_marks.now s) c.in_err-i.was) refl)

pub witness-requires : goal.witness-requires
witness-requires c = let s = built_searchable c.requires.0.sender c.requires.0.receiver.0 c.requires.0.receiver.1 c.requires.1 c.lay-z.ensures c.build.ensures in
    writable
    (lent c.args.symbols c.args.sender_marks.now c.args.sender_rules.now)
    (lent c.args.symbols c.args.receiver_marks.now c.args.receiver_rules.now)
    c.requires.0.sender
    c.requires.0.receiver.0
    c.lay-z.ensures.pairs
    (omega (arith, s.room.long, c.search.ensures.size))
    (omega (arith, c.requires.0.enough, c.lay-z.ensures.pairs))
    (search_failed c.in_ok-i.i s.receiver.states (c.search.ensures.answer c.args.receiver_marks.now s) c.in_ok-i.was)

pub returns : goal.returns
returns c = let s = built_searchable c.requires.0.sender c.requires.0.receiver.0 c.requires.0.receiver.1 c.requires.1 c.lay-z.ensures c.build.ensures in
    is_witness c.requires.0
    (c.witness.ensures.witnessed
    (lent c.args.symbols c.args.sender_marks.now c.args.sender_rules.now)
    (lent c.args.symbols c.args.receiver_marks.now c.args.receiver_rules.now)
    c.requires.0.sender
    c.requires.0.receiver
    c.lay-z.ensures.pairs
    (search_failed c.in_ok-i.i s.receiver.states (c.search.ensures.answer c.args.receiver_marks.now s) c.in_ok-i.was))
