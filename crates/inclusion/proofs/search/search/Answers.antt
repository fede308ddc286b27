use mathlib.Core.Path.{◌≡◌}
use mathlib.Core.List.{List}
use Prim.Native.Nat.{ℕ}
use native.Mathlib.Omega.{arith}
use borrow.Author.Rules.{rules}
use Rattle.std.specs.Prelude.{Option}
use Rattle.paper.specs.Limits.{limits}
use Rattle.pairs.specs.declared.Sizes.{Sizes}
use Rattle.pairs.proofs.WorkLaws.{kept_here, kept_then}
use Rattle.inclusion.specs.Search.{Searches}
use Rattle.inclusion.proofs.SearchLaws.{going_none, took_size, judged, going_more, one_fails, all_pass}
use Rattle.inclusion.proofs.search.search.Goals as goal

-- the slice at the end is that of the queue
left : {mS xS xB : List ℕ} {z : Sizes} {ws vs ws' : List ℕ} {o : Option ℕ} → ws' ≡ vs → Searches limits mS xS xB z ws vs o
    → Searches limits mS xS xB z ws ws' o
left e s = rw e s

pub loop-i-init : goal.loop-i-init
loop-i-init c = let l = c.leaves.ensures in
    (kept_here, going_none limits (omega arith) (omega arith) c.requires.1 l.steps (rw l.kept.sizes at c.close_eps.ensures.steps))

pub returns-then-fails : goal.returns-then-fails
returns-then-fails c = let k = kept_then (kept_then c.leaves.ensures.kept c.close_eps.ensures.kept) c.loop-i.invariant.0 in
    let g = c.loop-i.invariant.1 in
    let h = c.if-queue-i.false in
    let t = rw k.sizes at c.take-pair.ensures.took in
    left (search rules)
    (record { size = took_size g h t; answer = λ mB d. one_fails limits (omega arith) d g h t ((judged g h t (rw c.slice.ensures at c.fails.ensures)).yes c.if-fails.true) })

pub loop-i-preserved : goal.loop-i-preserved
loop-i-preserved c = let k = kept_then (kept_then c.leaves.ensures.kept c.close_eps.ensures.kept) c.loop-i.invariant.0 in
    let g = c.loop-i.invariant.1 in
    let h = c.if-queue-i.false in
    let t = rw k.sizes at c.take-pair.ensures.took in
    let e = c.take-pair.ensures in
    let j = c.join_all.ensures in
    let f = c.close_eps-in-loop-i.ensures in (
      kept_then c.loop-i.invariant.0 (kept_then e.kept (kept_then j.kept f.kept)),
      going_more limits (omega arith) (omega arith) g h t ((judged g h t (rw c.slice.ensures at c.fails.ensures)).no c.if-fails.false)
          (rw (e.count, e.kept.sizes, k.sizes) at j.steps) (rw (e.count, j.kept.sizes, e.kept.sizes, k.sizes) at f.steps),
    )

pub returns-then-queue-i : goal.returns-then-queue-i
returns-then-queue-i c = let g = c.loop-i.invariant.1 in
    left (search rules) (record { size = g.size; answer = λ mB d. all_pass limits (omega arith) d g (omega arith) })

pub returns : goal.returns
returns c = let g = c.loop-i.invariant.1 in
    left (search rules) (record { size = g.size; answer = λ mB d. all_pass limits (omega arith) d g (omega (arith, g.searched.state.queued.count)) })
