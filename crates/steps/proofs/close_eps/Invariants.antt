-- `steps::close_eps` meets its contract. The loop's invariant: the way on from here is the way on from the start.
use Prim.Native.Nat.{ℕ}
use mathlib.Core.List.{List}
use Rattle.paper.specs.Limits.{limits}
use Rattle.pairs.specs.Work.{Kept}
use Rattle.steps.specs.Runs.{Closing}
use Rattle.steps.proofs.close_eps.Given as goal

abbrev pub invariant-loop-j : goal.invariant-loop-j
invariant-loop-j l = Kept l.initial.queue l.queue × ((vs : List ℕ) (d : ℕ) → Closing limits l.initial.queue.sizes l.s l.j l.queue.work.now l.queue.count vs d → Closing limits l.initial.queue.sizes l.s l.from l.initial.queue.work.now l.initial.queue.count vs d)
