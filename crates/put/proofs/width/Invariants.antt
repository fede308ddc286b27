-- `put::width` meets its contract. Invariant: `n` has `k - 1` digits more than `m`. The measure is `m`. Assumes nothing.
use Prim.Native.Nat.{◌<◌, ◌+◌, ◌^◌}
use mathlib.Core.Path.{◌≡◌}
use lib.ListN.{length}
use Rattle.lines.specs.Number.{decimal}
use Rattle.put.proofs.width.Given as goal

abbrev pub invariant-loop-m : goal.invariant-loop-m
invariant-loop-m l = (l.m < 2 ^ 64) × (l.k + length (decimal l.m) ≡ length (decimal l.n) + 1)

abbrev pub decreases-loop-m : goal.decreases-loop-m
decreases-loop-m l = l.m
