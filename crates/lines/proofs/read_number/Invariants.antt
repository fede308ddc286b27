-- `lines::read_number` meets its contract. Invariant: what is to be answered is what `more` answers from here. Assumes nothing.
use Prim.Native.Nat.{◌≤◌}
use mathlib.Core.Path.{◌≡◌}
use lib.ListN.{length, drop}
use Rattle.lines.specs.Number.{most_number, more, number}
use Rattle.lines.proofs.read_number.Given as goal

abbrev pub invariant-loop-i : goal.invariant-loop-i
invariant-loop-i l = (l.i ≤ length l.s) × (l.v ≤ most_number) × (number l.at (drop l.at l.s) ≡ more l.v l.i (drop l.i l.s))
