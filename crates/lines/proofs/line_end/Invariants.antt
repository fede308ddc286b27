-- `lines::line_end` meets its contract. Invariant: the line ends where it ends from here. Assumes nothing.
use Prim.Native.Nat.{◌≤◌, max}
use mathlib.Core.Path.{◌≡◌}
use lib.ListN.{length, drop}
use Rattle.lines.specs.Lines.{line_end_of}
use Rattle.lines.proofs.line_end.Given as goal

abbrev pub invariant-loop-i : goal.invariant-loop-i
invariant-loop-i l = (l.i ≤ max l.at (length l.s)) × (line_end_of l.at (drop l.at l.s) ≡ line_end_of l.i (drop l.i l.s))
