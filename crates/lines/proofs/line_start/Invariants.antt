-- `lines::line_start` meets its contract. Invariant: the line `i` starts at `at`. The measure is the lines that are left. Assumes nothing.
use Prim.Native.Nat.{◌≤◌}
use Rattle.lines.specs.Lines.{Starts}
use Rattle.lines.proofs.line_start.Given as goal

abbrev pub invariant-loop-i : goal.invariant-loop-i
invariant-loop-i l = (l.i ≤ l.k) × Starts l.s l.i l.at
