-- `lines::read_end` meets its contract: each answer by what the tests tell of the byte at `at` and of the length.
use Prim.Native.Nat.{ℕ}
use borrow.Author.Tests.{eq-eqb, ne_eqb}
use lib.ListN.{get_or-eq_default}
use Rattle.lines.specs.Lines.{lf}
use Rattle.lines.specs.Fields.{ends}
use Rattle.lines.proofs.read_end.Goals as goal

pub returns-then-x-at : goal.returns-then-x-at
unfolding ends
returns-then-x-at c = rw (get_or-eq_default {A = ℕ} _ 0 c.if-x-at.true)

pub returns-then-x-at-ne-LF : goal.returns-then-x-at-ne-LF
unfolding ends
returns-then-x-at-ne-LF c = rw (ne_eqb _ lf c.if-x-at-ne-LF.true)

pub returns-then-x-at-2 : goal.returns-then-x-at-2
unfolding ends
returns-then-x-at-2 c = rw (eq-eqb _ lf c.if-x-at-ne-LF.false, eq-eqb _ _ c.if-x-at-2.true)

pub returns : goal.returns
unfolding ends
returns c = rw (eq-eqb _ lf c.if-x-at-ne-LF.false, ne_eqb _ _ c.if-x-at-2.false)
