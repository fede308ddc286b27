-- `lines::read_field` meets its contract: a tab and a number behind it, by what `read_number` ensures. Assumes nothing.
use Prim.Native.Nat.{ℕ}
use borrow.Author.Tests.{eq-eqb, ne_eqb}
use lib.ListN.{get_or-eq_default}
use Rattle.lines.specs.Fields.{field}
use Rattle.lines.proofs.read_field.Goals as goal

pub returns-then-x-at : goal.returns-then-x-at
unfolding field
returns-then-x-at c = rw (get_or-eq_default {A = ℕ} _ 0 c.if-x-at.true)

pub returns-then-x-at-eq-TAB : goal.returns-then-x-at-eq-TAB
unfolding field
returns-then-x-at-eq-TAB c = rw (eq-eqb _ 9 c.if-x-at-eq-TAB.true) c.read_number.ensures

pub returns-else-x-at-eq-TAB : goal.returns-else-x-at-eq-TAB
unfolding field
returns-else-x-at-eq-TAB c = rw (ne_eqb _ 9 c.if-x-at-eq-TAB.false)
