-- `factorized::Table::receive` meets its contract: each answer by its law of `CheckLaws`.
use native.Mathlib.Omega.{arith}
use Rattle.paper.specs.Limits.{limits}
use Rattle.factorized.proofs.CheckLaws.{received_again, received_unsorted, received_split, received_single}
use Rattle.factorized.proofs.Table.receive.Goals as goal

pub returns-in-Some : goal.returns-in-Some
returns-in-Some c = rw c.at.ensures (received_again limits c.args.self.now.marks.now c.args.self.now.rules.now c.args.numbers.now c.requires c.in-Some.ensures)

pub returns-in-Some-first_unsorted : goal.returns-in-Some-first_unsorted
returns-in-Some-first_unsorted c = rw c.at-in-Some-first_unsorted.ensures
    (received_unsorted limits c.args.self.now.marks.now c.args.self.now.rules.now c.args.numbers.now c.in_default.ensures c.requires c.in-Some-first_unsorted.ensures)

pub returns-in-Some-number_states : goal.returns-in-Some-number_states
returns-in-Some-number_states c = rw c.at-in-Some-number_states.ensures
    (received_split limits c.args.self.now.marks.now c.args.self.now.rules.now _ c.in_default.ensures c.in_default-first_unsorted.ensures (omega arith) c.in-Some-number_states.ensures)

pub returns : goal.returns
returns c = received_single limits c.args.self.now.marks.now c.args.self.now.rules.now _ c.in_default.ensures c.in_default-first_unsorted.ensures c.in_default-number_states.ensures
