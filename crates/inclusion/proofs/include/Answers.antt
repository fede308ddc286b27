-- `inclusion::include` meets its contract: each refusal in its order, then what the comparison tells.
use mathlib.Core.Path.{refl, sym}
use native.Mathlib.Omega.{arith}
use lib.ListN.{length}
use Rattle.paper.specs.Limits.{limits}
use Rattle.table.proofs.Range.{states_few}
use Rattle.inclusion.specs.Inclusion.{is_refused, of_sender, of_receiver, symbol_counts, no_room}
use Rattle.inclusion.proofs.EntryLaws.{table_refused, table_good, factor_refused, factor_good, factor_prepared, product_small}
use Rattle.inclusion.proofs.include.Goals as goal

pub returns-in-Err : goal.returns-in-Err
returns-in-Err c = rw c.of.ensures (is_refused (of_sender (table_refused c.check.ensures _ c.in-Err.is)) refl)

pub returns-in-Err-checked : goal.returns-in-Err-checked
returns-in-Err-checked c = rw c.of-in-Err-checked.ensures (is_refused (of_receiver (table_good c.check.ensures c.in_default.is) (factor_refused c.factor-checked.ensures _ c.in-Err-checked.is)) refl)

pub returns-then-sender_symbols-receiver_symbols : goal.returns-then-sender_symbols-receiver_symbols
returns-then-sender_symbols-receiver_symbols c = rw c.at.ensures (is_refused (symbol_counts (table_good c.check.ensures c.in_default.is) (factor_good c.factor-checked.ensures c.in_default-checked.is) c.if-sender_symbols-receiver_symbols.true) refl)

pub overflow_mul-sender_marks : goal.overflow_mul-sender_marks
overflow_mul-sender_marks c = omega (arith, product_small (length c.args.sender_marks.now) (length c.args.receiver_marks.now) (states_few limits (table_good c.check.ensures c.in_default.is)) (states_few limits (factor_good c.factor-checked.ensures c.in_default-checked.is).0))

pub overflow_mul-sender_marks-2 : goal.overflow_mul-sender_marks-2
overflow_mul-sender_marks-2 c = omega (arith, product_small (length c.args.sender_marks.now) (length c.args.receiver_marks.now) (states_few limits (table_good c.check.ensures c.in_default.is)) (states_few limits (factor_good c.factor-checked.ensures c.in_default-checked.is).0))

pub returns-then-witness-sender_marks : goal.returns-then-witness-sender_marks
returns-then-witness-sender_marks c = rw c.at-then-witness-sender_marks.ensures (is_refused (no_room (table_good c.check.ensures c.in_default.is) (factor_good c.factor-checked.ensures c.in_default-checked.is) c.if-sender_symbols-receiver_symbols.false c.if-witness-sender_marks.true) refl)

pub compare-requires : goal.compare-requires
compare-requires c = (record { sender = table_good c.check.ensures c.in_default.is; receiver = rw c.if-sender_symbols-receiver_symbols.false (factor_good c.factor-checked.ensures c.in_default-checked.is); symbols = refl; enough = omega (arith, c.if-witness-sender_marks.false) }, factor_prepared c.factor-checked.ensures c.in_default-checked.is refl)

pub returns : goal.returns
returns c = rw (sym c.if-sender_symbols-receiver_symbols.false) c.compare.ensures
