-- `rule_part::refused_at` meets its contract: a refusal has its place, and a text that is read has none.
use mathlib.Core.Path.{ap}
use Prim.Native.Nat.{ℕ, ◌-◌}
use native.Mathlib.Omega.{arith}
use Rattle.rule_part.proofs.PartLaws.{answer_refused, answer_place, answer_read}
use Rattle.rule_part.proofs.refused_at.Goals as goal

pub returns-in-Ok : goal.returns-in-Ok
returns-in-Ok c = answer_read c.read_text.ensures (omega arith) (omega arith) c.in-Ok.is

pub overflow_sub-result : goal.overflow_sub-result
overflow_sub-result c = (answer_place c.read_text.ensures (omega arith) (omega arith) c.in-Err.is).0

pub returns-in-Err : goal.returns-in-Err
returns-in-Err c = (
  answer_refused c.read_text.ensures (omega arith) (omega arith) c.in-Err.is,
  ap (λ (p : ℕ). p - 1) (answer_place c.read_text.ensures (omega arith) (omega arith) c.in-Err.is).1,
)
