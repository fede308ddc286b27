-- `include_text::include_text` meets its contract: 1; or the answer, which stands in the slice as it was left.
use Rattle.std.proofs.Common.{rules}
use Prim.Native.Nat.{ℕ}
use mathlib.Core.Path.{◌≡◌}
use mathlib.Core.List.{List}
use Rattle.paper.specs.Limits.{limits}
use Rattle.paper.specs.Told.{Told}
use Rattle.include_text.specs.Answer.{Answers, no_room}
use Rattle.include_text.proofs.include_text.Goals as goal

pub returns-then-out-lt-ANSWER : goal.returns-then-out-lt-ANSWER
returns-then-out-lt-ANSWER c = rw c.at.ensures (no_room c.if-out-lt-ANSWER.true)

-- the slice that was lent is at last as it was left
answers_kept : {s t O O₁ O₂ : List ℕ} {x : Told} → O₂ ≡ O₁ → Answers limits s t O x O₁ → Answers limits s t O x O₂
answers_kept e a = rw e a

pub returns : goal.returns
returns c = answers_kept (search rules) c.include_sender.ensures.answered
