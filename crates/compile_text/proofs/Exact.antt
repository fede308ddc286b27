-- One answer is allowed.
use mathlib.Core.Path.{◌≡◌}
use mathlib.Core.List.{List}
use Prim.Native.Nat.{ℕ}
use Rattle.paper.specs.Limits.{limits}
use Rattle.paper.specs.Told.{Told}
use Rattle.answers.specs.Written.{WritesText}
use Rattle.answers.proofs.WrittenLaws.{writing_unique}
use Rattle.compile_text.specs.Answer.{compile_text_of}

pub compile_text_unique : (s : List ℕ) {O O₁ O₂ : List ℕ} {t₁ t₂ : Told} → WritesText limits.text (compile_text_of limits s) O t₁ O₁
    → WritesText limits.text (compile_text_of limits s) O t₂ O₂ → (t₁ ≡ t₂) × (O₁ ≡ O₂)
compile_text_unique s v w = writing_unique v w
