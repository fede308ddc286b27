-- The writer's answer and what it leaves in the slice are the only ones that its contract allows. Assumes nothing.
use Prim.Native.Nat.{ℕ}
use mathlib.Core.Path.{◌≡◌, sym, ap, ◌∙◌}
use mathlib.Core.List.{List}
use native.Mathlib.Omega.{arith}
use Rattle.paper.specs.Limits.{Limits}
use Rattle.paper.proofs.ToldLaws.{refusal_unique}
use Rattle.rule_write.specs.Write.{Writing, told, Writes}
use Rattle.std.specs.Prelude.{Ok, Err}

pub told_unique : (a b : Writing) → told a ≡ told b → a ≡ b
told_unique (Ok n) (Ok m) e = let q : n ≡ m = cc in ap Ok q
told_unique (Ok n) (Err s) e = let z : ◌≡◌ {A = ℕ} 0 1 = cc in absurd (omega arith)
told_unique (Err r) (Ok m) e = let z : ◌≡◌ {A = ℕ} 0 1 = cc in absurd (omega arith)
told_unique (Err r) (Err s) e = ap Err (refusal_unique r s e)

pub writes_unique : (L : Limits) (symbols : ℕ) (ms xs o : List ℕ) (r s : Writing) (o₁ o₂ : List ℕ)
    → Writes L symbols ms xs o r o₁ → Writes L symbols ms xs o s o₂ → (r ≡ s) × (o₁ ≡ o₂)
writes_unique L symbols ms xs o r s o₁ o₂ v w = (told_unique r s (v.answer ∙ sym w.answer), v.text ∙ sym w.text)
