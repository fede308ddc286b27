-- What the contract of the reader says determines its answer and both slices. Assumes nothing.
use Prim.Native.Nat.{ℕ}
use mathlib.Core.Path.{◌≡◌, ap, sym, ◌∙◌}
use mathlib.Core.List.{List}
use Rattle.paper.specs.Limits.{Limits}
use Rattle.paper.specs.Told.{holds}
use Rattle.paper.proofs.ToldLaws.{refusal_unique}
use Rattle.rule_read.specs.Text.{Reading, told, Reads}
use Rattle.std.specs.Prelude.{Ok, Err}
use Rattle.table.specs.declared.Sizes.{Sizes}
use Rattle.rule_read.proofs.Exact.{refused_not_holds}

abbrev with : ℕ → ℕ → ℕ → Reading
with n m k = Ok (record { symbols = n; states = m; rules = k })

same_table : (x y : Sizes) → holds x.symbols x.states x.rules ≡ holds y.symbols y.states y.rules → ◌≡◌ {A = Reading} (Ok x) (Ok y)
same_table x y e =
    let a : x.symbols ≡ y.symbols = cc in
    let b : x.states ≡ y.states = cc in
    let c : x.rules ≡ y.rules = cc in
    ap (λ (n : ℕ). with n x.states x.rules) a ∙ ap (λ (n : ℕ). with y.symbols n x.rules) b ∙ ap (λ (n : ℕ). with y.symbols y.states n) c

-- the answer is the only one that tells what is told
pub told_unique : (a b : Reading) → told a ≡ told b → a ≡ b
told_unique (Ok x) (Ok y) e = same_table x y e
told_unique (Ok y) (Err x) e = absurd (refused_not_holds (sym e))
told_unique (Err x) (Ok y) e = absurd (refused_not_holds e)
told_unique (Err x) (Err x') e = ap Err (refusal_unique x x' e)

pub reads_unique : (L : Limits) (s M W : List ℕ) {a b : Reading} {M₁ W₁ M₂ W₂ : List ℕ} → Reads L s M W a M₁ W₁ → Reads L s M W b M₂ W₂
    → (a ≡ b) × ((M₁ ≡ M₂) × (W₁ ≡ W₂))
reads_unique L s M W {a} {b} x y =
    (told_unique a b (x.answer ∙ sym y.answer), (x.marks ∙ sym y.marks, x.rules ∙ sym y.rules))
