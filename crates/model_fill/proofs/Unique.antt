-- What the contract says determines the answer and all four slices. Assumes nothing.
use Prim.Native.Nat.{ℕ, ◌+◌, ◌*◌, ◌≤◌, ◌<◌}
use native.Mathlib.Omega.{arith}
use native.Mathlib.Nat.{mul-le-mul_right}
use native.Mathlib.Decide.{dec_lt}
use mathlib.Core.Path.{◌≡◌, refl, sym, ap, ◌∙◌}
use mathlib.Core.Logic.{◌≢◌, by_cases}
use mathlib.Core.List.{List}
use lib.Seq.{ext_get_or}
use Rattle.paper.specs.Limits.{Limits}
use Rattle.paper.specs.declared.Refusal.{Refusal}
use Rattle.paper.proofs.ToldLaws.{refusal_unique}
use Rattle.compiled.specs.States.{State}
use Rattle.model_read.specs.Text.{SurveyRefused, malformed, too_many_states}
use Rattle.model_sets.proofs.Unique.{rows_same}
use Rattle.model_fill.specs.Kept.{Kept}
use Rattle.model_fill.specs.Fill.{Filling, refusal_of, told, FillsStates}
use Rattle.std.specs.Prelude.{Ok, Err}
use Rattle.model_read.proofs.Exact.{same_survey}
use Rattle.model_fill.specs.declared.Unfilled.{Unfilled}
use Rattle.model_fill.specs.declared.Unfilled.TheVariants.{Ambiguous, Refused, Unfit}

-- what is kept of states is known
abbrev Same : List ℕ → List ℕ → List ℕ → List ℕ → List ℕ → List ℕ → List ℕ → List ℕ → Type 0
Same B O E N B' O' E' N' = (B ≡ B') × ((O ≡ O') × ((E ≡ E') × (N ≡ N')))

row_inside : (s q y : ℕ) → q * s + y < s * s → q < s
row_inside s q y h = by_cases (dec_lt q s) (λ g. g) (λ g. absurd (let k : s ≤ q = omega arith in over (mul-le-mul_right s k)))
  where
    over : s * s ≤ q * s → ⊥
    over g = omega arith

pub kept_unique : {s : ℕ} {S : List State} {B O E N B' O' E' N' : List ℕ} → s ≢ 0 → Kept s S B O E N → Kept s S B' O' E' N'
    → Same B O E N B' O' E' N'
kept_unique {s} {S} {B} {O} {E} {N} {B'} {O'} {E'} {N'} d x y = (
  ext_get_or 0 B B' (x.long.bears ∙ sym y.long.bears) (λ i h. let g : i < s = omega (arith, x.long.bears) in x.bearing i g ∙ sym (y.bearing i g)),
  (
    ext_get_or 0 O O' (x.long.owners ∙ sym y.long.owners) (λ i h. let g : i < s = omega (arith, x.long.owners) in x.owning i g ∙ sym (y.owning i g)),
    (
      ext_get_or 0 E E' (x.long.ends ∙ sym y.long.ends) (λ i h. let g : i < s = omega (arith, x.long.ends) in x.ending i g ∙ sym (y.ending i g)),
      rows_same s N N' d (x.long.next ∙ sym y.long.next)
          (λ q c h k. let g : q < s = row_inside s q c (omega (arith, x.long.next)) in x.coming q c g h ∙ sym (y.coming q c g h)),
    ),
  ),
)

-- the refusals of a survey have other numbers than an ambiguous model and slices of other lengths
survey_number : (L : Limits) (s : List ℕ) {n d p : ℕ} → SurveyRefused L s n d p → (n ≢ 14) × (n ≢ 1)
survey_number L s (malformed h w b) = (λ e. omega arith, λ e. omega arith)
survey_number L s (too_many_states w h) = (λ e. omega arith, λ e. omega arith)

module _ (L : Limits) (s B O E N : List ℕ) where
  abbrev Refusing : Filling → Type 0
  Refusing r = (x : Refusal) → r ≡ Err (Refused x) → SurveyRefused L s x.number x.side x.place

  abbrev Why : Unfilled → Type 0
  Why u = (x : Refusal) → u ≡ Refused x → SurveyRefused L s x.number x.side x.place

  why_unique : (u w : Unfilled) → Why u → Why w → refusal_of u ≡ refusal_of w → u ≡ w
  why_unique (Ambiguous k) (Ambiguous j) f g e = let z : k ≡ j = ap (λ (x : Refusal). x.place) e in ap Ambiguous z
  why_unique (Ambiguous k) (Refused x) f g e = let z : x.number ≡ 14 = ap (λ (x : Refusal). x.number) (sym e) in absurd ((survey_number L s (g x refl)).0 z)
  why_unique (Ambiguous k) Unfit f g e = let z : ◌≡◌ {A = ℕ} 14 1 = ap (λ (x : Refusal). x.number) e in absurd (omega arith)
  why_unique (Refused x) (Ambiguous k) f g e = let z : x.number ≡ 14 = ap (λ (x : Refusal). x.number) e in absurd ((survey_number L s (f x refl)).0 z)
  why_unique (Refused x) (Refused y) f g e = ap Refused e
  why_unique (Refused x) Unfit f g e = let z : x.number ≡ 1 = ap (λ (x : Refusal). x.number) e in absurd ((survey_number L s (f x refl)).1 z)
  why_unique Unfit (Ambiguous k) f g e = let z : ◌≡◌ {A = ℕ} 1 14 = ap (λ (x : Refusal). x.number) e in absurd (omega arith)
  why_unique Unfit (Refused x) f g e = let z : x.number ≡ 1 = ap (λ (x : Refusal). x.number) (sym e) in absurd ((survey_number L s (g x refl)).1 z)
  why_unique Unfit Unfit f g e = refl

  told_unique : (a b : Filling) → Refusing a → Refusing b → told a ≡ told b → a ≡ b
  unfolding told
  told_unique (Ok v) (Ok w) f g e =
      let p : v.symbols ≡ w.symbols = cc in
      let q : v.start ≡ w.start = cc in
      let r : v.states ≡ w.states = cc in
      ap Ok (same_survey v w p q r)
  told_unique (Ok v) (Err u) f g e = let z : ◌≡◌ {A = ℕ} 0 1 = cc in absurd (omega arith)
  told_unique (Err u) (Ok v) f g e = let z : ◌≡◌ {A = ℕ} 0 1 = cc in absurd (omega arith)
  told_unique (Err u) (Err w) f g e = ap Err (why_unique u w (λ x h. f x (ap Err h)) (λ x h. g x (ap Err h)) (refusal_unique (refusal_of u) (refusal_of w) e))

  pub states_unique : {a b : Filling} {B₁ O₁ E₁ N₁ B₂ O₂ E₂ N₂ : List ℕ} → L.states ≢ 0 → FillsStates L s B O E N a B₁ O₁ E₁ N₁
      → FillsStates L s B O E N b B₂ O₂ E₂ N₂ → (a ≡ b) × Same B₁ O₁ E₁ N₁ B₂ O₂ E₂ N₂
  states_unique {a} {b} {B₁} {O₁} {E₁} {N₁} {B₂} {O₂} {E₂} {N₂} d x y =
      let q : a ≡ b = told_unique a b (λ z e. (x.refuses e).0) (λ z e. (y.refuses e).0) (x.answer ∙ sym y.answer) in
      (q, of_answer a refl (sym q))
    where
      both : (B₁ ≡ B) × ((O₁ ≡ O) × ((E₁ ≡ E) × (N₁ ≡ N))) → (B₂ ≡ B) × ((O₂ ≡ O) × ((E₂ ≡ E) × (N₂ ≡ N)))
          → Same B₁ O₁ E₁ N₁ B₂ O₂ E₂ N₂
      both u v = (u.0 ∙ sym v.0, (u.1.0 ∙ sym v.1.0, (u.1.1.0 ∙ sym v.1.1.0, u.1.1.1 ∙ sym v.1.1.1)))

      of_answer : (r : Filling) → a ≡ r → b ≡ a → Same B₁ O₁ E₁ N₁ B₂ O₂ E₂ N₂
      of_answer (Ok v) e f = kept_unique d (x.whole e) (y.whole (f ∙ e))
      of_answer (Err (Ambiguous k)) e f = kept_unique d (x.ambiguous e) (y.ambiguous (f ∙ e))
      of_answer (Err (Refused z)) e f = both (x.refuses e).1 (y.refuses (f ∙ e)).1
      of_answer (Err Unfit) e f = both (x.unfit e).1 (y.unfit (f ∙ e)).1
