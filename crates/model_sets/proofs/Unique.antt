-- What the contract says determines the answer and all three slices. Assumes nothing.
use Prim.Native.Nat.{ℕ, ◌+◌, ◌*◌, ◌/◌, ◌%◌, ◌<◌}
use mathlib.Core.Path.{◌≡◌, refl, sym, ap, ◌∙◌}
use mathlib.Core.Logic.{◌≢◌}
use mathlib.Core.Option.{Option, none, some}
use mathlib.Core.List.{List}
use native.Mathlib.Nat.{div-add-mod', mod-lt}
use native.Mathlib.Omega.{arith}
use lib.ListN.{length}
use lib.Seq.{ext_get_or}
use Rattle.paper.specs.Limits.{Limits, at}
use Rattle.model.specs.Model.{Model}
use Rattle.postfix.specs.Field.{model_in}
use Rattle.model_sets.specs.Sets.{answer_of, Holds, Fills}
use Rattle.std.specs.Prelude as std
use Rattle.std.specs.Prelude.{Some, None}
use Rattle.std.proofs.lemmas.Option.{none-some}

-- every index is a row and a column
pub rows_same : (s : ℕ) (N N' : List ℕ) → s ≢ 0 → length N ≡ length N' → ((i y : ℕ) → y < s → i * s + y < length N → at N (i * s + y) ≡ at N' (i * s + y)) → N ≡ N'
rows_same s N N' d e h =
    ext_get_or 0 N N' e
    (λ j l.
    let z : j / s * s + j % s ≡ j = div-add-mod' j s in
    let g = h (j / s) (j % s) (mod-lt j (omega arith)) (omega (arith, z)) in
    ap (at N) (sym z) ∙ g ∙ ap (at N') z)

pub holds_unique : (s : ℕ) (m : Model) (B E N : List ℕ) {B₁ E₁ N₁ B₂ E₂ N₂ : List ℕ} → s ≢ 0 → Holds s m B E N B₁ E₁ N₁
    → Holds s m B E N B₂ E₂ N₂ → (B₁ ≡ B₂) × ((E₁ ≡ E₂) × (N₁ ≡ N₂))
holds_unique s m B E N {B₁} {E₁} {N₁} {B₂} {E₂} {N₂} d x y = (
  x.bearing ∙ sym y.bearing,
  (
    ext_get_or 0 E₁ E₂ (x.ends_length ∙ sym y.ends_length) (λ i l. x.ending i ∙ sym (y.ending i)),
    rows_same s N₁ N₂ d (x.next_length ∙ sym y.next_length) (λ i c l k. x.coming i c l ∙ sym (y.coming i c l)),
  ),
)

answer_none : (s b e n : ℕ) {o : Option Model} {k : ℕ} → o ≡ none → Some k ≡ answer_of s o b e n → ⊥
unfolding answer_of
answer_none s b e n z q = none-some _ (sym (q ∙ ap (λ (x : Option Model). answer_of s x b e n) z))

pub fills_unique : (L : Limits) (n : ℕ) (f B E N : List ℕ) {r₁ r₂ : std.Option ℕ} {B₁ E₁ N₁ B₂ E₂ N₂ : List ℕ} → L.states ≢ 0
    → Fills L n f B E N r₁ B₁ E₁ N₁ → Fills L n f B E N r₂ B₂ E₂ N₂ → (r₁ ≡ r₂) × ((B₁ ≡ B₂) × ((E₁ ≡ E₂) × (N₁ ≡ N₂)))
fills_unique L n f B E N {r₁} {r₂} {B₁} {E₁} {N₁} {B₂} {E₂} {N₂} d x y =
    let q : r₁ ≡ r₂ = x.answer ∙ sym y.answer in (q, of_answer r₁ refl q)
  where
    of_model : (k : ℕ) → r₁ ≡ Some k → r₂ ≡ Some k → (o : Option Model) → model_in L n f ≡ o → (B₁ ≡ B₂) × ((E₁ ≡ E₂) × (N₁ ≡ N₂))
    of_model k a b none e = absurd (answer_none L.states (length B) (length E) (length N) e (sym a ∙ x.answer))
    of_model k a b (some m) e = holds_unique L.states m B E N d (x.filled e a) (y.filled e b)

    of_answer : (r : std.Option ℕ) → r₁ ≡ r → r₁ ≡ r₂ → (B₁ ≡ B₂) × ((E₁ ≡ E₂) × (N₁ ≡ N₂))
    of_answer (Some k) a q = of_model k a (sym q ∙ a) (model_in L n f) refl
    of_answer None a q =
        let u = x.unfit a in
        let v = y.unfit (sym q ∙ a) in
        (u.0 ∙ sym v.0, (u.1.0 ∙ sym v.1.0, u.1.1 ∙ sym v.1.1))
