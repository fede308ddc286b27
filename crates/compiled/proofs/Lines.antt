-- The model that a symbol has by its line, and what lines that are good say of it. Assumes nothing.
use Prim.Native.Nat.{ℕ, ◌<◌}
use native.Mathlib.Omega.{arith}
use mathlib.Core.Path.{◌≡◌, refl, sym, ◌∙◌, subst}
use mathlib.Core.Logic.{◌≢◌, ◌⊎◌, inl, inr}
use mathlib.Core.Bool.{Bool, true, false, cond}
use mathlib.Core.Option.{Option, none, some}
use mathlib.Core.List.{List, [], ◌∷◌, ◌++◌}
use lib.Dec.{T, eqb, eqb→eq, eqb_refl}
use Rattle.model.specs.Model.{Model, bears, places}
use Rattle.model.specs.Documents.{Line, model_of}
use Rattle.compiled.specs.Valid.{GoodLine, GoodLines, no_line, one_more_of}

pub none_some : {m : Model} → none ≡ some m → ⊥
none_some e = let z : ◌≡◌ {A = ℕ} 0 1 = cc in omega arith

-- the two ways of a line
pub cond_yes : {A : Type 0} (b : Bool) (x y : A) → T b → cond b x y ≡ x
cond_yes true x y t = refl
cond_yes false x y t = absurd t

pub cond_no : {A : Type 0} (b : Bool) (x y : A) → ¬ T b → cond b x y ≡ y
cond_no true x y n = absurd (n tt)
cond_no false x y n = refl

pub cond_cases : {A C : Type 0} (b : Bool) (x y z : A) → cond b x y ≡ z → (T b → x ≡ z → C) → (¬ T b → y ≡ z → C) → C
cond_cases true x y z e p q = p tt e
cond_cases false x y z e p q = q (λ t. t) e

-- the model of a symbol with a line of its own, and of any other
pub model_here : (ln : Line) (ls : List Line) → model_of (ln ∷ ls) ln.of ≡ some ln.model
unfolding model_of
model_here ln ls = cond_yes (eqb ln.of ln.of) _ _ (eqb_refl ln.of)

pub model_later : (ln : Line) (ls : List Line) (a : ℕ) → ln.of ≢ a → model_of (ln ∷ ls) a ≡ model_of ls a
unfolding model_of
model_later ln ls a d = cond_no (eqb ln.of a) _ _ (λ t. d (eqb→eq _ _ t))

-- a symbol with a model has it by the first line or by a later one
pub model_cases_lem : {C : Type 0} (ln : Line) (ls : List Line) (a : ℕ) (m : Option Model) → model_of (ln ∷ ls) a ≡ m
    → (ln.of ≡ a → some ln.model ≡ m → C) → (ln.of ≢ a → model_of ls a ≡ m → C) → C
unfolding model_of
model_cases_lem ln ls a m e p q =
    cond_cases (eqb ln.of a) (some ln.model) (model_of ls a) m e (λ t. p (eqb→eq _ _ t))
    (λ n. q (λ s. n (subst (λ b. T (eqb ln.of b)) s (eqb_refl ln.of))))

-- one more line at the end
pub model_append : (ls : List Line) (ln : Line) (a : ℕ) (m : Model) → model_of (ls ++ (ln ∷ [])) a ≡ some m
    → (model_of ls a ≡ some m) ⊎ ((ln.of ≡ a) × (ln.model ≡ m))
model_append [] ln a m e =
    model_cases_lem {C = (model_of [] a ≡ some m) ⊎ ((ln.of ≡ a) × (ln.model ≡ m))} ln [] a (some m) e (λ o s. inr (o, cc)) (λ d s. inl s)
model_append (l ∷ ls) ln a m e =
    model_cases_lem {C = (model_of (l ∷ ls) a ≡ some m) ⊎ ((ln.of ≡ a) × (ln.model ≡ m))} l (ls ++ (ln ∷ [])) a (some m) e
    (λ o s. inl (subst (λ b. model_of (l ∷ ls) b ≡ some m) o (model_here l ls ∙ s)))
    (λ d s. go d (model_append ls ln a m s))
  where
    go : l.of ≢ a → (model_of ls a ≡ some m) ⊎ ((ln.of ≡ a) × (ln.model ≡ m))
        → (model_of (l ∷ ls) a ≡ some m) ⊎ ((ln.of ≡ a) × (ln.model ≡ m))
    go d (inl h) = inl (model_later l ls a d ∙ h)
    go d (inr h) = inr h

-- good lines: every symbol that has a model is below n, and so are the symbols of the model
pub record Below (n : ℕ) (ls : List Line) : Type 0 where
  pub outer : (a : ℕ) (m : Model) → model_of ls a ≡ some m → a < n
  pub inner : (a : ℕ) (m : Model) → model_of ls a ≡ some m → (y : ℕ) → y < places m → bears m y < n

below_more : {n : ℕ} {ls : List Line} {ln : Line} → Below n ls → GoodLine n ls ln → Below n (ls ++ (ln ∷ []))
below_more {n} {ls} {ln} b g = record {
  outer = λ a m e. outer a m (model_append ls ln a m e);
  inner = λ a m e. inner a m (model_append ls ln a m e);
}
  where
    outer : (a : ℕ) (m : Model) → (model_of ls a ≡ some m) ⊎ ((ln.of ≡ a) × (ln.model ≡ m)) → a < n
    outer a m (inl e) = b.outer a m e
    outer a m (inr (o, s)) = rw o at g.below

    inner : (a : ℕ) (m : Model) → (model_of ls a ≡ some m) ⊎ ((ln.of ≡ a) × (ln.model ≡ m)) → (y : ℕ) → y < places m → bears m y < n
    inner a m (inl e) = b.inner a m e
    inner a m (inr (o, s)) = subst (λ m. (y : ℕ) → y < places m → bears m y < n) s g.inner

no_model : (a : ℕ) {m : Model} → model_of [] a ≡ some m → ⊥
unfolding model_of
no_model a e = none_some e

pub lines_below : {n : ℕ} {ls : List Line} → GoodLines n ls → Below n ls
lines_below no_line = record { outer = λ a m e. absurd (no_model a e); inner = λ a m e. absurd (no_model a e) }
lines_below (one_more_of h g) = below_more (lines_below h) g

-- no symbol has two lines
pub data Distinct : List Line → Type 0 where
  no_lines : Distinct []
  and_line : {ln : Line} {ls : List Line} → model_of ls ln.of ≡ none → Distinct ls → Distinct (ln ∷ ls)

still_none : (ls : List Line) (ln : Line) (a : ℕ) → model_of ls a ≡ none → ln.of ≢ a → model_of (ls ++ (ln ∷ [])) a ≡ none
still_none [] ln a e d = model_later ln [] a d ∙ e
still_none (l ∷ ls) ln a e d =
    model_cases_lem l ls a none e (λ o s. absurd (none_some (sym s)))
    (λ o s. model_later l (ls ++ (ln ∷ [])) a o ∙ still_none ls ln a s d)

not_same : (l : Line) (ls : List Line) (a : ℕ) → model_of (l ∷ ls) a ≡ none → a ≢ l.of
not_same l ls a e s = none_some (sym e ∙ subst (λ b. model_of (l ∷ ls) b ≡ some l.model) (sym s) (model_here l ls))

distinct_more : {ls : List Line} (ln : Line) → model_of ls ln.of ≡ none → Distinct ls → Distinct (ls ++ (ln ∷ []))
distinct_more ln e no_lines = and_line e no_lines
distinct_more ln e (and_line {ln = l} {ls = ls} s d) =
    and_line (still_none ls ln l.of s (not_same l ls ln.of e))
    (distinct_more ln (sym (model_later l ls ln.of (λ o. not_same l ls ln.of e (sym o))) ∙ e) d)

pub lines_distinct : {n : ℕ} {ls : List Line} → GoodLines n ls → Distinct ls
lines_distinct no_line = no_lines
lines_distinct (one_more_of {ln = ln} h g) = distinct_more ln g.new (lines_distinct h)
