-- The M lines among lines, one more of them, and which symbols they have. Assumes nothing.
use Prim.Native.Nat.{ℕ, suc, ◌≤◌, ◌<◌}
use mathlib.Core.Path.{◌≡◌, refl, sym, ap, ◌∙◌}
use mathlib.Core.Logic.{◌≢◌, by_cases}
use mathlib.Core.Option.{none}
use mathlib.Core.List.{List, [], ◌∷◌, ◌++◌, append_assoc}
use native.Mathlib.Decide.{dec_lt}
use native.Mathlib.Omega.{arith}
use lib.ListN.{length, get_or, take, drop, length-append, take-append-drop, get_or-append}
use lib.Seq.{take-suc, take-length, get_or-append_seam}
use Rattle.model.specs.Model.{Model, empty}
use Rattle.model_line.specs.Line.{Said, head, content, misshapen}
use Rattle.compiled.specs.States.{insides, all_insides, states}
use Rattle.model.specs.Documents.{Line, model_of}
use Rattle.compiled.proofs.Lines.{model_later}
use Rattle.compiled.proofs.Numbers.{length_states}
use Rattle.model_read.specs.Text.{said_at, models_of, Modelled}

-- the M lines of lines put together
models_append : (xs ys : List Said) → models_of (xs ++ ys) ≡ models_of xs ++ models_of ys
unfolding models_of
models_append [] ys = refl
models_append (head y t ∷ xs) ys = models_append xs ys
models_append (content a m ∷ xs) ys = ap (λ (r : List Line). record { of = a; model = m } ∷ r) (models_append xs ys)
models_append (misshapen ∷ xs) ys = models_append xs ys

-- behind a header none, behind one more M line one more; and at the end all
pub models_first : (ls : List Said) {y t : ℕ} → said_at ls 0 ≡ head y t → models_of (take 1 ls) ≡ []
unfolding models_of
models_first [] e = refl
models_first (x ∷ xs) e = rw e refl

pub models_more : (ls : List Said) (k : ℕ) {a : ℕ} {m : Model} → said_at ls k ≡ content a m → k < length ls
    → models_of (take (suc k) ls) ≡ models_of (take k ls) ++ (record { of = a; model = m } ∷ [])
unfolding models_of
models_more ls k {a} {m} e h =
    ap models_of (take-suc ls k misshapen h) ∙ models_append (take k ls) (said_at ls k ∷ [])
    ∙ ap (λ (x : Said). models_of (take k ls) ++ models_of (x ∷ [])) e

pub models_all : (ls : List Said) → models_of (take (length ls) ls) ≡ models_of ls
models_all ls = ap models_of (take-length ls)

-- the states of some lines are no more than those of all
insides_append : (xs ys : List Line) → all_insides (xs ++ ys) ≡ all_insides xs ++ all_insides ys
unfolding all_insides
insides_append [] ys = refl
insides_append (x ∷ xs) ys =
    ap (λ S. insides x ++ S) (insides_append xs ys) ∙ sym (append_assoc (insides x) (all_insides xs) (all_insides ys))

pub states_front : (n k : ℕ) (ls : List Said) → length (states n (models_of (take k ls))) ≤ length (states n (models_of ls))
states_front n k ls =
    let a = models_of (take k ls) in
    let b = models_of (drop k ls) in
    let e : models_of ls ≡ a ++ b = ap models_of (sym (take-append-drop k ls)) ∙ models_append (take k ls) (drop k ls) in
    let f = ap (λ (ms : List Line). length (states n ms)) e ∙ length_states n (a ++ b) in
    let g = ap length (insides_append a b) ∙ length-append (all_insides a) (all_insides b) in
    omega (arith, f, g, length_states n a)

-- which symbols have a line, with one line more
abbrev no_line : Line
no_line = record { of = 0; model = empty }

module _ (ms : List Line) (ln : Line) where
  pub modelled_more : {a : ℕ} → Modelled ms a → Modelled (ms ++ (ln ∷ [])) a
  modelled_more (j, h, e) =
      (j, omega (arith, length-append ms (ln ∷ [])), ap (λ (x : Line). x.of) (get_or-append ms (ln ∷ []) no_line j h) ∙ e)

  pub modelled_last : Modelled (ms ++ (ln ∷ [])) ln.of
  modelled_last =
      (length ms, omega (arith, length-append ms (ln ∷ [])), ap (λ (x : Line). x.of) (get_or-append_seam ms ln [] no_line))

  pub modelled_other : {a : ℕ} → ln.of ≢ a → Modelled (ms ++ (ln ∷ [])) a → Modelled ms a
  modelled_other {a} d (j, h, e) =
      by_cases (dec_lt j (length ms))
      (λ l. (j, l, ap (λ (x : Line). x.of) (sym (get_or-append ms (ln ∷ []) no_line j l)) ∙ e))
      (λ l.
      let i : length ms ≡ j = omega (arith, length-append ms (ln ∷ []), h) in
      absurd (d (
      sym (ap (λ (x : Line). x.of) (get_or-append_seam ms ln [] no_line))
      ∙ ap (λ (i : ℕ). (get_or (ms ++ (ln ∷ [])) i no_line).of) i ∙ e)))

-- a symbol without a line has no model
pub new_model : (ms : List Line) (a : ℕ) → ¬ Modelled ms a → model_of ms a ≡ none
unfolding model_of
new_model [] a n = refl
new_model (l ∷ ms) a n =
    model_later l ms a (λ e. n (0, omega arith, e)) ∙ new_model ms a (λ (j, h, e). n (suc j, omega arith, e))
