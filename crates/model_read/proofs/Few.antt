-- Lines over n symbols of which no two have one symbol are at most n. Assumes nothing.
use Prim.Native.Nat.{ℕ, zero, suc, ◌≤◌, ◌<◌}
use mathlib.Core.Path.{◌≡◌, refl, sym, ap, ◌∙◌}
use mathlib.Core.Logic.{◌≢◌, by_cases}
use mathlib.Core.Bool.{Bool, true, false, cond}
use mathlib.Core.Option.{Option, none, some}
use mathlib.Core.List.{List, [], ◌∷◌, ◌++◌}
use native.Mathlib.Decide.{ℕ_discrete}
use native.Mathlib.Omega.{arith}
use lib.Dec.{eqb}
use lib.ListN.{length, length-append}
use Rattle.model.specs.Model.{Model}
use Rattle.model.specs.Documents.{Line, model_of}
use Rattle.compiled.specs.Counts.{count}
use Rattle.compiled.specs.Valid.{GoodLines, no_line, one_more_of}
use Rattle.compiled.proofs.Lines.{none_some, model_here, model_later, model_cases_lem}

-- a test counts 1 or 0
abbrev pub one : Bool → ℕ
one b = cond b 1 0

pub one_most : (b : Bool) → one b ≤ 1
one_most true = omega arith
one_most false = omega arith

-- counting below n
pub count_most : (n : ℕ) (p : ℕ → Bool) → count n p ≤ n
unfolding count
count_most zero p = omega arith
count_most (suc n) p = omega (arith, count_most n p, one_most (p n))

count_none : (n : ℕ) → count n (λ i. false) ≡ 0
unfolding count
count_none zero = refl
count_none (suc n) = let z = count_none n in omega arith

count_same : (n : ℕ) (p q : ℕ → Bool) → ((i : ℕ) → i < n → q i ≡ p i) → count n q ≡ count n p
unfolding count
count_same zero p q h = refl
count_same (suc n) p q h =
    let z = count_same n p q (λ i l. h i (omega arith)) in
    let y = ap one (h n (omega arith)) in
    omega arith

-- one number more passes
count_more : (n : ℕ) (p q : ℕ → Bool) (a : ℕ) → p a ≡ false → q a ≡ true → ((i : ℕ) → i ≢ a → q i ≡ p i) → a < n
    → count n q ≡ suc (count n p)
unfolding count
count_more zero p q a e f h l = absurd (omega arith)
count_more (suc n) p q a e f h l = by_cases (ℕ_discrete a n)
    (λ z.
    let c = count_same n p q (λ i b. h i (λ w. omega arith)) in
    let x = ap one (ap p (sym z) ∙ e) in
    let y = ap one (ap q (sym z) ∙ f) in
    omega arith)
    (λ d.
    let c = count_more n p q a e f h (omega arith) in
    let y = ap one (h n (λ w. d (sym w))) in
    omega arith)

-- the model of a symbol with one line more
model_other : (ls : List Line) (ln : Line) (a : ℕ) → ln.of ≢ a → model_of (ls ++ (ln ∷ [])) a ≡ model_of ls a
unfolding model_of
model_other [] ln a d = model_later ln [] a d
model_other (l ∷ ls) ln a d = ap (cond (eqb l.of a) (some l.model)) (model_other ls ln a d)

model_last : (ls : List Line) (ln : Line) → model_of ls ln.of ≡ none → model_of (ls ++ (ln ∷ [])) ln.of ≡ some ln.model
model_last [] ln e = model_here ln []
model_last (l ∷ ls) ln e =
    model_cases_lem l ls ln.of none e (λ o s. absurd (none_some (sym s)))
    (λ o s. model_later l (ls ++ (ln ∷ [])) ln.of o ∙ model_last ls ln s)

unfoldable has : Option Model → Bool
has none = false
has (some m) = true

lines_counted : {n : ℕ} {ls : List Line} → GoodLines n ls → count n (λ a. has (model_of ls a)) ≡ length ls
unfolding has model_of
lines_counted {n} no_line = count_none n
lines_counted {n} (one_more_of {ls = ls} {ln = ln} h g) =
    count_more n (λ a. has (model_of ls a)) (λ a. has (model_of (ls ++ (ln ∷ [])) a)) ln.of (ap has g.new)
    (ap has (model_last ls ln g.new)) (λ i d. ap has (model_other ls ln i (λ e. d (sym e)))) g.below
    ∙ let z = lines_counted h in omega (arith, length-append ls (ln ∷ []))

pub lines_few : {n : ℕ} {ls : List Line} → GoodLines n ls → length ls ≤ n
lines_few {n} {ls} g = let z = lines_counted g in omega (arith, count_most n (λ a. has (model_of ls a)))
