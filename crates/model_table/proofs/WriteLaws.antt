-- The rules that slices give, laid one behind the other. Assumes nothing.
use Prim.Native.Nat.{ℕ, ◌+◌, ◌*◌}
use mathlib.Core.Path.{◌≡◌, refl, sym, ap, ap₂, ◌∙◌}
use mathlib.Core.Bool.{Bool, true, false, not, ◌&&◌}
use mathlib.Core.List.{List, [], ◌∷◌, ◌++◌, append-nil}
use native.Mathlib.Numerals.{add-one}
use lib.ListN.{length}
use lib.Dec.{eqb}
use borrow.Author.Tests.{eq-eqb, ne_eqb}
use Rattle.paper.specs.Limits.{at, leaf_kind, join_kind, eps_kind}
use Rattle.put.specs.Put.{Fit, Wrote}
use Rattle.put.proofs.PutLaws.{put_none, fit_then, fit_as, wrote_length}
use Rattle.table.specs.Rules.{Rule, leaf_rule, join_rule, eps_rule}
use Rattle.compiled.specs.States.{each}
use Rattle.compiled.specs.Rules.{only, numbers_of, numbers}
use Rattle.compiled.proofs.Rows.{numbers_append}
use Rattle.model_fill.specs.Kept.{no_symbol_of}
use Rattle.model_table.specs.Work.{is_set, initial_at, leaf_with, the_leaves_by, the_eps_by, join_with, joins_from}

-- the numbers of rules stand from `from` on, up to e, if they fit; the slice keeps its length
pub record Laid (o : List ℕ) (from : ℕ) (rs : List Rule) (e : ℕ) (o' : List ℕ) : Type 0 where
  pub long : length o' ≡ length o
  pub fits : Fit o from (numbers rs) e o'

pub laid_none : (o : List ℕ) (from : ℕ) → Laid o from [] from o
unfolding numbers
laid_none o from = record { long = refl; fits = λ h. put_none o from }

laid_then : {o o₁ o₂ : List ℕ} {from e r : ℕ} {rs ks : List Rule}
    → Laid o from rs e o₁ → Laid o₁ e ks r o₂ → Laid o from (rs ++ ks) r o₂
laid_then {rs = rs} {ks = ks} l k =
    record { long = k.long ∙ l.long; fits = fit_as (sym (numbers_append rs ks)) (fit_then l.fits k.fits) }

-- one part more of a list built by `each`
pub each_none : (f : ℕ → List Rule) (o : List ℕ) (from : ℕ) → Laid o from (each 0 f) from o
unfolding each
each_none f o from = laid_none o from

pub each_more : (f : ℕ → List Rule) (q : ℕ) {o o₁ o₂ : List ℕ} {from e r : ℕ}
    → Laid o from (each q f) e o₁ → Laid o₁ e (f q) r o₂ → Laid o from (each (q + 1) f) r o₂
unfolding each
each_more f q l k = rw (add-one q) (laid_then l k)

-- a rule whose test holds is written, another is not
only_yes : {b : Bool} (x : Rule) {o o' : List ℕ} {from r : ℕ} → b ≡ true → Wrote o from (numbers_of x) r o' → Laid o from (only b x) r o'
unfolding only numbers
only_yes x t w = rw t (record { long = wrote_length w; fits = fit_as (sym (append-nil (numbers_of x))) w.fits })

only_no : {b : Bool} (x : Rule) {o : List ℕ} {from : ℕ} → b ≡ false → Laid o from (only b x) from o
unfolding only
only_no x {o} {from} t = rw t (laid_none o from)

-- the tests of the rules
pub and_false : (b : Bool) → (b && false) ≡ false
and_false true = refl
and_false false = refl

set_yes : (xs : List ℕ) (i : ℕ) → ¬ (at xs i ≡ 0) → is_set xs i ≡ true
unfolding is_set
set_yes xs i h = ap not (ne_eqb (at xs i) 0 h)

set_no : (xs : List ℕ) (i : ℕ) → at xs i ≡ 0 → is_set xs i ≡ false
unfolding is_set
set_no xs i h = ap not (eq-eqb (at xs i) 0 h)

-- the leaf rule of the symbol a: state q is its initial one; is of another symbol; or is a place
module _ (B O : List ℕ) (a q : ℕ) {o o₁ : List ℕ} {from e : ℕ} (l : Laid o from (leaf_with q B O a) e o₁) where
  pub leaf_put : {o₂ : List ℕ} {r : ℕ} → at O q ≡ a → at B q ≡ no_symbol_of → Wrote o₁ e (leaf_kind ∷ a ∷ 0 ∷ q ∷ []) r o₂
      → Laid o from (leaf_with (q + 1) B O a) r o₂
  unfolding leaf_with initial_at numbers_of
  leaf_put h k w = each_more _ q l (only_yes (leaf_rule a q) (ap₂ ◌&&◌ (eq-eqb (at O q) a h) (eq-eqb (at B q) no_symbol_of k)) w)

  pub leaf_other : ¬ (at O q ≡ a) → Laid o from (leaf_with (q + 1) B O a) e o₁
  unfolding leaf_with initial_at
  leaf_other h = each_more _ q l (only_no (leaf_rule a q) (ap (λ t. t && eqb (at B q) no_symbol_of) (ne_eqb (at O q) a h)))

  pub leaf_place : ¬ (at B q ≡ no_symbol_of) → Laid o from (leaf_with (q + 1) B O a) e o₁
  unfolding leaf_with initial_at
  leaf_place h =
      each_more _ q l (only_no (leaf_rule a q) (ap (λ t. eqb (at O q) a && t) (ne_eqb (at B q) no_symbol_of h) ∙ and_false (eqb (at O q) a)))

-- the ε rule of state q: a word may end there, or not
module _ (E O : List ℕ) (q : ℕ) {o o₁ : List ℕ} {from e : ℕ} (l : Laid o from (the_eps_by q E O) e o₁) where
  pub eps_put : {o₂ : List ℕ} {r : ℕ} → ¬ (at E q ≡ 0) → Wrote o₁ e (eps_kind ∷ q ∷ 0 ∷ at O q ∷ []) r o₂
      → Laid o from (the_eps_by (q + 1) E O) r o₂
  unfolding the_eps_by numbers_of
  eps_put h w = each_more _ q l (only_yes (eps_rule q (at O q)) (set_yes E q h) w)

  pub eps_other : at E q ≡ 0 → Laid o from (the_eps_by (q + 1) E O) e o₁
  unfolding the_eps_by
  eps_other h = each_more _ q l (only_no (eps_rule q (at O q)) (set_no E q h))

-- the join rule of state q with the element a to state y: y can come next and bears a; cannot come next; or bears another symbol
module _ (stride : ℕ) (B N : List ℕ) (q a y : ℕ) {o o₁ : List ℕ} {from e : ℕ} (l : Laid o from (join_with stride y B N q a) e o₁) where
  pub join_put : {o₂ : List ℕ} {r : ℕ} → ¬ (at N (q * stride + y) ≡ 0) → at B y ≡ a → Wrote o₁ e (join_kind ∷ q ∷ a ∷ y ∷ []) r o₂
      → Laid o from (join_with stride (y + 1) B N q a) r o₂
  unfolding join_with numbers_of
  join_put h k w = each_more _ y l (only_yes (join_rule q a y) (ap₂ ◌&&◌ (set_yes N (q * stride + y) h) (eq-eqb (at B y) a k)) w)

  pub join_not : at N (q * stride + y) ≡ 0 → Laid o from (join_with stride (y + 1) B N q a) e o₁
  unfolding join_with
  join_not h = each_more _ y l (only_no (join_rule q a y) (ap (λ t. t && eqb (at B y) a) (set_no N (q * stride + y) h)))

  pub join_other : ¬ (at B y ≡ a) → Laid o from (join_with stride (y + 1) B N q a) e o₁
  unfolding join_with
  join_other h =
      let b = is_set N (q * stride + y) in
      each_more _ y l (only_no (join_rule q a y) (ap (λ t. b && t) (ne_eqb (at B y) a h) ∙ and_false b))

-- the rules of one more symbol, and of one more left state
pub leaves_more : (k : ℕ) (B O : List ℕ) (a : ℕ) {o o₁ o₂ : List ℕ} {from e r : ℕ} → Laid o from (the_leaves_by a k B O) e o₁
    → length o₂ ≡ length o₁ → Fit o₁ e (numbers (leaf_with k B O a)) r o₂ → Laid o from (the_leaves_by (a + 1) k B O) r o₂
unfolding the_leaves_by
leaves_more k B O a l h f = each_more (leaf_with k B O) a l (record { long = h; fits = f })

pub row_more : (stride k : ℕ) (B N : List ℕ) (q a : ℕ) {o o₁ o₂ : List ℕ} {from e r : ℕ} → Laid o from (joins_from stride a k B N q) e o₁
    → length o₂ ≡ length o₁ → Fit o₁ e (numbers (join_with stride k B N q a)) r o₂ → Laid o from (joins_from stride (a + 1) k B N q) r o₂
unfolding joins_from
row_more stride k B N q a l h f = each_more (join_with stride k B N q) a l (record { long = h; fits = f })

pub joins_more : (stride n k : ℕ) (B N : List ℕ) (q : ℕ) {o o₁ o₂ : List ℕ} {from e r : ℕ}
    → Laid o from (each q (joins_from stride n k B N)) e o₁ → length o₂ ≡ length o₁
    → Fit o₁ e (numbers (joins_from stride n k B N q)) r o₂ → Laid o from (each (q + 1) (joins_from stride n k B N)) r o₂
joins_more stride n k B N q l h f = each_more (joins_from stride n k B N) q l (record { long = h; fits = f })
