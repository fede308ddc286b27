-- Counting the rules that slices give, state by state. Assumes nothing.
use Prim.Native.Nat.{ℕ, ◌+◌, ◌*◌, ◌≤◌}
use mathlib.Core.Path.{◌≡◌, refl, sym, ap, ◌∙◌}
use mathlib.Core.Bool.{Bool, true, false, not, ◌&&◌}
use mathlib.Core.List.{List}
use native.Mathlib.Numerals.{add-one}
use native.Mathlib.Omega.{arith}
use lib.Dec.{eqb}
use borrow.Author.Tests.{eq-eqb, ne_eqb}
use Rattle.paper.specs.Limits.{at}
use Rattle.compiled.specs.Counts.{sum, count}
use Rattle.model_read.proofs.Few.{one, one_most, count_most}
use Rattle.model_fill.specs.Kept.{no_symbol_of}
use Rattle.model_table.specs.Work.{is_set, starts_at, count_from, the_count_by}

pub from_le : (stride k : ℕ) (N : List ℕ) (q : ℕ) → count_from stride k N q ≤ k
unfolding count_from
from_le stride k N q = count_most k (λ y. is_set N (q * stride + y))

-- what a flag counts
pub flag_yes : (xs : List ℕ) (i : ℕ) → ¬ (at xs i ≡ 0) → one (is_set xs i) ≡ 1
unfolding is_set
flag_yes xs i h = ap (λ t. one (not t)) (ne_eqb (at xs i) 0 h)

pub flag_no : (xs : List ℕ) (i : ℕ) → at xs i ≡ 0 → one (is_set xs i) ≡ 0
unfolding is_set
flag_no xs i h = ap (λ t. one (not t)) (eq-eqb (at xs i) 0 h)

-- what a test that is answered counts
pub answer_yes : (t b : Bool) → t ≡ b → t ≡ true → one b ≡ 1
answer_yes t b e h = ap one (sym e ∙ h)

pub answer_no : (t b : Bool) → t ≡ b → t ≡ false → one b ≡ 0
answer_no t b e h = ap one (sym e ∙ h)

-- one place more: it comes next, or not
pub from_none : (stride : ℕ) (N : List ℕ) (q : ℕ) → 0 ≡ count_from stride 0 N q
unfolding count_from count
from_none stride N q = refl

pub from_more : (stride : ℕ) (N : List ℕ) (q y n j : ℕ) → n ≡ count_from stride y N q → j ≡ n + one (is_set N (q * stride + y))
    → j ≡ count_from stride (y + 1) N q
unfolding count_from count
from_more stride N q y n j h k = rw (add-one y) (k ∙ ap (λ i. i + one (is_set N (q * stride + y))) h)

-- the initial state of a symbol
pub starts_none : (B O : List ℕ) (q : ℕ) → at O q ≡ no_symbol_of → false ≡ starts_at B O q
unfolding starts_at
starts_none B O q h = sym (ap (λ t. not t && eqb (at B q) no_symbol_of) (eq-eqb (at O q) no_symbol_of h))

pub starts_some : (B O : List ℕ) (q : ℕ) → ¬ (at O q ≡ no_symbol_of) → eqb (at B q) no_symbol_of ≡ starts_at B O q
unfolding starts_at
starts_some B O q h = sym (ap (λ t. not t && eqb (at B q) no_symbol_of) (ne_eqb (at O q) no_symbol_of h))

-- the rules of one state
abbrev pub rules_at : ℕ → ℕ → List ℕ → List ℕ → List ℕ → List ℕ → ℕ → ℕ
rules_at stride k B O E N q = count_from stride k N q + (one (is_set E q) + one (starts_at B O q))

-- n rules of the first q states
pub record Counting (stride k : ℕ) (B O E N : List ℕ) (q n : ℕ) : Type 0 where
  pub few : n ≤ q * (stride + 2)
  pub counted : n ≡ sum q (rules_at stride k B O E N)

module _ (stride k : ℕ) (B O E N : List ℕ) where
  pub counting_none : Counting stride k B O E N 0 0
  unfolding sum
  counting_none = record { few = omega arith; counted = refl }

  pub counting_more : (q : ℕ) {n j : ℕ} → k ≤ stride → Counting stride k B O E N q n
      → j ≡ n + count_from stride k N q + one (is_set E q) + one (starts_at B O q) → Counting stride k B O E N (q + 1) j
  unfolding sum
  counting_more q {n} {j} h c e =
      let x = from_le stride k N q in
      let y = one_most (is_set E q) in
      let z = one_most (starts_at B O q) in
      record {
        few = omega (arith, c.few);
        counted = rw (add-one q) (omega (arith, c.counted));
      }

  pub counting_all : {n : ℕ} → Counting stride k B O E N k n → n ≡ the_count_by stride k B O E N
  unfolding the_count_by
  counting_all c = c.counted
