-- Rows of a slice: a row is whole inside it exactly below the slice's length by the width, and what a search down the rows found.
-- Assumes nothing.
use Prim.Native.Nat.{ℕ, ◌+◌, ◌*◌, ◌/◌, ◌≤◌, ◌<◌}
use mathlib.Core.List.{List}
use native.Mathlib.Nat.{le-div_iff_mul-le, add-mul}
use native.Mathlib.Omega.{arith}
use lib.ListN.{length}
use mathlib.Core.Path.{◌≡◌, refl, ap, sym, ◌∙◌}
use Rattle.std.specs.Prelude.{Option, Some, None}
use Rattle.std.specs.Option.{option_eq}
use Rattle.std.proofs.Common.{subst}
use Rattle.paper.specs.contracts.RuleRowPartialEq as eq
use Rattle.paper.proofs.RowEq.{row_eq, row_eq_same}
use Rattle.paper.proofs.TellsLaws.{tells_no, true_not_false}
use Rattle.paper.specs.Told.{Tells}
use Rattle.paper.specs.declared.RuleRow.{RuleRow}
use Rattle.table.specs.Rules.{Row, RowAt}
use Rattle.paper.specs.Limits.{Limits}
use Rattle.table.specs.Check.{Misshapen, OutOfRange, HasRow, RuleMisshapen, RuleOutOfRange, RuleRepeated}

module _ {w : ℕ} (positive : 0 < w) where
  pub row_whole : (n i : ℕ) → i < n / w → i * w + w ≤ n
  row_whole n i h = let k = (le-div_iff_mul-le {k = w} {x = i + 1} {y = n} positive).0 (omega arith) in omega (arith, add-mul i 1 w)

  pub row_below : (n i : ℕ) → i * w + w ≤ n → i < n / w
  row_below n i h =
      let k = (le-div_iff_mul-le {k = w} {x = i + 1} {y = n} positive).1 (omega (arith, add-mul i 1 w)) in omega arith

-- the numbers of a row that is whole, and no other, are its numbers
pub row_same : {w i k a b q k' a' b' q' : ℕ} {xs : List ℕ} → Row w xs i k a b q → Row w xs i k' a' b' q' → ◌≡◌ {A = RuleRow} (record { kind = k; left = a; right = b; to = q }) (record { kind = k'; left = a'; right = b'; to = q' })
row_same r s = rw (sym r.kind ∙ s.kind, sym r.left ∙ s.left, sym r.right ∙ s.right, sym r.target ∙ s.target)

-- two answers that the contract of `row_at` allows are one
pub row_at_unique : {w : ℕ} (positive : 0 < w) (xs : List ℕ) (i : ℕ) (a b : Option RuleRow) → RowAt w xs i a → RowAt w xs i b → a ≡ b
row_at_unique positive xs i None None h g = refl
row_at_unique {w} positive xs i None (Some s) h g = absurd (omega (arith, row_below {w = w} positive (length xs) i g.inside))
row_at_unique {w} positive xs i (Some r) None h g = absurd (omega (arith, row_below {w = w} positive (length xs) i h.inside))
row_at_unique positive xs i (Some r) (Some s) h g = ap Some (row_same h g)

-- the row that stands there is held against another one
pub row_is : {w i : ℕ} {xs : List ℕ} (positive : 0 < w) (found : Option RuleRow) (r : RuleRow) → RowAt w xs i found
    → Tells (option_eq eq.TheImpl.eq-value.it found (Some r)) (Row w xs i r.kind r.left r.right r.to)
row_is {w} {i} {xs} positive None r h = tells_no (λ s. omega (arith, row_below {w = w} positive (length xs) i s.inside))
row_is {w} {i} {xs} positive (Some s) r h = record {
  yes = λ e. subst (λ (x : RuleRow). Row w xs i x.kind x.left x.right x.to) (row_eq s r e) h;
  no = λ e t. true_not_false (sym (row_eq_same s r (row_same h t)) ∙ e);
}

-- what the tests tell of a row's numbers holds of the numbers that stand there
module _ (L : Limits) (xs : List ℕ) (i : ℕ) {r : RuleRow} (row : Row L.width xs i r.kind r.left r.right r.to) where
  pub row_shape : Misshapen r.kind r.right → RuleMisshapen L xs i
  row_shape h = rw (row.kind, row.right) h

  pub row_shaped : ¬ Misshapen r.kind r.right → ¬ RuleMisshapen L xs i
  row_shaped d h = d (rw (row.kind, row.right) at h)

  module _ (symbols states : ℕ) where
    pub row_range : OutOfRange symbols states r.kind r.left r.right r.to → RuleOutOfRange L symbols states xs i
    row_range h = rw (row.kind, row.left, row.right, row.target) h

    pub row_ranged : ¬ OutOfRange symbols states r.kind r.left r.right r.to → ¬ RuleOutOfRange L symbols states xs i
    row_ranged d h = d (rw (row.kind, row.left, row.right, row.target) at h)

  pub row_again : HasRow L.width xs i r.kind r.left r.right r.to → RuleRepeated L xs i
  row_again h = rw (row.kind, row.left, row.right, row.target) h

  pub row_new : ¬ HasRow L.width xs i r.kind r.left r.right r.to → ¬ RuleRepeated L xs i
  row_new d h = d (rw (row.kind, row.left, row.right, row.target) at h)
