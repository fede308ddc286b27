-- The rows at the front of a list are those of the front alone. Assumes nothing.
use Prim.Native.Nat.{ℕ, ◌+◌, ◌*◌, ◌/◌, ◌≤◌, ◌<◌}
use mathlib.Core.Path.{◌≡◌, sym, ap, ◌∙◌}
use mathlib.Core.List.{List, ◌++◌}
use native.Mathlib.Nat.{add-mul, mul-div_cancel, mul-le-mul_right}
use native.Mathlib.Omega.{arith}
use lib.ListN.{length, take, drop, length-append, take-append-drop, get_or-append}
use lib.Seq.{length-take-le}
use Rattle.paper.specs.Limits.{Limits}
use Rattle.table.specs.Rules.{Row}
use Rattle.table.specs.Check.{OutOfRange, HasRow}
use Rattle.rule_read.specs.Text.{the_rule_of, rule_line_fault}
use Rattle.rule_read.proofs.Verdict.{rule_many, rule_range, rule_again, rule_none}
use Rattle.rule_read.proofs.Said.{Wide, wide_positive}

pub wide_long : {w : ℕ} → Wide w → 3 < w
unfolding the_rule_of
wide_long wide = omega (arith, wide 0 0 0 0)

-- a row below n rows stands within their numbers
pub row_within : (w n j : ℕ) → j < n → j * w + w ≤ n * w
row_within w n j h = omega (arith, mul-le-mul_right w h, add-mul j 1 w)

module _ {w : ℕ} (wide : Wide w) (xs ys : List ℕ) {j k a b q : ℕ} where
  pub row_front : j * w + w ≤ length xs → Row w (xs ++ ys) j k a b q → Row w xs j k a b q
  row_front h r =
      let l = wide_long wide in
      record {
        inside = h;
        kind = sym (get_or-append xs ys 0 (j * w) (omega arith)) ∙ r.kind;
        left = sym (get_or-append xs ys 0 (j * w + 1) (omega arith)) ∙ r.left;
        right = sym (get_or-append xs ys 0 (j * w + 2) (omega arith)) ∙ r.right;
        target = sym (get_or-append xs ys 0 (j * w + 3) (omega arith)) ∙ r.target;
      }

  pub row_more : Row w xs j k a b q → Row w (xs ++ ys) j k a b q
  row_more r =
      let l = wide_long wide in
      let h = r.inside in
      record {
        inside = omega (arith, length-append xs ys);
        kind = get_or-append xs ys 0 (j * w) (omega arith) ∙ r.kind;
        left = get_or-append xs ys 0 (j * w + 1) (omega arith) ∙ r.left;
        right = get_or-append xs ys 0 (j * w + 2) (omega arith) ∙ r.right;
        target = get_or-append xs ys 0 (j * w + 3) (omega arith) ∙ r.target;
      }

module _ {w : ℕ} (wide : Wide w) (xs ys : List ℕ) {n k a b q : ℕ} where
  pub has_front : n * w ≤ length xs → HasRow w (xs ++ ys) n k a b q → HasRow w xs n k a b q
  has_front h (j, l, r) = (j, l, row_front wide xs ys (let z = row_within w n j l in omega arith) r)

  pub has_more : HasRow w xs n k a b q → HasRow w (xs ++ ys) n k a b q
  has_more (j, l, r) = (j, l, row_more wide xs ys r)

-- the rows at the front of a slice
module _ {w : ℕ} (wide : Wide w) (xs : List ℕ) (n : ℕ) (h : n * w ≤ length xs) where
  pub front_rows : length (take (n * w) xs) / w ≡ n
  front_rows = ap (λ (i : ℕ). i / w) (length-take-le (n * w) xs h) ∙ mul-div_cancel n (wide_positive wide)

  module _ {k a b q : ℕ} where
    pub front_has : HasRow w xs n k a b q → HasRow w (take (n * w) xs) n k a b q
    front_has r =
        has_front wide (take (n * w) xs) (drop (n * w) xs) (omega (arith, length-take-le (n * w) xs h)) (rw (take-append-drop (n * w) xs) r)

    pub slice_has : HasRow w (take (n * w) xs) n k a b q → HasRow w xs n k a b q
    slice_has r = rw (take-append-drop (n * w) xs) at (has_more wide (take (n * w) xs) (drop (n * w) xs) r)

-- a rule line, the r rules before it at the front of a slice
module _ (L : Limits) (wide : Wide L.width) (y n m : ℕ) (xs : List ℕ) (r : ℕ) (h : r * L.width ≤ length xs) (k a b q : ℕ) where
  abbrev front : List ℕ
  front = take (r * L.width) xs

  same_rows : length front / L.width ≡ r
  same_rows = front_rows wide xs r h

  module _ (u : n ≤ m) where
    late : ¬ (m < n)
    late x = omega arith

    pub front_many : L.rules ≤ r → rule_line_fault L y n m (take (r * L.width) xs) k a b q ≡ 4
    front_many v = rule_many L y n m front k a b q late (rw same_rows v)

    module _ (v : r < L.rules) where
      few : ¬ (L.rules ≤ length front / L.width)
      few x = omega (arith, same_rows)

      pub front_range : OutOfRange y n k a b q → rule_line_fault L y n m (take (r * L.width) xs) k a b q ≡ 5
      front_range = rule_range L y n m front k a b q late few

      module _ (w : ¬ OutOfRange y n k a b q) where
        pub front_again : HasRow L.width xs r k a b q → rule_line_fault L y n m (take (r * L.width) xs) k a b q ≡ 6
        front_again x = rule_again L y n m front k a b q late few w (rw same_rows (front_has wide xs r h x))

        pub front_none : ¬ HasRow L.width xs r k a b q → rule_line_fault L y n m (take (r * L.width) xs) k a b q ≡ 0
        front_none x = rule_none L y n m front k a b q late few w (λ z. x (slice_has wide xs r h (rw same_rows at z)))
