-- The rules of the numbers of rules are those rules: row i is rule i. Assumes nothing.
use Prim.Native.Nat.{ℕ, zero, suc, ◌+◌, ◌*◌, ◌≤◌, ◌<◌}
use native.Mathlib.Omega.{arith}
use mathlib.Core.Path.{◌≡◌, refl, sym, ◌∙◌, ap, subst}
use mathlib.Core.Logic.{◌↔◌}
use mathlib.Core.List.{List, [], ◌∷◌, ◌++◌, append_assoc}
use lib.ListN.{length, get_or, length-append, get_or-append}
use lib.Seq.{get_or-append-add}
use Rattle.paper.specs.Limits.{at}
use Rattle.table.specs.Rules.{Rule, leaf_rule, join_rule, eps_rule, Row, RowRule, RulesOf}
use Rattle.compiled.specs.Rules.{numbers_of, numbers}
use Rattle.compiled.proofs.Member.{In, in_at, at_in}

-- rule i of a list
abbrev pub the_rule_at : List Rule → ℕ → Rule
the_rule_at rs i = get_or rs i (eps_rule 0 0)

pub length_numbers_of : (r : Rule) → length (numbers_of r) ≡ 4
unfolding numbers_of
length_numbers_of (leaf_rule a q) = refl
length_numbers_of (join_rule l r q) = refl
length_numbers_of (eps_rule p q) = refl

pub length_numbers : (rs : List Rule) → length (numbers rs) ≡ length rs * 4
unfolding numbers
length_numbers [] = refl
length_numbers (r ∷ rs) =
    let x = length-append (numbers_of r) (numbers rs) in
    let y = length_numbers_of r in
    let z = length_numbers rs in
    omega arith

pub numbers_append : (rs ks : List Rule) → numbers (rs ++ ks) ≡ numbers rs ++ numbers ks
unfolding numbers
numbers_append [] ks = refl
numbers_append (r ∷ rs) ks =
    ap (λ l. numbers_of r ++ l) (numbers_append rs ks) ∙ sym (append_assoc (numbers_of r) (numbers rs) (numbers ks))

-- number k of row i
pub row_at : (rs : List Rule) (i k : ℕ) → i < length rs → k < 4 → at (numbers rs) (i * 4 + k) ≡ at (numbers_of (the_rule_at rs i)) k
unfolding numbers
row_at [] i k h l = absurd (omega arith)
row_at (r ∷ rs) zero k h l =
    let y = length_numbers_of r in
    ap (at (numbers_of r ++ numbers rs)) (let z : zero * 4 + k ≡ k = omega arith in z)
    ∙ get_or-append (numbers_of r) (numbers rs) 0 k (omega arith)
row_at (r ∷ rs) (suc i) k h l =
    let y = length_numbers_of r in
    ap (at (numbers_of r ++ numbers rs)) (let z : suc i * 4 + k ≡ length (numbers_of r) + (i * 4 + k) = omega arith in z)
    ∙ get_or-append-add (numbers_of r) (numbers rs) (i * 4 + k) 0 ∙ row_at rs i k (omega arith) l

-- the four numbers of row i
pub record RowOf (xs : List ℕ) (i : ℕ) (r : Rule) : Type 0 where
  pub kind : at xs (i * 4) ≡ at (numbers_of r) 0
  pub left : at xs (i * 4 + 1) ≡ at (numbers_of r) 1
  pub right : at xs (i * 4 + 2) ≡ at (numbers_of r) 2
  pub target : at xs (i * 4 + 3) ≡ at (numbers_of r) 3

pub row_of : (rs : List Rule) (i : ℕ) → i < length rs → RowOf (numbers rs) i (the_rule_at rs i)
row_of rs i h = record {
  kind = ap (at (numbers rs)) (let z : i * 4 ≡ i * 4 + 0 = omega arith in z) ∙ row_at rs i 0 h (omega arith);
  left = row_at rs i 1 h (omega arith);
  right = row_at rs i 2 h (omega arith);
  target = row_at rs i 3 h (omega arith);
}

pub row_inside : (rs : List Rule) (i : ℕ) → i * 4 + 4 ≤ length (numbers rs) → i < length rs
row_inside rs i h = let z = length_numbers rs in omega arith

pub inside_row : (rs : List Rule) (i : ℕ) → i < length rs → i * 4 + 4 ≤ length (numbers rs)
inside_row rs i h = let z = length_numbers rs in omega arith

-- a rule is told by its four numbers
module _ (xs : List ℕ) (i : ℕ) where
  pub numbers_row : (r : Rule) → i * 4 + 4 ≤ length xs → RowOf xs i r → RowRule 4 xs i r
  unfolding numbers_of
  numbers_row (leaf_rule a q) h w = record { inside = h; kind = w.kind; left = w.left; right = w.right; target = w.target }
  numbers_row (join_rule l r q) h w = record { inside = h; kind = w.kind; left = w.left; right = w.right; target = w.target }
  numbers_row (eps_rule p q) h w = record { inside = h; kind = w.kind; left = w.left; right = w.right; target = w.target }

  abbrev same : {k a b q k' a' b' q' : ℕ} → Row 4 xs i k a b q → Row 4 xs i k' a' b' q' → (k ≡ k') × (a ≡ a') × (b ≡ b') × (q ≡ q')
  same v w = (sym v.kind ∙ w.kind, sym v.left ∙ w.left, sym v.right ∙ w.right, sym v.target ∙ w.target)

  pub row_rule : (r s : Rule) → RowRule 4 xs i r → RowRule 4 xs i s → r ≡ s
  row_rule (leaf_rule a q) (leaf_rule a' q') v w = let e = same v w in let x = e.1 in let y = e.3 in cc
  row_rule (leaf_rule a q) (join_rule l r q') v w = absurd (let e = (same v w).0 in omega arith)
  row_rule (leaf_rule a q) (eps_rule p q') v w = absurd (let e = (same v w).0 in omega arith)
  row_rule (join_rule l r q) (leaf_rule a q') v w = absurd (let e = (same v w).0 in omega arith)
  row_rule (join_rule l r q) (join_rule l' r' q') v w = let e = same v w in let x = e.1 in let y = e.2 in let z = e.3 in cc
  row_rule (join_rule l r q) (eps_rule p q') v w = absurd (let e = (same v w).0 in omega arith)
  row_rule (eps_rule p q) (leaf_rule a q') v w = absurd (let e = (same v w).0 in omega arith)
  row_rule (eps_rule p q) (join_rule l r q') v w = absurd (let e = (same v w).0 in omega arith)
  row_rule (eps_rule p q) (eps_rule p' q') v w = let e = same v w in let x = e.1 in let y = e.3 in cc

  pub row_whole : (r : Rule) → RowRule 4 xs i r → i * 4 + 4 ≤ length xs
  row_whole (leaf_rule a q) v = v.inside
  row_whole (join_rule l r q) v = v.inside
  row_whole (eps_rule p q) v = v.inside

pub rule_row_lem : (rs : List Rule) (i : ℕ) → i < length rs → RowRule 4 (numbers rs) i (the_rule_at rs i)
rule_row_lem rs i h = numbers_row (numbers rs) i (the_rule_at rs i) (inside_row rs i h) (row_of rs i h)

pub rules_of_exactly : (rs : List Rule) (r : Rule) → RulesOf 4 (numbers rs) r ↔ In r rs
rules_of_exactly rs r = (to, back)
  where
    to : RulesOf 4 (numbers rs) r → In r rs
    to (i, v) =
        let h = row_inside rs i (row_whole (numbers rs) i r v) in
        subst (λ s. In s rs) (row_rule (numbers rs) i (the_rule_at rs i) r (rule_row_lem rs i h) v) (at_in rs i (eps_rule 0 0) h)

    back : In r rs → RulesOf 4 (numbers rs) r
    back h = let k = in_at (eps_rule 0 0) h in (k.0, subst (RowRule 4 (numbers rs) k.0) k.2 (rule_row_lem rs k.0 k.1))
