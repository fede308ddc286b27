-- The marks and the rules of lines put together, and what one line among them adds. Assumes nothing.
use Prim.Native.Nat.{ℕ, ◌+◌, ◌<◌}
use mathlib.Core.Path.{◌≡◌, refl, sym, ap, ◌∙◌}
use mathlib.Core.List.{List, [], ◌∷◌, ◌++◌, append_assoc}
use native.Mathlib.Numerals.{add-one}
use native.Mathlib.Omega.{arith}
use lib.ListN.{length, take, drop}
use lib.Seq.{split_at}
use Rattle.rule_line.specs.declared.Line.{Line}
use Rattle.rule_line.specs.declared.Line.TheVariants.{Head, Faulty}
use Rattle.rule_read.specs.Text.{mark_of, the_rule_of, marks_of, rules_of, symbols_of, states_of}
use Rattle.rule_read.specs.Work.{saying_at}

pub marks_append : (xs ys : List Line) → marks_of (xs ++ ys) ≡ marks_of xs ++ marks_of ys
unfolding marks_of
marks_append [] ys = refl
marks_append (x ∷ xs) ys = ap (λ (r : List ℕ). mark_of x ++ r) (marks_append xs ys) ∙ sym (append_assoc (mark_of x) (marks_of xs) (marks_of ys))

pub rules_append : (xs ys : List Line) → rules_of (xs ++ ys) ≡ rules_of xs ++ rules_of ys
unfolding rules_of
rules_append [] ys = refl
rules_append (x ∷ xs) ys = ap (λ (r : List ℕ). the_rule_of x ++ r) (rules_append xs ys) ∙ sym (append_assoc (the_rule_of x) (rules_of xs) (rules_of ys))

-- the marks and the rules, parted at line k
module _ (ls : List Line) (k : ℕ) {l : Line} (h : k < length ls) (e : l ≡ saying_at ls k) where
  parted : ls ≡ take k ls ++ (l ∷ drop (k + 1) ls)
  parted = split_at ls k (Faulty 0) h ∙ rw (e, add-one k)

  pub marks_parted : marks_of ls ≡ marks_of (take k ls) ++ (mark_of l ++ marks_of (drop (k + 1) ls))
  unfolding marks_of
  marks_parted = ap marks_of parted ∙ marks_append (take k ls) (l ∷ drop (k + 1) ls)

  pub rules_parted : rules_of ls ≡ rules_of (take k ls) ++ (the_rule_of l ++ rules_of (drop (k + 1) ls))
  unfolding rules_of
  rules_parted = ap rules_of parted ∙ rules_append (take k ls) (l ∷ drop (k + 1) ls)

-- what the head says
pub head_said : (ls : List Line) {y n : ℕ} → saying_at ls 0 ≡ Head y n → (symbols_of ls ≡ y) × (states_of ls ≡ n)
unfolding symbols_of states_of
head_said [] e = let z : ◌≡◌ {A = ℕ} 0 1 = cc in absurd (omega arith)
head_said (x ∷ xs) e = (rw e refl, rw e refl)
