-- The models' table has none of the faults 7, 8 and 9, if no model is ambiguous. Assumes nothing.
use Prim.Native.Nat.{ℕ, ◌<◌}
use native.Mathlib.Omega.{arith}
use mathlib.Core.Path.{◌≡◌, refl, sym, ◌∙◌, subst}
use mathlib.Core.Logic.{◌≢◌, ⊎_elim}
use mathlib.Core.List.{List}
use lib.ListN.{length}
use Rattle.paper.specs.Limits.{Limits, at, join_kind, eps_kind}
use Rattle.table.specs.Rules.{Rule, leaf_rule, join_rule, eps_rule, RulesOf, Reach, here, step}
use Rattle.receiver.specs.Receiver.{MayLeft, MayRight, LeftSideAgain, BreaksSorts, NotSingle, Receives}
use Rattle.compiled.specs.States.{inside, marks}
use Rattle.model.specs.Documents.{Line}
use Rattle.compiled.specs.Rules.{rules, numbers_of, numbers}
use Rattle.compiled.specs.Valid.{Valid, Unambiguous}
use Rattle.compiled.specs.Meaning.{RuleOf, leaf_of, the_eps_of, join_of}
use Rattle.compiled.proofs.Member.{at_in}
use Rattle.compiled.proofs.Numbers.{element_inside, element_number}
use Rattle.compiled.proofs.Rows.{the_rule_at, row_of}
use Rattle.compiled.proofs.RuleExact.{rules_exactly, rule_exactly}
use Rattle.compiled.proofs.Marks.{element_right, inside_left}
use Rattle.compiled.proofs.Lone.{Same, same_leaf, same_join, rules_lone, lone_at}
use Rattle.compiled.proofs.Passes.{rows_count}

-- 7: two rules that are not ε rules with one kind and one left side
left_same : (r s : Rule) → at (numbers_of s) 0 ≢ eps_kind → at (numbers_of r) 0 ≡ at (numbers_of s) 0
    → at (numbers_of r) 1 ≡ at (numbers_of s) 1 → at (numbers_of r) 2 ≡ at (numbers_of s) 2 → Same r s
unfolding numbers_of
left_same (leaf_rule a q) (leaf_rule b p) n k e o = subst (λ b. Same (leaf_rule a q) (leaf_rule b p)) e same_leaf
left_same (leaf_rule a q) (join_rule l r p) n k e o = absurd (omega arith)
left_same (leaf_rule a q) (eps_rule b p) n k e o = absurd (n refl)
left_same (join_rule l r q) (leaf_rule b p) n k e o = absurd (omega arith)
left_same (join_rule l r q) (join_rule l' r' p) n k e o =
    subst (λ l'. Same (join_rule l r q) (join_rule l' r' p)) e (subst (λ r'. Same (join_rule l r q) (join_rule l r' p)) o same_join)
left_same (join_rule l r q) (eps_rule b p) n k e o = absurd (n refl)
left_same (eps_rule a q) (leaf_rule b p) n k e o = absurd (omega arith)
left_same (eps_rule a q) (join_rule l r p) n k e o = absurd (omega arith)
left_same (eps_rule a q) (eps_rule b p) n k e o = absurd (n refl)

-- 8: the sorts of a join rule
join_sorts : (start : ℕ) {n : ℕ} {ls : List Line} {r : Rule} → RuleOf n ls r → at (numbers_of r) 0 ≡ join_kind
    → MayLeft (marks start n ls) (at (numbers_of r) 1) × MayRight (marks start n ls) (at (numbers_of r) 2)
unfolding numbers_of
join_sorts start (leaf_of h) e = absurd (omega arith)
join_sorts start (the_eps_of h c k) e = absurd (omega arith)
join_sorts start {n} {ls} (join_of h c k j) e = ((inside_left start n ls h).0, (element_right start n ls k).0)

-- 9: ε goes from a state inside a model to its element, and nowhere from there
module _ (start n : ℕ) (ls : List Line) where
  eps_twice : {p q r : ℕ} → RuleOf n ls (eps_rule p q) → RuleOf n ls (eps_rule q r) → ⊥
  eps_twice (the_eps_of h c k) (the_eps_of h' c' k') = element_inside (sym k.is ∙ h'.is)

  eps_one : {p q r : ℕ} → RuleOf n ls (eps_rule p q) → RuleOf n ls (eps_rule p r) → q ≡ r
  eps_one (the_eps_of {a = a} {i = i} {m = m} h c k) (the_eps_of {a = b} {i = j} {m = o} h' c' k') =
      let z : inside a m i ≡ inside b o j = sym h.is ∙ h'.is in
      let y : a ≡ b = cc in
      element_number k ∙ y ∙ sym (element_number k')

  eps_to : {p q : ℕ} → RuleOf n ls (eps_rule p q) → ¬ MayLeft (marks start n ls) q
  eps_to (the_eps_of h c k) = (element_right start n ls k).1

  eps_from : {p q : ℕ} → RuleOf n ls (eps_rule p q) → ¬ MayRight (marks start n ls) p
  eps_from (the_eps_of h c k) = (inside_left start n ls h).1

  -- what is reached is the state itself or one ε step away
  data Reached (p : ℕ) : ℕ → Type 0 where
    itself : Reached p p
    one_step : {q : ℕ} → RuleOf n ls (eps_rule p q) → Reached p q

  reach_next : {p q r : ℕ} → Reached p q → RuleOf n ls (eps_rule q r) → Reached p r
  reach_next itself e = one_step e
  reach_next (one_step k) e = absurd (eps_twice k e)

  reached : {R : Rule → Type 0} → ((r : Rule) → R r → RuleOf n ls r) → {p q : ℕ} → Reach R p q → Reached p q
  reached f here = itself
  reached f (step k e) = reach_next (reached f k) (f _ e)

  one_left : {p q r : ℕ} → Reached p q → Reached p r → MayLeft (marks start n ls) q → MayLeft (marks start n ls) r → q ≡ r
  one_left itself itself a b = refl
  one_left itself (one_step k) a b = absurd (eps_to k b)
  one_left (one_step k) h a b = absurd (eps_to k a)

  one_right : {p q r : ℕ} → Reached p q → Reached p r → MayRight (marks start n ls) q → MayRight (marks start n ls) r → q ≡ r
  one_right itself itself a b = refl
  one_right itself (one_step k) a b = absurd (eps_from k a)
  one_right (one_step k) itself a b = absurd (eps_from k b)
  one_right (one_step k) (one_step k') a b = eps_one k k'

module _ (L : Limits) (four : L.width ≡ 4) {n start : ℕ} {ls : List Line} (v : Valid n start ls) where
  rule_of : (i : ℕ) → i < length (rules n ls) → RuleOf n ls (the_rule_at (rules n ls) i)
  rule_of i h = (rules_exactly v.lines (the_rule_at (rules n ls) i)).0 (at_in (rules n ls) i (eps_rule 0 0) h)

  sorts_kept : (i : ℕ) → i < length (rules n ls) → ¬ BreaksSorts L (marks start n ls) (numbers (rules n ls)) i
  sorts_kept i h = rw four (λ (k, b).
      let w = row_of (rules n ls) i h in
      let s = join_sorts start (rule_of i h) (sym w.kind ∙ k) in
      ⊎_elim (λ n. n (rw w.left s.0)) (λ n. n (rw w.right s.1)) b)

  single_kept : (p : ℕ) → ¬ NotSingle L (marks start n ls) (numbers (rules n ls)) p
  single_kept p =
      ⊎_elim
      (λ (q, r, d, (a, (b, (h, k)))). d (one_left start n ls (reached start n ls to h) (reached start n ls to k) a b))
      (λ (q, r, d, (a, (b, (h, k)))). d (one_right start n ls (reached start n ls to h) (reached start n ls to k) a b))
    where
      to : (r : Rule) → RulesOf L.width (numbers (rules n ls)) r → RuleOf n ls r
      to r = (rule_exactly v.lines L four r).0

  module _ (u : Unambiguous ls) where
    left_sides : (i : ℕ) → i < length (rules n ls) → ¬ LeftSideAgain L (numbers (rules n ls)) i
    left_sides i h = rw four (λ (d, (j, l, (k, (e, o)))).
        let w = row_of (rules n ls) i h in
        let x = row_of (rules n ls) j (omega arith) in
        lone_at (rules_lone v.lines u) j i l h
        (left_same (the_rule_at (rules n ls) j) (the_rule_at (rules n ls) i) (λ z. d (w.kind ∙ z)) (sym x.kind ∙ k ∙ w.kind)
        (sym x.left ∙ e ∙ w.left) (sym x.right ∙ o ∙ w.right)))

    pub receives : Receives L (marks start n ls) (numbers (rules n ls))
    receives =
        let c = rows_count L four (rules n ls) in
        record {
          left_sides_of = λ i h. left_sides i (omega arith);
          sorts = λ i h. sorts_kept i (omega arith);
          single = λ p h. single_kept p;
        }
