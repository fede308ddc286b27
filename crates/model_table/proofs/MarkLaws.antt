-- The marks of states, written one behind the other. Assumes nothing.
use Prim.Native.Nat.{ℕ, suc, ◌+◌, ◌≤◌, ◌<◌}
use mathlib.Core.Path.{◌≡◌, refl, sym, ap, ap₂, ◌∙◌}
use mathlib.Core.Bool.{cond}
use mathlib.Core.List.{List, [], ◌∷◌, ◌++◌}
use native.Mathlib.Numerals.{add-one}
use lib.ListN.{length, drop, set}
use lib.Seq.{drop-cons, set_at, append_snoc}
use lib.Dec.{eqb}
use borrow.Author.Tests.{lt-ltb, le-ltb, eq-eqb, ne_eqb}
use Rattle.paper.specs.Limits.{at}
use Rattle.table.specs.Rules.{mark_for, left_sort, right_sort}
use Rattle.compiled.specs.States.{each}
use Rattle.compiled.proofs.Numbers.{length_single}
use Rattle.model_table.specs.Work.{the_mark_at, marks_for}

module _ (n start q : ℕ) where
  pub mark_inside : n ≤ q → mark_for left_sort 0 ≡ the_mark_at n start q
  unfolding the_mark_at
  mark_inside h = sym (ap (λ t. cond t (mark_for right_sort (cond (eqb q start) 1 0)) (mark_for left_sort 0)) (le-ltb q n h))

  pub mark_start : q < n → q ≡ start → mark_for right_sort 1 ≡ the_mark_at n start q
  unfolding the_mark_at
  mark_start h e =
      sym (ap₂ (λ t u. cond t (mark_for right_sort (cond u 1 0)) (mark_for left_sort 0)) (lt-ltb q n h) (eq-eqb q start e))

  pub mark_element : q < n → ¬ (q ≡ start) → mark_for right_sort 0 ≡ the_mark_at n start q
  unfolding the_mark_at
  mark_element h d =
      sym (ap₂ (λ t u. cond t (mark_for right_sort (cond u 1 0)) (mark_for left_sort 0)) (lt-ltb q n h) (ne_eqb q start d))

  pub mark_element_at : q < n → mark_for right_sort (cond (eqb q start) 1 0) ≡ the_mark_at n start q
  unfolding the_mark_at
  mark_element_at h = sym (ap (λ t. cond t (mark_for right_sort (cond (eqb q start) 1 0)) (mark_for left_sort 0)) (lt-ltb q n h))

module _ (n start : ℕ) where
  pub length_marks_for : (q : ℕ) → length (marks_for n start q) ≡ q
  unfolding marks_for
  length_marks_for q = length_single q (the_mark_at n start)

  pub marks_none : (o : List ℕ) → o ≡ marks_for n start 0 ++ drop 0 o
  unfolding marks_for each
  marks_none o = refl

  pub marks_more : (o o₁ : List ℕ) (q m : ℕ) → q < length o → m ≡ the_mark_at n start q → o₁ ≡ marks_for n start q ++ drop q o
      → set o₁ q m ≡ marks_for n start (q + 1) ++ drop (q + 1) o
  unfolding marks_for each
  marks_more o o₁ q m h e k =
      let p = each q (λ i. the_mark_at n start i ∷ []) in
      rw (add-one q)
      (ap (λ x. set x q m) (k ∙ ap (λ x. p ++ x) (drop-cons o q 0 h))
      ∙ set_at p (at o q) (drop (suc q) o) m q (length_single q (the_mark_at n start))
      ∙ ap (λ x. p ++ (x ∷ drop (suc q) o)) e
      ∙ sym (append_snoc p (the_mark_at n start q) (drop (suc q) o)))
