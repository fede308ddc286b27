-- The check of a tree tells exactly the refusals of `TreeRefused`, and passes exactly the trees without a fault. Assumes nothing.
use Prim.Native.Nat.{ℕ, ◌+◌, ◌*◌, ◌/◌, ◌%◌, ◌≤◌, ◌<◌}
use mathlib.Core.Path.{◌≡◌, sym, ◌∙◌}
use mathlib.Core.Logic.{◌≢◌, inl, inr, ⊎_elim, ◌↔◌, if_pos, if_neg, by_cases}
use mathlib.Core.List.{List}
use mathlib.Core.Bool.{true, false}
use lib.Dec.{leb}
use borrow.Author.Tests.{leb-true, leb-false}
use native.Mathlib.Omega.{arith}
use lib.ListN.{length}
use Rattle.paper.specs.Limits.{Limits, at}
use Rattle.paper.specs.Told.{refused, passes, Tells}
use Rattle.paper.specs.First.{Clear, first}
use Rattle.paper.proofs.ToldLaws.{refused_not_passes}
use Rattle.paper.proofs.FirstLaws.{first_clear, first_fault, first_or_clear}
use Rattle.tree.specs.Tree.{leaf_mark}
use Rattle.tree.specs.Nodes.{BadLength, BadNode, bad_length?, bad_node?, node_fault, tree_checked, TreeRefused, bad_length, bad_node_of, Sound}

module _ (symbols : ℕ) (xs : List ℕ) (i : ℕ) where
  pub node_good : ¬ BadNode symbols xs i → node_fault symbols xs i ≡ 0
  unfolding node_fault
  node_good h = if_neg (bad_node? symbols xs i) h _ _

  pub node_bad : BadNode symbols xs i → node_fault symbols xs i ≡ 12
  unfolding node_fault
  node_bad h = if_pos (bad_node? symbols xs i) h _ _

  good_node : node_fault symbols xs i ≡ 0 → ¬ BadNode symbols xs i
  good_node e h = let z = node_bad h in omega arith

  bad_node : (k : ℕ) → node_fault symbols xs i ≡ k → k ≢ 0 → (k ≡ 12) × BadNode symbols xs i
  bad_node k e d = by_cases (bad_node? symbols xs i) (λ h. (sym e ∙ node_bad h, h)) (λ h. absurd (d (sym e ∙ node_good h)))

module _ (L : Limits) (symbols : ℕ) (xs : List ℕ) where
  pub refuse_length : BadLength L xs → tree_checked L symbols xs ≡ refused 12 0 0
  unfolding tree_checked
  refuse_length h = if_pos (bad_length? L xs) h _ _

  go_on : ¬ BadLength L xs → tree_checked L symbols xs ≡ first (node_fault symbols xs) (length xs / 2) passes
  unfolding tree_checked
  go_on h = if_neg (bad_length? L xs) h _ _

  pub refuse_node : (i : ℕ) → ¬ BadLength L xs → i < length xs / 2 → BadNode symbols xs i → Clear (node_fault symbols xs) i
      → tree_checked L symbols xs ≡ refused 12 0 (i + 1)
  refuse_node i h l b c =
      go_on h ∙ first_fault (node_fault symbols xs) (length xs / 2) 12 i passes
      (record { inside = l; here = node_bad symbols xs i b; fault = λ e. omega arith; before = c })

  pub pass_all : ¬ BadLength L xs → Clear (node_fault symbols xs) (length xs / 2) → tree_checked L symbols xs ≡ passes
  pass_all h c = go_on h ∙ first_clear (node_fault symbols xs) (length xs / 2) passes c

  of_refused : {n s p : ℕ} → TreeRefused L symbols xs n s p → tree_checked L symbols xs ≡ refused n s p
  of_refused (bad_length h) = refuse_length h
  of_refused (bad_node_of {i} h l b c) = refuse_node i h l b (λ j k. node_good symbols xs j (c j k))

  of_sound : Sound L symbols xs → tree_checked L symbols xs ≡ passes
  of_sound s = pass_all s.length_good_of (λ j h. node_good symbols xs j (s.nodes_good j h))

  pub data Verdict : Type 0 where
    is_refused : {n s p : ℕ} → TreeRefused L symbols xs n s p → Verdict
    is_sound : Sound L symbols xs → Verdict

  -- every tree is refused or sound
  verdict : Verdict
  verdict = by_cases (bad_length? L xs)
      (λ h. is_refused (bad_length h))
      (λ h. ⊎_elim
      (λ (k, i, f). is_refused (bad_node_of h f.inside (bad_node symbols xs i k f.here f.fault).1 (λ j l. good_node symbols xs j (f.before j l))))
      (λ c. is_sound (record { length_good_of = h; nodes_good = λ i l. good_node symbols xs i (c i l) }))
      (first_or_clear (node_fault symbols xs) (length xs / 2)))

  pub refused_exactly : (n s p : ℕ) → (tree_checked L symbols xs ≡ refused n s p) ↔ TreeRefused L symbols xs n s p
  refused_exactly n s p = (back verdict, of_refused)
    where
      back : Verdict → tree_checked L symbols xs ≡ refused n s p → TreeRefused L symbols xs n s p
      back (is_refused {n = n'} {s = s'} {p = p'} r) e =
          let q : refused n' s' p' ≡ refused n s p = sym (of_refused r) ∙ e in
          let a : n' ≡ n = cc in
          let b : s' ≡ s = cc in
          let c : p' ≡ p = cc in
          rw (a, b, c) at r
      back (is_sound w) e = absurd (refused_not_passes (sym e ∙ of_sound w))

  pub passes_exactly : (tree_checked L symbols xs ≡ passes) ↔ Sound L symbols xs
  passes_exactly = (back verdict, of_sound)
    where
      back : Verdict → tree_checked L symbols xs ≡ passes → Sound L symbols xs
      back (is_sound w) e = w
      back (is_refused r) e = absurd (refused_not_passes (sym (of_refused r) ∙ e))

-- a length and a node without a fault, from the tests that failed
pub length_good : (L : Limits) (xs : List ℕ) → length xs % 2 ≢ 1 → length xs ≢ 0 → length xs ≤ 2 * L.nodes → ¬ BadLength L xs
length_good L xs a b c = ⊎_elim a (⊎_elim b (λ d. omega arith))

-- whether node i is bad, from its tests
module _ (symbols : ℕ) (xs : List ℕ) (i : ℕ) where
  pub leaf_tells : at xs (2 * i + 1) ≡ leaf_mark → Tells (leb symbols (at xs (2 * i))) (BadNode symbols xs i)
  leaf_tells e = record {
    yes = λ t. inl (e, leb-true _ _ t);
    no = λ t. let k = leb-false symbols (at xs (2 * i)) t in ⊎_elim (λ x. omega (arith, x.1)) (λ x. x.0 e);
  }

  pub left_tells : at xs (2 * i + 1) ≢ leaf_mark → i ≤ at xs (2 * i) → Tells true (BadNode symbols xs i)
  left_tells d h = record { yes = λ t. inr (d, inl h); no = λ t. absurd (true_false t) }
    where
      true_false : true ≡ false → ⊥
      true_false t = let z : ◌≡◌ {A = ℕ} 0 1 = cc in omega arith

  pub right_tells : at xs (2 * i + 1) ≢ leaf_mark → at xs (2 * i) < i → Tells (leb i (at xs (2 * i + 1))) (BadNode symbols xs i)
  right_tells d h = record {
    yes = λ t. inr (d, inr (leb-true _ _ t));
    no = λ t. let k = leb-false i (at xs (2 * i + 1)) t in ⊎_elim (λ x. d x.0) (λ x. ⊎_elim (λ y. omega arith) (λ y. omega arith) x.1);
  }
