-- The check of a table tells exactly the refusals of `TableRefused`, and passes exactly the tables without a fault. Assumes nothing.
use Prim.Native.Nat.{ℕ, ◌+◌, ◌/◌, ◌<◌}
use mathlib.Core.Path.{◌≡◌, refl, sym, ◌∙◌}
use mathlib.Core.Logic.{◌≢◌, ⊎_elim, ◌↔◌, if_pos, if_neg, by_cases}
use mathlib.Core.List.{List}
use native.Mathlib.Omega.{arith}
use lib.ListN.{length}
use Rattle.paper.specs.Limits.{Limits, at}
use Rattle.paper.specs.Told.{refused, passes}
use Rattle.paper.specs.First.{Clear, first}
use Rattle.paper.proofs.ToldLaws.{refused_not_passes}
use Rattle.paper.proofs.FirstLaws.{first_clear, first_fault, first_or_clear}
use Rattle.table.specs.Check.{TooLarge, Ragged, BadMark, RuleMisshapen, RuleOutOfRange, RuleRepeated, GoodRule, ComesTo, Sound}
use Rattle.table.specs.Check.{too_large?, ragged?, bad_mark?, misshapen?, out_of_range?, has_row?, mark_fault, rule_fault_of, table_checked}
use Rattle.table.specs.Check.{TableRefused, too_large_of, ragged, bad_mark_of, misshapen, out_of_range_of, repeated}

module _ (ms : List ℕ) (i : ℕ) where
  pub mark_good : ¬ BadMark (at ms i) → mark_fault ms i ≡ 0
  unfolding mark_fault
  mark_good h = if_neg (bad_mark? (at ms i)) h _ _

  pub mark_bad : BadMark (at ms i) → mark_fault ms i ≡ 5
  unfolding mark_fault
  mark_bad h = if_pos (bad_mark? (at ms i)) h _ _

  good_mark : mark_fault ms i ≡ 0 → ¬ BadMark (at ms i)
  good_mark e h = let z = mark_bad h in omega arith

  bad_mark_lem : mark_fault ms i ≢ 0 → BadMark (at ms i)
  bad_mark_lem d = by_cases (bad_mark? (at ms i)) (λ h. h) (λ h. absurd (d (mark_good h)))

module _ (L : Limits) (symbols states : ℕ) (xs : List ℕ) (i : ℕ) where
  -- what is wrong with rule i, by its lowest number
  pub data RuleVerdict : ℕ → Type 0 where
    shape : RuleMisshapen L xs i → RuleVerdict 2
    range : ¬ RuleMisshapen L xs i → RuleOutOfRange L symbols states xs i → RuleVerdict 5
    again : ¬ RuleMisshapen L xs i → ¬ RuleOutOfRange L symbols states xs i → RuleRepeated L xs i → RuleVerdict 6
    none : GoodRule L symbols states xs i → RuleVerdict 0

  pub rule_fault_lem : {k : ℕ} → RuleVerdict k → rule_fault_of L symbols states xs i ≡ k
  unfolding rule_fault_of
  rule_fault_lem (shape h) = if_pos (misshapen? _ _) h _ _
  rule_fault_lem (range a h) = if_neg (misshapen? _ _) a _ _ ∙ if_pos (out_of_range? _ _ _ _ _ _) h _ _
  rule_fault_lem (again a b h) =
      if_neg (misshapen? _ _) a _ _ ∙ if_neg (out_of_range? _ _ _ _ _ _) b _ _ ∙ if_pos (has_row? _ _ _ _ _ _ _) h _ _
  rule_fault_lem (none g) =
      if_neg (misshapen? _ _) g.shaped _ _ ∙ if_neg (out_of_range? _ _ _ _ _ _) g.in_range _ _
      ∙ if_neg (has_row? _ _ _ _ _ _ _) g.new _ _

  rule_verdict : (k : ℕ) × RuleVerdict k
  rule_verdict = by_cases (misshapen? _ _)
      (λ h. (2, shape h))
      (λ a. by_cases (out_of_range? _ _ _ _ _ _)
      (λ h. (5, range a h))
      (λ b. by_cases (has_row? _ _ _ _ _ _ _)
      (λ h. (6, again a b h))
      (λ c. (0, none (record { shaped = a; in_range = b; new = c })))))

  -- what the lowest number says
  verdict_of : (k : ℕ) → rule_fault_of L symbols states xs i ≡ k → RuleVerdict k
  verdict_of k e = let (m, v) = rule_verdict in let q : m ≡ k = sym (rule_fault_lem v) ∙ e in rw q at v

  good_rule : rule_fault_of L symbols states xs i ≡ 0 → GoodRule L symbols states xs i
  good_rule e = go (verdict_of 0 e) refl
    where
      go : {k : ℕ} → RuleVerdict k → k ≡ 0 → GoodRule L symbols states xs i
      go (none g) e = g
      go (shape h) e = absurd (omega arith)
      go (range a h) e = absurd (omega arith)
      go (again a b h) e = absurd (omega arith)

module _ (L : Limits) (symbols : ℕ) (ms xs : List ℕ) where
  pub refuse_size : TooLarge L symbols (length ms) (length xs / L.width) → table_checked L symbols ms xs ≡ refused 4 0 0
  unfolding table_checked
  refuse_size h = if_pos (too_large? _ _ _ _) h _ _

  module _ (size : ¬ TooLarge L symbols (length ms) (length xs / L.width)) where
    pub refuse_length : Ragged L xs → table_checked L symbols ms xs ≡ refused 2 0 0
    unfolding table_checked
    refuse_length h = if_neg (too_large? _ _ _ _) size _ _ ∙ if_pos (ragged? _ _) h _ _

    module _ (whole : ¬ Ragged L xs) where
      to_marks : table_checked L symbols ms xs
          ≡ first (mark_fault ms) (length ms) (first (rule_fault_of L symbols (length ms) xs) (length xs / L.width) passes)
      unfolding table_checked
      to_marks = if_neg (too_large? _ _ _ _) size _ _ ∙ if_neg (ragged? _ _) whole _ _

      pub refuse_mark : (i : ℕ) → i < length ms → BadMark (at ms i) → Clear (mark_fault ms) i
          → table_checked L symbols ms xs ≡ refused 5 0 (i + 1)
      refuse_mark i l b c =
          to_marks ∙ first_fault (mark_fault ms) (length ms) 5 i _
          (record { inside = l; here = mark_bad ms i b; fault = λ e. omega arith; before = c })

      -- once the marks are good, the rules decide
      pub to_rules : Clear (mark_fault ms) (length ms)
          → table_checked L symbols ms xs ≡ first (rule_fault_of L symbols (length ms) xs) (length xs / L.width) passes
      to_rules c = to_marks ∙ first_clear (mark_fault ms) (length ms) _ c

  refuse_rule : {i k : ℕ} → ComesTo L symbols ms xs i → RuleVerdict L symbols (length ms) xs i k → k ≢ 0
      → table_checked L symbols ms xs ≡ refused k 0 (i + 1)
  refuse_rule {i} {k} r v d =
      to_rules r.size_good r.length_good_of (λ j h. mark_good ms j (r.marks_good_of j h))
      ∙ first_fault (rule_fault_of L symbols (length ms) xs) (length xs / L.width) k i passes
      (record {
        inside = r.inside;
        here = rule_fault_lem L symbols (length ms) xs i v;
        fault = d;
        before = λ j h. rule_fault_lem L symbols (length ms) xs j (none (r.before j h));
      })

  of_refused : {n s p : ℕ} → TableRefused L symbols ms xs n s p → table_checked L symbols ms xs ≡ refused n s p
  of_refused (too_large_of h) = refuse_size h
  of_refused (ragged a h) = refuse_length a h
  of_refused (bad_mark_of {i} a b l h c) = refuse_mark a b i l h (λ j k. mark_good ms j (c j k))
  of_refused (misshapen r h) = refuse_rule r (shape h) (λ e. omega arith)
  of_refused (out_of_range_of r a h) = refuse_rule r (range a h) (λ e. omega arith)
  of_refused (repeated r a b h) = refuse_rule r (again a b h) (λ e. omega arith)

  of_sound : Sound L symbols ms xs → table_checked L symbols ms xs ≡ passes
  of_sound s =
      to_rules s.size_good s.length_good_of (λ j h. mark_good ms j (s.marks_good_of j h))
      ∙ first_clear (rule_fault_of L symbols (length ms) xs) (length xs / L.width) passes
      (λ j h. rule_fault_lem L symbols (length ms) xs j (none (s.rules_good j h)))

  pub data Verdict : Type 0 where
    is_refused : {n s p : ℕ} → TableRefused L symbols ms xs n s p → Verdict
    is_sound : Sound L symbols ms xs → Verdict

  at_rule : {i k : ℕ} → ComesTo L symbols ms xs i → RuleVerdict L symbols (length ms) xs i k → k ≢ 0 → Verdict
  at_rule r (shape h) d = is_refused (misshapen r h)
  at_rule r (range a h) d = is_refused (out_of_range_of r a h)
  at_rule r (again a b h) d = is_refused (repeated r a b h)
  at_rule r (none g) d = absurd (d refl)

  -- every table is refused or sound
  pub verdict : Verdict
  verdict = by_cases (too_large? L symbols (length ms) (length xs / L.width))
      (λ h. is_refused (too_large_of h))
      (λ a. by_cases (ragged? L xs)
      (λ h. is_refused (ragged a h))
      (λ b. ⊎_elim
      (λ (k, i, f). is_refused
      (bad_mark_of a b f.inside (bad_mark_lem ms i (λ e. f.fault (sym f.here ∙ e))) (λ j l. good_mark ms j (f.before j l))))
      (λ m. ⊎_elim
      (λ (k, i, f). at_rule
      (record {
        size_good = a;
        length_good_of = b;
        marks_good_of = λ j l. good_mark ms j (m j l);
        inside = f.inside;
        before = λ j l. good_rule L symbols (length ms) xs j (f.before j l);
      })
      (verdict_of L symbols (length ms) xs i k f.here) f.fault)
      (λ c. is_sound (record {
        size_good = a;
        length_good_of = b;
        marks_good_of = λ j l. good_mark ms j (m j l);
        rules_good = λ j l. good_rule L symbols (length ms) xs j (c j l);
      }))
      (first_or_clear (rule_fault_of L symbols (length ms) xs) (length xs / L.width)))
      (first_or_clear (mark_fault ms) (length ms))))

  pub refused_exactly : (n s p : ℕ) → (table_checked L symbols ms xs ≡ refused n s p) ↔ TableRefused L symbols ms xs n s p
  refused_exactly n s p = (back verdict, of_refused)
    where
      back : Verdict → table_checked L symbols ms xs ≡ refused n s p → TableRefused L symbols ms xs n s p
      back (is_refused {n = n'} {s = s'} {p = p'} r) e =
          let q : refused n' s' p' ≡ refused n s p = sym (of_refused r) ∙ e in
          let a : n' ≡ n = cc in
          let b : s' ≡ s = cc in
          let c : p' ≡ p = cc in
          rw (a, b, c) at r
      back (is_sound w) e = absurd (refused_not_passes (sym e ∙ of_sound w))

  pub passes_exactly : (table_checked L symbols ms xs ≡ passes) ↔ Sound L symbols ms xs
  passes_exactly = (back verdict, of_sound)
    where
      back : Verdict → table_checked L symbols ms xs ≡ passes → Sound L symbols ms xs
      back (is_sound w) e = w
      back (is_refused r) e = absurd (refused_not_passes (sym (of_refused r) ∙ e))
