-- The models' table has none of the faults 2, 4, 5 and 6, if no model is ambiguous and it is not too large. Assumes nothing.
use Prim.Native.Nat.{ℕ, ◌+◌, ◌*◌, ◌/◌, ◌≤◌, ◌<◌}
use native.Mathlib.Omega.{arith}
use mathlib.Core.Path.{◌≡◌, refl, sym, ◌∙◌, subst}
use mathlib.Core.Logic.{⊎_elim}
use mathlib.Core.List.{List}
use lib.ListN.{length}
use Rattle.paper.specs.Limits.{Limits, at}
use Rattle.paper.specs.Told.{passes}
use Rattle.table.specs.Rules.{Rule, leaf_rule, join_rule, eps_rule, Row}
use Rattle.table.specs.Check.{Misshapen, OutOfRange, GoodRule, Sound, table_checked}
use Rattle.table.proofs.Exact.{passes_exactly}
use Rattle.compiled.specs.States.{states, marks}
use Rattle.model.specs.Documents.{Line}
use Rattle.compiled.specs.Rules.{rules, numbers_of, numbers}
use Rattle.compiled.specs.Valid.{GoodLines, Valid, Unambiguous}
use Rattle.compiled.specs.Meaning.{RuleOf, leaf_of, the_eps_of, join_of}
use Rattle.compiled.proofs.Member.{at_in}
use Rattle.compiled.proofs.Lines.{lines_below, lines_distinct}
use Rattle.compiled.proofs.Numbers.{inside_model}
use Rattle.compiled.proofs.Rows.{the_rule_at, length_numbers, RowOf, row_of, row_inside, numbers_row, row_rule, rule_row_lem}
use Rattle.compiled.proofs.RuleExact.{rules_exactly}
use Rattle.compiled.proofs.Marks.{length_marks, marks_good}
use Rattle.compiled.proofs.Lone.{Same, same_leaf, same_join, same_eps, rules_lone, lone_at}

-- 2: the shape of a rule's numbers
shaped : (r : Rule) → ¬ Misshapen (at (numbers_of r) 0) (at (numbers_of r) 2)
unfolding numbers_of
shaped (leaf_rule a q) = ⊎_elim (λ e. omega arith) (λ e. e.1 refl)
shaped (join_rule l r q) = ⊎_elim (λ e. omega arith) (λ e. e.0 refl)
shaped (eps_rule p q) = ⊎_elim (λ e. omega arith) (λ e. e.1 refl)

same_self : (r : Rule) → Same r r
same_self (leaf_rule a q) = same_leaf
same_self (join_rule l r q) = same_join
same_self (eps_rule p q) = same_eps

-- 5: a rule names states and symbols that there are
module _ {n : ℕ} {ls : List Line} (g : GoodLines n ls) where
  in_range_lem : {r : Rule} → RuleOf n ls r
      → ¬ OutOfRange n (length (states n ls)) (at (numbers_of r) 0) (at (numbers_of r) 1) (at (numbers_of r) 2) (at (numbers_of r) 3)
  unfolding numbers_of
  in_range_lem (leaf_of {a = a} {m = m} h) =
      let l = (lines_below g).outer a m (inside_model (lines_distinct g) h) in
      ⊎_elim (λ e. let k = h.below in omega arith)
      (⊎_elim (λ e. let k = e.1 in omega arith) (⊎_elim (λ e. e.0 refl) (λ e. let k = e.0 in omega arith)))
  in_range_lem (the_eps_of h c k) =
      ⊎_elim (λ e. let l = k.below in omega arith)
      (⊎_elim (λ e. let l = e.0 in omega arith)
      (⊎_elim (λ e. let l = h.below in let o = e.1 in omega arith) (λ e. let l = e.0 in omega arith)))
  in_range_lem (join_of h c k j) =
      ⊎_elim (λ e. let l = j.below in omega arith)
      (⊎_elim (λ e. let l = e.0 in omega arith)
      (⊎_elim (λ e. let l = h.below in let o = e.1 in omega arith) (λ e. let l = k.below in let o = e.1 in omega arith)))

-- 6: a row with the numbers of another is the same rule
row_again : (rs : List Rule) (i j : ℕ) → i < length rs
    → (let xs = numbers rs in Row 4 xs j (at xs (i * 4)) (at xs (i * 4 + 1)) (at xs (i * 4 + 2)) (at xs (i * 4 + 3)))
    → Same (the_rule_at rs j) (the_rule_at rs i)
row_again rs i j h v =
    let w = row_of rs i h in
    let o : RowOf (numbers rs) j (the_rule_at rs i) = record {
      kind = v.kind ∙ w.kind;
      left = v.left ∙ w.left;
      right = v.right ∙ w.right;
      target = v.target ∙ w.target;
    } in
    let e = row_rule (numbers rs) j (the_rule_at rs j) (the_rule_at rs i) (rule_row_lem rs j (row_inside rs j v.inside))
    (numbers_row (numbers rs) j (the_rule_at rs i) v.inside o) in
    subst (λ r. Same r (the_rule_at rs i)) (sym e) (same_self (the_rule_at rs i))

module _ (L : Limits) (four : L.width ≡ 4) where
  pub rows_count : (rs : List Rule) → length (numbers rs) / L.width ≡ length rs
  rows_count rs = rw four (let z = length_numbers rs in omega arith)

  module _ {n start : ℕ} {ls : List Line} (v : Valid n start ls) (u : Unambiguous ls) where
    good_rule : (i : ℕ) → i < length (rules n ls) → GoodRule L n (length (states n ls)) (numbers (rules n ls)) i
    good_rule i h =
        let w = row_of (rules n ls) i h in
        let k = (rules_exactly v.lines (the_rule_at (rules n ls) i)).0 (at_in (rules n ls) i (eps_rule 0 0) h) in
        record {
          shaped = rw four (rw (w.kind, w.right) (shaped (the_rule_at (rules n ls) i)));
          in_range = rw four (rw (w.kind, w.left, w.right, w.target) (in_range_lem v.lines k));
          new = rw four (λ (j, l, r). lone_at (rules_lone v.lines u) j i l h (row_again (rules n ls) i j h r));
        }

    module _ (symbols : n ≤ L.symbols) (few : length (states n ls) ≤ L.states) (short : length (rules n ls) ≤ L.rules) where
      pub sound : Sound L n (marks start n ls) (numbers (rules n ls))
      sound =
          let o = v.start_below in
          let m = length_marks start n ls in
          let c = rows_count (rules n ls) in
          record {
            size_good = ⊎_elim (λ e. omega arith) (⊎_elim (λ e. omega arith) (⊎_elim (λ e. omega arith) (λ e. omega arith)));
            length_good_of = λ d. d (rw four (let z = length_numbers (rules n ls) in omega arith));
            marks_good_of = marks_good start n ls;
            rules_good = λ i h. rw m (good_rule i (omega arith));
          }

      -- so its check passes
      pub check_passes : table_checked L n (marks start n ls) (numbers (rules n ls)) ≡ passes
      check_passes = (passes_exactly L n (marks start n ls) (numbers (rules n ls))).1 sound
