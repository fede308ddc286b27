-- Lines without a fault are the lines of the table that they say. Assumes nothing.
use Prim.Native.Nat.{ℕ, zero, suc, ◌+◌, ◌-◌, ◌*◌, ◌/◌, ◌≤◌, ◌<◌}
use mathlib.Core.Path.{◌≡◌, refl, sym, ap, ◌∙◌}
use mathlib.Core.Logic.{inl, inr, by_cases}
use mathlib.Core.List.{List}
use native.Mathlib.Decide.{ℕ_discrete}
use native.Mathlib.Numerals.{add-one}
use native.Mathlib.Omega.{arith}
use lib.ListN.{length, take, drop}
use lib.Seq.{ext_get_or}
use Rattle.paper.specs.Limits.{Limits}
use Rattle.paper.specs.First.{Clear}
use Rattle.table.specs.Check.{BadSort}
use Rattle.rule_line.specs.declared.Line.{Line}
use Rattle.rule_line.specs.declared.Line.TheVariants.{Head, State, Rule, Faulty}
use Rattle.rule_read.specs.Text.{marks_of, rules_of, symbols_of, states_of, OutOfOrder, head_fault_of, line_fault_of, fault_at, TooSoon}
use Rattle.rule_read.specs.Work.{saying_at}
use Rattle.rule_read.proofs.Verdict.{Right, state, rule, line_right, fault_behind}
use Rattle.rule_read.proofs.Said.{Wide}
use Rattle.rule_read.proofs.ListLaws.{marks_parted, rules_parted, head_said}
use Rattle.rule_read.proofs.Counting.{head_right, Counted, rows, counted, counted_marks, counted_rules, counted_states}
use Rattle.rule_write.specs.Write.{state_line_of, rule_line_of}
use Rattle.rule_write.proofs.TextOf.{Spoken}
use Rattle.rule_write.proofs.TableLines.{body_lines, table_lines, body_length, body_state, body_rule, state_at, rule_at}

-- an S line that is due and has its sort
due : {n m q : ℕ} → ¬ OutOfOrder n m q → (m < n) × (q ≡ m)
due {n} {m} {q} o = (below (λ h. o (inl h)), by_cases (ℕ_discrete q m) (λ e. e) (λ d. absurd (o (inr d))))
  where
    below : (n ≤ m → ⊥) → m < n
    below h = omega arith

final_small : {s f : ℕ} → ¬ BadSort s f → f ≤ 1
final_small {s} {f} b = small (λ h. b (inr (inr h)))
  where
    small : (1 < f → ⊥) → f ≤ 1
    small h = omega arith

module _ (L : Limits) (ls : List Line) (clear : Clear (fault_at L ls) (length ls)) where
  -- line k behind the head has no fault
  pub right : (k : ℕ) → 1 ≤ k → k < length ls → Right L (symbols_of ls) (states_of ls) (length (marks_of (take k ls))) (rules_of (take k ls)) (saying_at ls k)
  right k p h =
      line_right L (symbols_of ls) (states_of ls) (length (marks_of (take k ls))) (rules_of (take k ls)) (sym (fault_behind L ls k p) ∙ clear k h)

  pub clear_spoken : Spoken ls
  unfolding fault_at head_fault_of line_fault_of
  clear_spoken zero h i e = let z = sym (ap (head_fault_of L) e) ∙ clear 0 h in omega (arith, z)
  clear_spoken (suc k) h i e =
      let z = sym (ap (line_fault_of L (symbols_of ls) (states_of ls) (length (marks_of (take (suc k) ls))) (rules_of (take (suc k) ls))) e) ∙ clear (suc k) h in
      omega (arith, z)

  module _ (wide : Wide L.width) (whole : ¬ TooSoon ls) where
    abbrev pub ms : List ℕ
    ms = marks_of ls

    abbrev pub xs : List ℕ
    xs = rules_of ls

    -- a line for the head, each mark and each rule
    pub record Whole : Type 0 where
      pub states : length ms ≡ states_of ls
      pub rules : length xs ≡ length xs / L.width * L.width
      pub rules_fit : length xs / L.width ≤ L.rules
      pub total : length ls ≡ 1 + length ms + length xs / L.width

    pub some : 1 ≤ length ls
    some = go whole
      where
        go : ¬ TooSoon ls → 1 ≤ length ls
        go h = omega arith

    pub lines_whole : Whole
    lines_whole =
        let e : length ls - 1 + 1 ≡ length ls = omega (arith, some) in
        let (m, r, c) = counted L wide ls (length ls - 1) (omega arith) (λ j h. clear j (omega arith)) in
        let a = counted_marks L wide ls c e in
        let b = counted_rules L wide ls c e in
        let d = rows L wide xs r b in
        record {
          states = a ∙ counted_states L wide ls c e whole;
          rules = rw d b;
          rules_fit = omega (arith, c.rules_fit, d);
          total = omega (arith, c.total, a, d);
        }

    -- line k behind the head is that line of the table
    body_said : (k : ℕ) → suc k < length ls → saying_at ls (suc k) ≡ saying_at (body_lines L.width ms xs (length ms) (length xs / L.width)) k
    body_said k h =
        let (m, r, c) = counted L wide ls k (omega arith) (λ j l. clear j (omega arith)) in
        let c' : Counted L ls (suc k) m r = rw (add-one k) at c in
        go m r c' refl (right (suc k) (omega arith) h)
      where
        go : {l : Line} (m r : ℕ) → Counted L ls (suc k) m r → l ≡ saying_at ls (suc k)
            → Right L (symbols_of ls) (states_of ls) (length (marks_of (take (suc k) ls))) (rules_of (take (suc k) ls)) l
            → l ≡ saying_at (body_lines L.width ms xs (length ms) (length xs / L.width)) k
        go m r c e (state {q} {s} {f} o b) =
            let w = lines_whole in
            let d = due o in
            let i : q ≡ k = omega (arith, d.0, d.1, c.marks, c.total, c.order (omega (arith, d.0, c.marks))) in
            let p : state_line_of ms q ≡ State q s f =
            ap (λ (x : List ℕ). state_line_of x q) (marks_parted ls (suc k) h e)
            ∙ state_at (marks_of (take (suc k) ls)) (marks_of (drop (suc k + 1) ls)) q s f (sym d.1) (final_small b) in
            sym p ∙ ap (state_line_of ms) i
            ∙ sym (body_state L.width ms xs (length ms) (length xs / L.width) k (omega (arith, d.0, d.1, w.states)))
        go m r c e (rule {r = t} u v x y) =
            let w = lines_whole in
            let n : k ≡ length ms + r = late u w.states c.marks c.marks_fit c.total in
            let p : rule_line_of L.width xs r ≡ Rule t =
            ap (λ (z : List ℕ). rule_line_of L.width z r) (rules_parted ls (suc k) h e)
            ∙ rule_at wide (rules_of (take (suc k) ls)) (rules_of (drop (suc k + 1) ls)) r t.kind t.left t.right t.to c.rules in
            sym p ∙ sym (body_rule L.width ms xs (length ms) (length xs / L.width) r (omega (arith, w.total)))
            ∙ ap (saying_at (body_lines L.width ms xs (length ms) (length xs / L.width))) (sym n)
          where
            late : {t : ℕ} → ¬ (t < states_of ls) → length ms ≡ states_of ls → t ≡ m → m ≤ states_of ls → suc k ≡ 1 + m + r → k ≡ length ms + r
            late p s t u v = omega arith

    -- lines without a fault are those of the table that they say
    pub lines_back : ls ≡ table_lines L.width (symbols_of ls) ms xs
    unfolding fault_at
    lines_back =
        let w = lines_whole in
        let (y, n, e, t) = head_right L (saying_at ls 0) (clear 0 some) in
        let g = head_said ls e in
        ext_get_or (Faulty 0) ls (table_lines L.width (symbols_of ls) ms xs)
        (omega (arith, w.total, body_length L.width ms xs (length ms) (length xs / L.width)))
        (λ i. at_line i (e ∙ rw (g.0, w.states, g.1)))
      where
        at_line : (i : ℕ) → saying_at ls 0 ≡ Head (symbols_of ls) (length ms) → i < length ls
            → saying_at ls i ≡ saying_at (table_lines L.width (symbols_of ls) ms xs) i
        at_line zero e h = e
        at_line (suc i) e h = body_said i h
