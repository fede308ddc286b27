-- The table that a text tells passes the check of tables. Assumes nothing.
use Prim.Native.Nat.{ℕ, zero, suc, ◌+◌, ◌-◌, ◌*◌, ◌/◌, ◌%◌, ◌≤◌, ◌<◌}
use mathlib.Core.Path.{◌≡◌, refl, sym, ap, ◌∙◌}
use mathlib.Core.Logic.{inl, inr, ⊎_elim, by_cases}
use mathlib.Core.List.{List, [], ◌∷◌, ◌++◌, append-nil}
use native.Mathlib.Decide.{ℕ_discrete, dec_lt}
use native.Mathlib.Numerals.{add-one}
use native.Mathlib.Nat.{mul-mod_left}
use native.Mathlib.Omega.{arith}
use lib.ListN.{length, take, length-append, get_or-append}
use lib.Seq.{get_or-append-add, get_or_at, take-length}
use Rattle.paper.specs.Limits.{Limits, at}
use Rattle.paper.specs.Told.{holds, passes}
use Rattle.paper.specs.First.{Clear}
use Rattle.table.specs.Check.{TooLarge, BadMark, Misshapen, OutOfRange, HasRow, GoodRule, Sound, table_checked, BadSort}
use Rattle.table.proofs.Exact.{passes_exactly}
use Rattle.rule_line.specs.Line.{line}
use Rattle.paper.specs.declared.RuleRow.{RuleRow}
use Rattle.rule_line.specs.declared.Line.{Line}
use Rattle.rule_line.specs.declared.Line.TheVariants.{Head, State, Rule, Faulty}
use Rattle.rule_line.proofs.LineLaws.{Sayable, line_known}
use Rattle.lines.specs.Lines.{line_at}
use Rattle.rule_read.specs.Text.{said_by, mark_of, the_rule_of, marks_of, rules_of, symbols_of, states_of, fault_at, text_told, TooSoon}
use Rattle.rule_read.specs.Work.{saying_at, rows_of}
use Rattle.rule_read.proofs.Verdict.{Right, state, rule}
use Rattle.rule_read.proofs.Said.{Wide, saying, marks_more, rules_more}
use Rattle.rule_read.proofs.Counting.{Counted, rows, head_small, counted_first, counted_right, counted_adds, counted_next, counted_marks, counted_rules, counted_states}
use Rattle.rule_read.proofs.Rows.{row_within, has_front, wide_long}
use Rattle.rule_read.proofs.Exact.{text_holds}

-- a line that says a rule says one of a good shape
abbrev Shaped : Line → Type 0
Shaped (Head a b) = Unit
Shaped (State q s f) = Unit
Shaped (Rule r) = ¬ Misshapen r.kind r.right
Shaped (Faulty i) = Unit

rule_not_faulty : {r : RuleRow} {i : ℕ} → Rule r ≡ Faulty i → ⊥
rule_not_faulty e = let z : ◌≡◌ {A = ℕ} 0 1 = cc in omega arith

line_shaped : (x : List ℕ) → Shaped (line x)
line_shaped x = go (line x) refl
  where
    go : (l : Line) → line x ≡ l → Shaped l
    go (Head a b) e = tt
    go (State q s f) e = tt
    go (Faulty i) e = tt
    go (Rule r) e =
        let w : Sayable (Rule r) = rw e at (line_known x (λ i z. rule_not_faulty (sym e ∙ z))).sayable in
        ⊎_elim (λ h. omega (arith, w.0)) (λ h. h.1 (w.4 h.0))

-- marks and r rules without a fault
record Good (L : Limits) (y n : ℕ) (ms xs : List ℕ) (r : ℕ) : Type 0 where
  marks : (i : ℕ) → i < length ms → ¬ BadMark (at ms i)
  rules : (i : ℕ) → i < r → GoodRule L y n xs i

mark_good : (s f : ℕ) → ¬ BadSort s f → ¬ BadMark (2 * s + f)
mark_good s f b =
    let p : s ≡ 0 → ⊥ = λ x. b (inl x) in
    let q : 3 < s → ⊥ = λ x. b (inr (inl x)) in
    let t : 1 < f → ⊥ = λ x. b (inr (inr x)) in
    ⊎_elim (λ x. p (omega arith)) (⊎_elim (λ x. by_cases (dec_lt 1 f) t (λ d. q (omega arith))) (λ x. omega arith))

module _ (L : Limits) (wide : Wide L.width) (y n : ℕ) where
  -- a rule stays good with more rules behind it
  good_before : (xs ys : List ℕ) (i : ℕ) → i * L.width + L.width ≤ length xs → GoodRule L y n xs i → GoodRule L y n (xs ++ ys) i
  good_before xs ys i h g =
      let w = wide_long wide in
      let e₀ = get_or-append xs ys 0 (i * L.width) (omega arith) in
      let e₁ = get_or-append xs ys 0 (i * L.width + 1) (omega arith) in
      let e₂ = get_or-append xs ys 0 (i * L.width + 2) (omega arith) in
      let e₃ = get_or-append xs ys 0 (i * L.width + 3) (omega arith) in
      record {
        shaped = rw (e₀, e₂) g.shaped;
        in_range = rw (e₀, e₁, e₂, e₃) g.in_range;
        new = rw (e₀, e₁, e₂, e₃) (λ z. g.new (has_front wide xs ys (omega arith) z));
      }

  -- the last rule
  good_last : (xs : List ℕ) (r k a b q : ℕ) → length xs ≡ r * L.width → ¬ Misshapen k b → ¬ OutOfRange y n k a b q → ¬ HasRow L.width xs r k a b q
      → GoodRule L y n (xs ++ (k ∷ a ∷ b ∷ q ∷ [])) r
  good_last xs r k a b q e u v w =
      let vs : List ℕ = k ∷ a ∷ b ∷ q ∷ [] in
      let e₀ : at (xs ++ vs) (r * L.width) ≡ k = get_or_at xs k (a ∷ b ∷ q ∷ []) 0 (r * L.width) e in
      let e₁ : at (xs ++ vs) (r * L.width + 1) ≡ a = ap (λ (i : ℕ). at (xs ++ vs) (i + 1)) (sym e) ∙ get_or-append-add xs vs 1 0 in
      let e₂ : at (xs ++ vs) (r * L.width + 2) ≡ b = ap (λ (i : ℕ). at (xs ++ vs) (i + 2)) (sym e) ∙ get_or-append-add xs vs 2 0 in
      let e₃ : at (xs ++ vs) (r * L.width + 3) ≡ q = ap (λ (i : ℕ). at (xs ++ vs) (i + 3)) (sym e) ∙ get_or-append-add xs vs 3 0 in
      record {
        shaped = rw (e₀, e₂) u;
        in_range = rw (e₀, e₁, e₂, e₃) v;
        new = rw (e₀, e₁, e₂, e₃) (λ z. w (has_front wide xs vs (omega arith) z));
      }

  -- one more line
  good_line : {ms xs : List ℕ} {r : ℕ} {l : Line} → length xs ≡ r * L.width → Right L y n (length ms) xs l → Shaped l → Good L y n ms xs r
      → Good L y n (ms ++ mark_of l) (xs ++ the_rule_of l) (r + rows_of l)
  unfolding mark_of the_rule_of rows_of
  good_line {ms} {xs} {r} e (state {q} {s} {f} o b) h g =
      record {
        marks = λ i x. by_cases (ℕ_discrete i (length ms))
            (λ z. rw (z, get_or_at ms (2 * s + f) [] 0 (length ms) refl) (mark_good s f b))
            (λ z.
            let x' : i < length ms = omega (arith, length-append ms ((2 * s + f) ∷ [])) in
            rw (get_or-append ms ((2 * s + f) ∷ []) 0 i x') (g.marks i x'));
        rules = λ i x. rw (append-nil xs) (g.rules i (omega arith));
      }
  good_line {ms} {xs} {r} e (rule {r = t} u v w x) h g =
      record {
        marks = rw (append-nil ms) g.marks;
        rules = λ i z. by_cases (ℕ_discrete i r)
            (λ d. rw d (good_last xs r t.kind t.left t.right t.to e h w (rw (rows L wide xs r e) at x)))
            (λ d.
            let z' : i < r = omega arith in
            good_before xs (t.kind ∷ t.left ∷ t.right ∷ t.to ∷ []) i (omega (arith, row_within L.width r i z')) (g.rules i z'));
      }

not_large : (L : Limits) {y n r : ℕ} → ¬ TooLarge L y n 0 → r ≤ L.rules → ¬ TooLarge L y n r
not_large L t h = ⊎_elim (λ x. t (inl x)) (⊎_elim (λ x. t (inr (inl x))) (⊎_elim (λ x. t (inr (inr (inl x)))) (λ x. omega arith)))

-- lines of good shape without a fault
module _ (L : Limits) (wide : Wide L.width) (ls : List Line) (shaped : (j : ℕ) → Shaped (saying_at ls j)) where
  record Upto (k : ℕ) : Type 0 where
    m : ℕ
    r : ℕ
    counted : Counted L ls k m r
    good : Good L (symbols_of ls) (states_of ls) (marks_of (take k ls)) (rules_of (take k ls)) r

  upto : (k : ℕ) → k < length ls → Clear (fault_at L ls) (k + 1) → Upto (k + 1)
  upto zero h c =
      let d = counted_first L wide ls (omega arith) (c 0 (omega arith)) in
      record {
        m = 0;
        r = 0;
        counted = d;
        good = record { marks = λ i x. absurd (omega (arith, d.marks)); rules = λ i x. absurd (omega arith) };
      }
  upto (suc k) h c =
      let u : Upto (suc k) = rw (add-one k) at (upto k (omega arith) (λ j l. c j (omega arith))) in
      let l = saying_at ls (suc k) in
      let z = c (suc k) (omega arith) in
      record {
        m = u.m + length (mark_of l);
        r = u.r + rows_of l;
        counted = counted_next L wide ls u.counted h refl (counted_adds L wide ls u.counted h z);
        good = rw (marks_more ls (suc k) h refl, rules_more ls (suc k) h refl)
            (good_line L wide (symbols_of ls) (states_of ls) u.counted.rules (counted_right L wide ls u.counted h z) (shaped (suc k)) u.good);
      }

  -- all of them
  sound : Clear (fault_at L ls) (length ls) → ¬ TooSoon ls → Sound L (symbols_of ls) (marks_of ls) (rules_of ls)
  sound c w =
      let e : length ls ≡ length ls - 1 + 1 = omega (arith, short) in
      let u : Upto (length ls) = rw (sym e) at (upto (length ls - 1) (omega (arith, short)) (λ j h. c j (omega arith))) in
      let g : Good L (symbols_of ls) (states_of ls) (marks_of ls) (rules_of ls) u.r = rw (take-length ls) at u.good in
      let lm : length (marks_of ls) ≡ states_of ls =
      counted_marks L wide ls u.counted refl ∙ counted_states L wide ls u.counted refl w in
      let lr = counted_rules L wide ls u.counted refl in
      let lw : length (rules_of ls) / L.width ≡ u.r = rows L wide (rules_of ls) u.r lr in
      record {
        size_good = rw (lm, lw)
            (not_large L (head_small L ls (c 0 (omega (arith, short)))) u.counted.rules_fit);
        length_good_of = λ d. d (ap (λ (i : ℕ). i % L.width) lr ∙ mul-mod_left u.r L.width);
        marks_good_of = g.marks;
        rules_good = λ i h. rw lm (g.rules i (omega (arith, lw)));
      }
    where
      short : 1 ≤ length ls
      short = by_cases (dec_lt 0 (length ls)) (λ h. h) (λ h. absurd (w (omega arith)))

pub text_passes : (L : Limits) → Wide L.width → (s : List ℕ) (y n r : ℕ) → text_told L s ≡ holds y n r
    → table_checked L y (marks_of (said_by s)) (rules_of (said_by s)) ≡ passes
text_passes L wide s y n r e =
    let h = text_holds L s y n r e in
    rw h.symbols
    ((passes_exactly L (symbols_of (said_by s)) (marks_of (said_by s)) (rules_of (said_by s))).1
    (sound L wide (said_by s) (λ j. rw (saying s j) (line_shaped (line_at s j))) h.clear h.whole))
