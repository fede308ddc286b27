-- How many marks and rules the lines before line k say, where no line before it has a fault. Assumes nothing.
use Prim.Native.Nat.{ℕ, zero, suc, ◌+◌, ◌*◌, ◌/◌, ◌≤◌, ◌<◌}
use mathlib.Core.Path.{◌≡◌, refl, sym, ap, ◌∙◌}
use mathlib.Core.Logic.{inl, inr, by_cases}
use mathlib.Core.List.{List, [], ◌∷◌}
use native.Mathlib.Decide.{ℕ_discrete, dec_lt}
use native.Mathlib.Numerals.{add-one}
use native.Mathlib.Nat.{add-mul, mul-div_cancel}
use native.Mathlib.Omega.{arith}
use lib.ListN.{length, take, length-append}
use lib.Seq.{take-length}
use Rattle.paper.specs.Limits.{Limits, at}
use Rattle.paper.specs.First.{Clear}
use Rattle.table.specs.Check.{TooLarge, BadSort}
use Rattle.rule_line.specs.declared.Line.{Line}
use Rattle.rule_line.specs.declared.Line.TheVariants.{Head}
use Rattle.rule_read.specs.Text.{mark_of, the_rule_of, marks_of, rules_of, symbols_of, states_of, head_fault_of, fault_at, TooSoon}
use Rattle.rule_read.specs.Work.{saying_at, rows_of}
use Rattle.rule_read.proofs.Verdict.{HeadVerdict, shape, state_first_of, rule_first, size, none, head_fault, head_verdict, Right, state, rule, line_right, fault_behind}
use Rattle.rule_read.proofs.ListLaws.{head_said}
use Rattle.rule_read.proofs.Said.{Wide, wide_positive, rule_length, marks_more, rules_more}

-- the head
pub head_right : (L : Limits) (l : Line) → head_fault_of L l ≡ 0 → (y n : ℕ) × (l ≡ Head y n) × ¬ TooLarge L y n 0
head_right L l e = let (f, v) = head_verdict L l in go v (sym (head_fault L v) ∙ e)
  where
    go : {l : Line} {f : ℕ} → HeadVerdict L l f → f ≡ 0 → (y n : ℕ) × (l ≡ Head y n) × ¬ TooLarge L y n 0
    go (none {y} {n} h) z = (y, n, refl, h)
    go shape z = absurd (omega arith)
    go state_first_of z = absurd (omega arith)
    go rule_first z = absurd (omega arith)
    go (size h) z = absurd (omega arith)

pub head_small : (L : Limits) (ls : List Line) → fault_at L ls 0 ≡ 0 → ¬ TooLarge L (symbols_of ls) (states_of ls) 0
unfolding fault_at
head_small L ls e =
    let (y, n, q, t) = head_right L (saying_at ls 0) e in
    let (a, b) = head_said ls q in
    rw (a, b) t

-- the lines behind the head, up to line k, say m marks and r rules: a line each, and no rule before the last mark
pub record Counted (L : Limits) (ls : List Line) (k m r : ℕ) : Type 0 where
  pub marks : length (marks_of (take k ls)) ≡ m
  pub rules : length (rules_of (take k ls)) ≡ r * L.width
  pub total : k ≡ 1 + m + r
  pub marks_fit : m ≤ states_of ls
  pub rules_fit : r ≤ L.rules
  pub order : m < states_of ls → r ≡ 0

-- what a line adds that has no fault: a mark or a rule
pub record Adds (n most m r : ℕ) (l : Line) : Type 0 where
  pub marks_fit : m + length (mark_of l) ≤ n
  pub rules_fit : r + rows_of l ≤ most
  pub one : length (mark_of l) + rows_of l ≡ 1
  pub order : m + length (mark_of l) < n → r + rows_of l ≡ 0
  pub small : at (mark_of l) 0 ≤ 7

first_counted : (L : Limits) (x : Line) (xs : List Line) {y n : ℕ} → x ≡ Head y n → Counted L (x ∷ xs) 1 0 0
unfolding marks_of rules_of mark_of the_rule_of
first_counted L x xs e =
    record {
      marks = rw e refl;
      rules = rw e (omega arith);
      total = refl;
      marks_fit = omega arith;
      rules_fit = omega arith;
      order = λ h. refl;
    }

sort_small : (s f : ℕ) → ¬ BadSort s f → 2 * s + f ≤ 7
sort_small s f b =
    by_cases (ℕ_discrete s 0) (λ e. absurd (b (inl e)))
    (λ d. let p : s ≤ 3 = small s 3 (λ x. b (inr (inl x))) in let q : f ≤ 1 = small f 1 (λ x. b (inr (inr x))) in omega arith)
  where
    small : (a c : ℕ) → (c < a → ⊥) → a ≤ c
    small a c h = omega arith

module _ (L : Limits) (wide : Wide L.width) where
  pub rows : (rs : List ℕ) (r : ℕ) → length rs ≡ r * L.width → length rs / L.width ≡ r
  rows rs r e = ap (λ (x : ℕ). x / L.width) e ∙ mul-div_cancel r (wide_positive wide)

  adds : {y n m r : ℕ} {rs : List ℕ} {l : Line} → length rs / L.width ≡ r → m ≤ n → r ≤ L.rules → (m < n → r ≡ 0)
      → Right L y n m rs l → Adds n L.rules m r l
  unfolding mark_of rows_of
  adds {m = m} e hm hr o (state {q} {s} {f} u v) =
      let h : m < _ = below (λ x. u (inl x)) in
      record {
        marks_fit = omega arith;
        rules_fit = omega arith;
        one = refl;
        order = λ x. omega (arith, o h);
        small = sort_small s f v;
      }
    where
      below : {a b : ℕ} → (b ≤ a → ⊥) → a < b
      below h = omega arith
  adds e hm hr o (rule u v w x) =
      record {
        marks_fit = omega arith;
        rules_fit = omega (arith, v);
        one = refl;
        order = λ z. absurd (u (omega arith));
        small = omega arith;
      }

  module _ (ls : List Line) where
    pub counted_first : 1 ≤ length ls → fault_at L ls 0 ≡ 0 → Counted L ls 1 0 0
    unfolding fault_at
    counted_first h e = go ls h (head_right L (saying_at ls 0) e)
      where
        go : (xs : List Line) → 1 ≤ length xs → (y n : ℕ) × (saying_at xs 0 ≡ Head y n) × ¬ TooLarge L y n 0 → Counted L xs 1 0 0
        go [] h v = absurd (omega arith)
        go (x ∷ xs) h (y, n, e, t) = first_counted L x xs e

    module _ {k m r : ℕ} (c : Counted L ls k m r) (h : k < length ls) where
      -- the line k, if it has no fault
      pub counted_right : fault_at L ls k ≡ 0 → Right L (symbols_of ls) (states_of ls) (length (marks_of (take k ls))) (rules_of (take k ls)) (saying_at ls k)
      counted_right e =
          line_right L (symbols_of ls) (states_of ls) (length (marks_of (take k ls))) (rules_of (take k ls))
          (sym (fault_behind L ls k (omega arith)) ∙ e)

      pub counted_adds : fault_at L ls k ≡ 0 → Adds (states_of ls) L.rules m r (saying_at ls k)
      counted_adds e =
          rw (← c.marks) (adds (rows (rules_of (take k ls)) r c.rules) (omega (arith, c.marks)) c.rules_fit
          (λ x. c.order (omega (arith, c.marks))) (counted_right e))

      pub counted_next : {l : Line} → l ≡ saying_at ls k → Adds (states_of ls) L.rules m r l
          → Counted L ls (k + 1) (m + length (mark_of l)) (r + rows_of l)
      counted_next {l} e a =
          record {
            marks = ap length (marks_more ls k h e) ∙ length-append (marks_of (take k ls)) (mark_of l) ∙ ap (λ (i : ℕ). i + length (mark_of l)) c.marks;
            rules =
                ap length (rules_more ls k h e) ∙ length-append (rules_of (take k ls)) (the_rule_of l) ∙ ap (λ (i : ℕ). i + length (the_rule_of l)) c.rules
                ∙ ap (λ (i : ℕ). r * L.width + i) (rule_length wide l) ∙ sym (add-mul r (rows_of l) L.width);
            total = omega arith;
            marks_fit = a.marks_fit;
            rules_fit = a.rules_fit;
            order = a.order;
          }

    -- all the lines: they end too soon exactly if marks are missing
    module _ {k m r : ℕ} (c : Counted L ls k m r) (e : k ≡ length ls) where
      all : take k ls ≡ ls
      all = ap (λ (i : ℕ). take i ls) e ∙ take-length ls

      pub counted_marks : length (marks_of ls) ≡ m
      counted_marks = ap (λ (x : List Line). length (marks_of x)) (sym all) ∙ c.marks

      pub counted_rules : length (rules_of ls) ≡ r * L.width
      counted_rules = ap (λ (x : List Line). length (rules_of x)) (sym all) ∙ c.rules

      pub counted_short : m < states_of ls → TooSoon ls
      counted_short h = omega (arith, c.order h)

      pub counted_whole : states_of ls ≤ m → ¬ TooSoon ls
      counted_whole h t = omega arith

      pub counted_states : ¬ TooSoon ls → m ≡ states_of ls
      counted_states w = by_cases (dec_lt m (states_of ls)) (λ h. absurd (w (counted_short h))) (λ h. omega arith)

    -- lines without a fault
    pub counted : (k : ℕ) → k < length ls → Clear (fault_at L ls) (k + 1) → (m r : ℕ) × Counted L ls (k + 1) m r
    counted zero h c = (0, 0, counted_first (omega arith) (c 0 (omega arith)))
    counted (suc k) h c =
        let (m, r, d) = counted k (omega arith) (λ j l. c j (omega arith)) in
        let e : k + 1 ≡ suc k = add-one k in
        let d' : Counted L ls (suc k) m r = rw e at d in (
          m + length (mark_of (saying_at ls (suc k))),
          r + rows_of (saying_at ls (suc k)),
          counted_next d' (omega arith) refl (counted_adds d' (omega arith) (c (suc k) (omega arith))),
        )
