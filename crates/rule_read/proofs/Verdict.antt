-- What is wrong with a line, case by case: the numbers that the definitions give are exactly these. Assumes nothing.
use Prim.Native.Nat.{ℕ, zero, suc, ◌/◌, ◌≤◌, ◌<◌}
use mathlib.Core.Path.{◌≡◌, refl, sym, ◌∙◌}
use mathlib.Core.Logic.{◌⊎◌, inl, inr, ite, if_pos, if_neg, by_cases}
use mathlib.Core.List.{List}
use native.Mathlib.Decide.{dec_le, dec_lt}
use native.Mathlib.Omega.{arith}
use lib.ListN.{length, take}
use Rattle.paper.specs.Limits.{Limits}
use Rattle.table.specs.Check.{TooLarge, OutOfRange, HasRow, too_large?, out_of_range?, has_row?, BadSort, bad_sort?}
use Rattle.paper.specs.declared.RuleRow.{RuleRow}
use Rattle.rule_line.specs.declared.Line.{Line}
use Rattle.rule_line.specs.declared.Line.TheVariants.{Head, State, Rule, Faulty}
use Rattle.rule_read.specs.Text.{marks_of, rules_of, symbols_of, states_of, OutOfOrder, out_of_order?}
use Rattle.rule_read.specs.Text.{head_fault_of, state_line_fault, rule_line_fault, line_fault_of, fault_at}
use Rattle.rule_read.specs.Work.{saying_at}

-- the first line
module _ (L : Limits) where
  pub data HeadVerdict : Line → ℕ → Type 0 where
    shape : {i : ℕ} → HeadVerdict (Faulty i) 2
    state_first_of : {q s f : ℕ} → HeadVerdict (State q s f) 3
    rule_first : {r : RuleRow} → HeadVerdict (Rule r) 3
    size : {y n : ℕ} → TooLarge L y n 0 → HeadVerdict (Head y n) 4
    none : {y n : ℕ} → ¬ TooLarge L y n 0 → HeadVerdict (Head y n) 0

  pub head_fault : {l : Line} {f : ℕ} → HeadVerdict l f → head_fault_of L l ≡ f
  unfolding head_fault_of
  head_fault shape = refl
  head_fault state_first_of = refl
  head_fault rule_first = refl
  head_fault (size {y} {n} h) = if_pos (too_large? L y n 0) h _ _
  head_fault (none {y} {n} h) = if_neg (too_large? L y n 0) h _ _

  pub head_verdict : (l : Line) → (f : ℕ) × HeadVerdict l f
  head_verdict (Head y n) = by_cases (too_large? L y n 0) (λ h. (4, size h)) (λ h. (0, none h))
  head_verdict (State q s f) = (3, state_first_of)
  head_verdict (Rule r) = (3, rule_first)
  head_verdict (Faulty i) = (2, shape)

-- an S line behind m of n S lines
module _ (n m q s f : ℕ) where
  pub state_order : OutOfOrder n m q → state_line_fault n m q s f ≡ 3
  unfolding state_line_fault
  state_order o = if_pos (out_of_order? n m q) o _ _

  module _ (o : ¬ OutOfOrder n m q) where
    pub state_sort : BadSort s f → state_line_fault n m q s f ≡ 5
    unfolding state_line_fault
    state_sort b = if_neg (out_of_order? n m q) o _ _ ∙ if_pos (bad_sort? s f) b _ _

    pub state_none : ¬ BadSort s f → state_line_fault n m q s f ≡ 0
    unfolding state_line_fault
    state_none b = if_neg (out_of_order? n m q) o _ _ ∙ if_neg (bad_sort? s f) b _ _

-- a rule line behind m of n S lines and the rules rs
module _ (L : Limits) (y n m : ℕ) (rs : List ℕ) (k a b q : ℕ) where
  pub rule_early : m < n → rule_line_fault L y n m rs k a b q ≡ 3
  unfolding rule_line_fault
  rule_early u = if_pos (dec_lt m n) u _ _

  module _ (u : ¬ (m < n)) where
    pub rule_many : L.rules ≤ length rs / L.width → rule_line_fault L y n m rs k a b q ≡ 4
    unfolding rule_line_fault
    rule_many v = if_neg (dec_lt m n) u _ _ ∙ if_pos (dec_le L.rules (length rs / L.width)) v _ _

    module _ (v : ¬ (L.rules ≤ length rs / L.width)) where
      pub rule_range : OutOfRange y n k a b q → rule_line_fault L y n m rs k a b q ≡ 5
      unfolding rule_line_fault
      rule_range w =
          if_neg (dec_lt m n) u _ _ ∙ if_neg (dec_le L.rules (length rs / L.width)) v _ _ ∙ if_pos (out_of_range? y n k a b q) w _ _

      module _ (w : ¬ OutOfRange y n k a b q) where
        to_repeat : rule_line_fault L y n m rs k a b q ≡ ite (has_row? L.width rs (length rs / L.width) k a b q) 6 0
        unfolding rule_line_fault
        to_repeat =
            if_neg (dec_lt m n) u _ _ ∙ if_neg (dec_le L.rules (length rs / L.width)) v _ _ ∙ if_neg (out_of_range? y n k a b q) w _ _

        pub rule_again : HasRow L.width rs (length rs / L.width) k a b q → rule_line_fault L y n m rs k a b q ≡ 6
        rule_again x = to_repeat ∙ if_pos (has_row? L.width rs (length rs / L.width) k a b q) x _ _

        pub rule_none : ¬ HasRow L.width rs (length rs / L.width) k a b q → rule_line_fault L y n m rs k a b q ≡ 0
        rule_none x = to_repeat ∙ if_neg (has_row? L.width rs (length rs / L.width) k a b q) x _ _

-- a line behind the head of y symbols and n states, behind lines of m marks and the rules rs
module _ (L : Limits) (y n m : ℕ) (rs : List ℕ) where
  -- nothing is wrong with it
  pub data Right : Line → Type 0 where
    state : {q s f : ℕ} → ¬ OutOfOrder n m q → ¬ BadSort s f → Right (State q s f)
    rule : {r : RuleRow} → ¬ (m < n) → ¬ (L.rules ≤ length rs / L.width) → ¬ OutOfRange y n r.kind r.left r.right r.to
        → ¬ HasRow L.width rs (length rs / L.width) r.kind r.left r.right r.to → Right (Rule r)

  -- the lowest number that is wrong with it
  pub data Verdict : Line → ℕ → Type 0 where
    shape : {i : ℕ} → Verdict (Faulty i) 2
    second_head : {a b : ℕ} → Verdict (Head a b) 3
    state_order_of : {q s f : ℕ} → OutOfOrder n m q → Verdict (State q s f) 3
    state_sort_of : {q s f : ℕ} → ¬ OutOfOrder n m q → BadSort s f → Verdict (State q s f) 5
    rule_early_of : {r : RuleRow} → m < n → Verdict (Rule r) 3
    rule_many_of : {r : RuleRow} → ¬ (m < n) → L.rules ≤ length rs / L.width → Verdict (Rule r) 4
    rule_range_of : {r : RuleRow} → ¬ (m < n) → ¬ (L.rules ≤ length rs / L.width) → OutOfRange y n r.kind r.left r.right r.to
        → Verdict (Rule r) 5
    rule_again_of : {r : RuleRow} → ¬ (m < n) → ¬ (L.rules ≤ length rs / L.width) → ¬ OutOfRange y n r.kind r.left r.right r.to
        → HasRow L.width rs (length rs / L.width) r.kind r.left r.right r.to → Verdict (Rule r) 6
    none : {l : Line} → Right l → Verdict l 0

  pub line_fault_lem : {l : Line} {f : ℕ} → Verdict l f → line_fault_of L y n m rs l ≡ f
  unfolding line_fault_of
  line_fault_lem shape = refl
  line_fault_lem second_head = refl
  line_fault_lem (state_order_of {q} {s} {f} o) = state_order n m q s f o
  line_fault_lem (state_sort_of {q} {s} {f} o b) = state_sort n m q s f o b
  line_fault_lem (rule_early_of {r} u) = rule_early L y n m rs r.kind r.left r.right r.to u
  line_fault_lem (rule_many_of {r} u v) = rule_many L y n m rs r.kind r.left r.right r.to u v
  line_fault_lem (rule_range_of {r} u v w) = rule_range L y n m rs r.kind r.left r.right r.to u v w
  line_fault_lem (rule_again_of {r} u v w x) = rule_again L y n m rs r.kind r.left r.right r.to u v w x
  line_fault_lem (none (state {q} {s} {f} o b)) = state_none n m q s f o b
  line_fault_lem (none (rule {r} u v w x)) = rule_none L y n m rs r.kind r.left r.right r.to u v w x

  pub line_verdict : (l : Line) → (f : ℕ) × Verdict l f
  line_verdict (Head a b) = (3, second_head)
  line_verdict (State q s f) = by_cases (out_of_order? n m q)
      (λ o. (3, state_order_of o))
      (λ o. by_cases (bad_sort? s f) (λ b. (5, state_sort_of o b)) (λ b. (0, none (state o b))))
  line_verdict (Rule r) = by_cases (dec_lt m n)
      (λ u. (3, rule_early_of u))
      (λ u. by_cases (dec_le L.rules (length rs / L.width))
      (λ v. (4, rule_many_of u v))
      (λ v. by_cases (out_of_range? y n r.kind r.left r.right r.to)
      (λ w. (5, rule_range_of u v w))
      (λ w. by_cases (has_row? L.width rs (length rs / L.width) r.kind r.left r.right r.to)
      (λ x. (6, rule_again_of u v w x))
      (λ x. (0, none (rule u v w x))))))
  line_verdict (Faulty i) = (2, shape)

  pub line_right : {l : Line} → line_fault_of L y n m rs l ≡ 0 → Right l
  line_right {l} e = let (f, v) = line_verdict l in go v (sym (line_fault_lem v) ∙ e)
    where
      go : {l : Line} {f : ℕ} → Verdict l f → f ≡ 0 → Right l
      go (none r) z = r
      go shape z = absurd (omega arith)
      go second_head z = absurd (omega arith)
      go (state_order_of o) z = absurd (omega arith)
      go (state_sort_of o b) z = absurd (omega arith)
      go (rule_early_of u) z = absurd (omega arith)
      go (rule_many_of u v) z = absurd (omega arith)
      go (rule_range_of u v w) z = absurd (omega arith)
      go (rule_again_of u v w x) z = absurd (omega arith)

-- faults are 2 to 6
abbrev pub Numbered : ℕ → Type 0
Numbered f = (f ≡ 0) ⊎ ((2 ≤ f) × (f ≤ 6))

head_numbered : (L : Limits) {l : Line} {f : ℕ} → HeadVerdict L l f → Numbered f
head_numbered L shape = inr (omega arith, omega arith)
head_numbered L state_first_of = inr (omega arith, omega arith)
head_numbered L rule_first = inr (omega arith, omega arith)
head_numbered L (size h) = inr (omega arith, omega arith)
head_numbered L (none h) = inl refl

line_numbered : (L : Limits) (y n m : ℕ) (rs : List ℕ) {l : Line} {f : ℕ} → Verdict L y n m rs l f → Numbered f
line_numbered L y n m rs shape = inr (omega arith, omega arith)
line_numbered L y n m rs second_head = inr (omega arith, omega arith)
line_numbered L y n m rs (state_order_of o) = inr (omega arith, omega arith)
line_numbered L y n m rs (state_sort_of o b) = inr (omega arith, omega arith)
line_numbered L y n m rs (rule_early_of u) = inr (omega arith, omega arith)
line_numbered L y n m rs (rule_many_of u v) = inr (omega arith, omega arith)
line_numbered L y n m rs (rule_range_of u v w) = inr (omega arith, omega arith)
line_numbered L y n m rs (rule_again_of u v w x) = inr (omega arith, omega arith)
line_numbered L y n m rs (none r) = inl refl

-- line k of these lines
module _ (L : Limits) (ls : List Line) where
  pub fault_behind : (k : ℕ) → 1 ≤ k
      → fault_at L ls k ≡ line_fault_of L (symbols_of ls) (states_of ls) (length (marks_of (take k ls))) (rules_of (take k ls)) (saying_at ls k)
  unfolding fault_at
  fault_behind zero h = absurd (omega arith)
  fault_behind (suc k) h = refl

  pub fault_numbered : (k : ℕ) → Numbered (fault_at L ls k)
  unfolding fault_at
  fault_numbered zero = let (f, v) = head_verdict L (saying_at ls 0) in rw (head_fault L v) (head_numbered L v)
  fault_numbered (suc k) =
      let m = length (marks_of (take (suc k) ls)) in
      let rs = rules_of (take (suc k) ls) in
      let (f, v) = line_verdict L (symbols_of ls) (states_of ls) m rs (saying_at ls (suc k)) in
      rw (line_fault_lem L (symbols_of ls) (states_of ls) m rs v) (line_numbered L (symbols_of ls) (states_of ls) m rs v)
