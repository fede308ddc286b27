-- The number that `fault_at` gives is the lowest that is wrong with a line, so a text tells exactly the refusals of `TextRefused`.
-- Assumes nothing.
use Prim.Native.Nat.{ℕ, zero, suc, ◌/◌, ◌<◌}
use mathlib.Core.Path.{◌≡◌, refl, sym, ◌∙◌}
use mathlib.Core.Logic.{◌≢◌, ◌⊎◌, inl, inr, ⊎_elim, ◌↔◌, by_cases}
use mathlib.Core.List.{List}
use native.Mathlib.Decide.{ℕ_discrete, dec_lt}
use native.Mathlib.Omega.{arith}
use lib.ListN.{length, get_or, take}
use Rattle.paper.specs.Limits.{Limits}
use Rattle.paper.specs.Told.{refused}
use Rattle.paper.specs.First.{Clear}
use Rattle.table.specs.Check.{TooLarge, BadSort, OutOfRange, HasRow}
use Rattle.paper.specs.declared.RuleRow.{RuleRow}
use Rattle.rule_line.specs.declared.Line.{Line}
use Rattle.rule_line.specs.declared.Line.TheVariants.{Head, State, Rule, Faulty}
use Rattle.rule_read.specs.Text.{said_by, marks_of, rules_of, symbols_of, states_of, OutOfOrder, TooEarly, TooMany, fault_at, text_told, read_told}
use Rattle.table.specs.Room.{no_room?}
use Rattle.rule_read.specs.Text.{HeadWrong, LineWrong, WrongAt, TextRefused, wrong_line, ends_too_soon, ReadRefused, short_slice, bad_text}
use Rattle.rule_read.specs.Text.{head_shape_of, state_first_of, rule_first, head_size_of}
use Rattle.rule_read.specs.Text.{line_shape, second_head, state_order_of, state_sort_of, rule_early_of, rule_many_of, rule_range_of, rule_again_of}
use Rattle.rule_read.proofs.Verdict.{HeadVerdict, head_fault, head_verdict, Verdict, line_fault_lem, line_verdict}
use Rattle.rule_read.proofs.Verdict as found
use Rattle.rule_read.proofs.Exact.{FirstFound, at_line_of, too_soon, text_found_exactly, read_short, read_on}

-- f is the lowest number of which W holds, or 0 where there is none
record Lowest (W : ℕ → Type 0) (f : ℕ) : Type 0 where
  wrong : f ≢ 0 → W f
  least : (k : ℕ) → k < f → ¬ W k
  none : f ≡ 0 → (k : ℕ) → ¬ W k

-- W holds of one number alone
lowest_one : (W : ℕ → Type 0) (f : ℕ) → f ≢ 0 → W f → ((k : ℕ) → W k → k ≡ f) → Lowest W f
lowest_one W f d w o = record {
  wrong = λ _. w;
  least = λ k h x. let e = o k x in omega arith;
  none = λ e. absurd (d e);
}

lowest_none : (W : ℕ → Type 0) → ((k : ℕ) → ¬ W k) → Lowest W 0
lowest_none W h = record { wrong = λ d. absurd (d refl); least = λ k l. absurd (omega arith); none = λ _. h }

-- the first line
module _ (L : Limits) where
  shape_only : {i k : ℕ} → HeadWrong L (Faulty i) k → k ≡ 2
  shape_only head_shape_of = refl

  state_only : {q s f k : ℕ} → HeadWrong L (State q s f) k → k ≡ 3
  state_only state_first_of = refl

  rule_only : {r : RuleRow} {k : ℕ} → HeadWrong L (Rule r) k → k ≡ 3
  rule_only rule_first = refl

  size_only : {y n k : ℕ} → HeadWrong L (Head y n) k → (k ≡ 4) × TooLarge L y n 0
  size_only (head_size_of h) = (refl, h)

  head_lowest : {l : Line} {f : ℕ} → HeadVerdict L l f → Lowest (HeadWrong L l) f
  head_lowest found.shape = lowest_one _ 2 (λ e. omega arith) head_shape_of (λ k w. shape_only w)
  head_lowest found.state_first_of = lowest_one _ 3 (λ e. omega arith) state_first_of (λ k w. state_only w)
  head_lowest found.rule_first = lowest_one _ 3 (λ e. omega arith) rule_first (λ k w. rule_only w)
  head_lowest (found.size h) = lowest_one _ 4 (λ e. omega arith) (head_size_of h) (λ k w. (size_only w).0)
  head_lowest (found.none h) = lowest_none _ (λ k w. h (size_only w).1)

-- a line behind the head
module _ (L : Limits) (y n m : ℕ) (rs : List ℕ) where
  shape_line : {i k : ℕ} → LineWrong L y n m rs (Faulty i) k → k ≡ 2
  shape_line line_shape = refl

  head_line : {a b k : ℕ} → LineWrong L y n m rs (Head a b) k → k ≡ 3
  head_line second_head = refl

  -- what can be wrong with an S line, and with a rule line
  abbrev StateWrongs : ℕ → ℕ → ℕ → ℕ → Type 0
  StateWrongs q s f k = ((k ≡ 3) × OutOfOrder n m q) ⊎ ((k ≡ 5) × BadSort s f)

  state_line : {q s f k : ℕ} → LineWrong L y n m rs (State q s f) k → StateWrongs q s f k
  state_line (state_order_of o) = inl (refl, o)
  state_line (state_sort_of b) = inr (refl, b)

  abbrev RuleWrongs : RuleRow → ℕ → Type 0
  RuleWrongs r k =
      ((k ≡ 3) × TooEarly n m)
      ⊎ (((k ≡ 4) × TooMany L rs)
      ⊎ (((k ≡ 5) × OutOfRange y n r.kind r.left r.right r.to)
      ⊎ ((k ≡ 6) × HasRow L.width rs (length rs / L.width) r.kind r.left r.right r.to)))

  rule_line_lem : {r : RuleRow} {k : ℕ} → LineWrong L y n m rs (Rule r) k → RuleWrongs r k
  rule_line_lem (rule_early_of u) = inl (refl, u)
  rule_line_lem (rule_many_of v) = inr (inl (refl, v))
  rule_line_lem (rule_range_of w) = inr (inr (inl (refl, w)))
  rule_line_lem (rule_again_of x) = inr (inr (inr (refl, x)))

  -- a number below f is none of those, where the tests before f failed
  line_lowest : {l : Line} {f : ℕ} → Verdict L y n m rs l f → Lowest (LineWrong L y n m rs l) f
  line_lowest found.shape = lowest_one _ 2 (λ e. omega arith) line_shape (λ k w. shape_line w)
  line_lowest found.second_head = lowest_one _ 3 (λ e. omega arith) second_head (λ k w. head_line w)
  line_lowest (found.state_order_of o) = record {
    wrong = λ _. state_order_of o;
    least = λ k h w. ⊎_elim (λ (e, _). omega arith) (λ (e, _). omega arith) (state_line w);
    none = λ e. absurd (omega arith);
  }
  line_lowest (found.state_sort_of o b) = record {
    wrong = λ _. state_sort_of b;
    least = λ k h w. ⊎_elim (λ (_, x). o x) (λ (e, _). omega arith) (state_line w);
    none = λ e. absurd (omega arith);
  }
  line_lowest (found.rule_early_of u) = record {
    wrong = λ _. rule_early_of u;
    least = λ k h w. ⊎_elim (λ (e, _). omega arith) (⊎_elim (λ (e, _). omega arith) (⊎_elim (λ (e, _). omega arith) (λ (e, _). omega arith))) (rule_line_lem w);
    none = λ e. absurd (omega arith);
  }
  line_lowest (found.rule_many_of u v) = record {
    wrong = λ _. rule_many_of v;
    least = λ k h w. ⊎_elim (λ (_, x). u x) (⊎_elim (λ (e, _). omega arith) (⊎_elim (λ (e, _). omega arith) (λ (e, _). omega arith))) (rule_line_lem w);
    none = λ e. absurd (omega arith);
  }
  line_lowest (found.rule_range_of u v t) = record {
    wrong = λ _. rule_range_of t;
    least = λ k h w. ⊎_elim (λ (_, x). u x) (⊎_elim (λ (_, x). v x) (⊎_elim (λ (e, _). omega arith) (λ (e, _). omega arith))) (rule_line_lem w);
    none = λ e. absurd (omega arith);
  }
  line_lowest (found.rule_again_of u v t r) = record {
    wrong = λ _. rule_again_of r;
    least = λ k h w. ⊎_elim (λ (_, x). u x) (⊎_elim (λ (_, x). v x) (⊎_elim (λ (_, x). t x) (λ (e, _). omega arith))) (rule_line_lem w);
    none = λ e. absurd (omega arith);
  }
  line_lowest (found.none (found.state o b)) = lowest_none _ (λ k w. ⊎_elim (λ (_, x). o x) (λ (_, x). b x) (state_line w))
  line_lowest (found.none (found.rule u v t r)) = lowest_none _ (λ k w.
      ⊎_elim (λ (_, x). u x) (⊎_elim (λ (_, x). v x) (⊎_elim (λ (_, x). t x) (λ (_, x). r x))) (rule_line_lem w))

-- line k of these lines
fault_lowest : (L : Limits) (ls : List Line) (k : ℕ) → Lowest (WrongAt L ls k) (fault_at L ls k)
unfolding fault_at
fault_lowest L ls zero = let (f, v) = head_verdict L (get_or ls 0 (Faulty 0)) in rw (head_fault L v) (head_lowest L v)
fault_lowest L ls (suc k) =
    let m = length (marks_of (take (suc k) ls)) in
    let rs = rules_of (take (suc k) ls) in
    let (f, v) = line_verdict L (symbols_of ls) (states_of ls) m rs (get_or ls (suc k) (Faulty 0)) in
    rw (line_fault_lem L (symbols_of ls) (states_of ls) m rs v) (line_lowest L (symbols_of ls) (states_of ls) m rs v)

module _ (L : Limits) (s : List ℕ) where
  abbrev at_line : (k : ℕ) → Lowest (WrongAt L (said_by s) k) (fault_at L (said_by s) k)
  at_line k = fault_lowest L (said_by s) k

  -- a number that is wrong is no 0, as the lowest is none below it
  some_fault : (k f : ℕ) → WrongAt L (said_by s) k f → fault_at L (said_by s) k ≢ 0
  some_fault k f w e = (at_line k).none e f w

  clear_of : (n : ℕ) → ((j m : ℕ) → j < n → ¬ WrongAt L (said_by s) j m) → Clear (fault_at L (said_by s)) n
  clear_of n h j l = by_cases (ℕ_discrete (fault_at L (said_by s) j) 0) (λ e. e) (λ d. absurd (h j _ l ((at_line j).wrong d)))

  to_found : {n d p : ℕ} → TextRefused L s n d p → FirstFound L s n d p
  to_found (ends_too_soon c h) = too_soon (clear_of (length (said_by s)) c) h
  to_found (wrong_line {n} {k} i w l b) =
      let d = some_fault k n w in
      let e : fault_at L (said_by s) k ≡ n = same k n d w l in
      at_line_of (record { inside = i; here = e; fault = λ z. d (e ∙ z); before = clear_of k b })
    where
      same : (k n : ℕ) → fault_at L (said_by s) k ≢ 0 → WrongAt L (said_by s) k n → ((m : ℕ) → m < n → ¬ WrongAt L (said_by s) k m)
          → fault_at L (said_by s) k ≡ n
      same k n d w l =
          by_cases (dec_lt (fault_at L (said_by s) k) n)
          (λ h. absurd (l _ h ((at_line k).wrong d)))
          (λ h. by_cases (dec_lt n (fault_at L (said_by s) k)) (λ g. absurd ((at_line k).least n g w)) (λ g. omega arith))

  of_found : {n d p : ℕ} → FirstFound L s n d p → TextRefused L s n d p
  of_found (too_soon c h) = ends_too_soon (λ j m l. (at_line j).none (c j l) m) h
  of_found (at_line_of {n} {k} f) = wrong_line f.inside
      (rw f.here at ((at_line k).wrong (λ z. f.fault (sym f.here ∙ z))))
      (λ m h. (at_line k).least m (rw f.here h))
      (λ j m l. (at_line j).none (f.before j l) m)

  pub text_refused_exactly : (n d p : ℕ) → (text_told L s ≡ refused n d p) ↔ TextRefused L s n d p
  text_refused_exactly n d p = let e = text_found_exactly L s n d p in (λ h. of_found (e.0 h), λ h. e.1 (to_found h))

-- the reader tells exactly the refusals of `ReadRefused`
module _ (L : Limits) (s M W : List ℕ) where
  same : {n d p n' d' p' : ℕ} → refused n d p ≡ refused n' d' p' → ReadRefused L s M W n d p → ReadRefused L s M W n' d' p'
  same {n} {d} {p} {n'} {d'} {p'} e w =
      let a : n ≡ n' = cc in
      let b : d ≡ d' = cc in
      let c : p ≡ p' = cc in
      rw (a, b, c) at w

  from : {n d p : ℕ} → ReadRefused L s M W n d p → read_told L s M W ≡ refused n d p
  from (short_slice h) = read_short L s M W h
  from (bad_text {n} {d} {p} h t) = read_on L s M W h ∙ (text_refused_exactly L s n d p).1 t

  pub read_refused_exactly : (n d p : ℕ) → (read_told L s M W ≡ refused n d p) ↔ ReadRefused L s M W n d p
  read_refused_exactly n d p = (
    λ e. by_cases (no_room? L M W)
        (λ h. same (sym (read_short L s M W h) ∙ e) (short_slice h))
        (λ h. bad_text h ((text_refused_exactly L s n d p).0 (sym (read_on L s M W h) ∙ e))),
    from,
  )
