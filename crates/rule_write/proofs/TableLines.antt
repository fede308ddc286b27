-- The lines of a table: its text is theirs, and what they say are its marks and its rules. Assumes nothing.
use Prim.Native.Nat.{ℕ, zero, suc, ◌+◌, ◌-◌, ◌*◌, ◌/◌, ◌%◌, ◌≤◌, ◌<◌}
use mathlib.Core.Path.{◌≡◌, refl, sym, ap, ◌∙◌}
use mathlib.Core.Logic.{by_cases}
use mathlib.Core.List.{List, [], ◌∷◌, ◌++◌, append-nil}
use native.Mathlib.Decide.{dec_lt}
use native.Mathlib.Omega.{arith}
use native.Mathlib.Nat.{suc-mul}
use lib.ListN.{length, take, drop, length-append, get_or-append}
use lib.Seq.{take-suc, take-add, take-append-le, take-append-add, get_or-append-add, get_or-append_seam, get_or_at}
use Rattle.paper.specs.Limits.{at}
use Rattle.lines.proofs.Places.{from}
use Rattle.rule_line.specs.Line.{rule_of, line_text}
use Rattle.rule_line.specs.declared.Line.{Line}
use Rattle.rule_line.specs.declared.Line.TheVariants.{Head, State, Faulty}
use Rattle.rule_read.specs.Text.{mark_of, the_rule_of, marks_of, rules_of}
use Rattle.rule_read.specs.Work.{saying_at}
use Rattle.rule_read.proofs.Said.{Wide}
use Rattle.rule_read.proofs.ListLaws.{marks_append, rules_append}
use Rattle.rule_write.specs.Write.{state_line_of, rule_line_of, states_text_of, rules_text_of, table_text_of}
use Rattle.rule_write.proofs.UpTo.{up_to, length_up_to, get_d_up_to, take_up_to}
use Rattle.rule_write.proofs.TextOf.{text_of, text_append, text_last}

-- the lines behind the head, n of states and r of rules, and all the lines of a table
abbrev pub body_lines : ℕ → List ℕ → List ℕ → ℕ → ℕ → List Line
body_lines w ms xs n r = up_to (state_line_of ms) n ++ up_to (rule_line_of w xs) r

abbrev pub table_lines : ℕ → ℕ → List ℕ → List ℕ → List Line
table_lines w y ms xs = Head y (length ms) ∷ body_lines w ms xs (length ms) (length xs / w)

states_text : (ms : List ℕ) (n : ℕ) → states_text_of ms n ≡ text_of (up_to (state_line_of ms) n)
unfolding states_text_of text_of up_to
states_text ms zero = refl
states_text ms (suc n) =
    ap (λ (t : List ℕ). t ++ line_text (state_line_of ms n)) (states_text ms n) ∙ sym (text_last (up_to (state_line_of ms) n) (state_line_of ms n))

rules_text : (w : ℕ) (xs : List ℕ) (r : ℕ) → rules_text_of w xs r ≡ text_of (up_to (rule_line_of w xs) r)
unfolding rules_text_of text_of up_to
rules_text w xs zero = refl
rules_text w xs (suc r) =
    ap (λ (t : List ℕ). t ++ line_text (rule_line_of w xs r)) (rules_text w xs r) ∙ sym (text_last (up_to (rule_line_of w xs) r) (rule_line_of w xs r))

pub table_text : (w y : ℕ) (ms xs : List ℕ) → table_text_of w y ms xs ≡ text_of (table_lines w y ms xs)
unfolding table_text_of text_of
table_text w y ms xs =
    rw (
      states_text ms (length ms),
      rules_text w xs (length xs / w),
      ← text_append (up_to (state_line_of ms) (length ms)) (up_to (rule_line_of w xs) (length xs / w)),
    )

module _ (w : ℕ) (ms xs : List ℕ) (n r : ℕ) where
  pub body_length : length (body_lines w ms xs n r) ≡ n + r
  body_length =
      length-append (up_to (state_line_of ms) n) (up_to (rule_line_of w xs) r) ∙ omega (arith, length_up_to (state_line_of ms) n, length_up_to (rule_line_of w xs) r)

  pub body_state : (i : ℕ) → i < n → saying_at (body_lines w ms xs n r) i ≡ state_line_of ms i
  body_state i h =
      get_or-append (up_to (state_line_of ms) n) (up_to (rule_line_of w xs) r) (Faulty 0) i (omega (arith, length_up_to (state_line_of ms) n))
      ∙ get_d_up_to (state_line_of ms) n i (Faulty 0) h

  pub body_rule : (j : ℕ) → j < r → saying_at (body_lines w ms xs n r) (n + j) ≡ rule_line_of w xs j
  body_rule j h =
      ap (λ (i : ℕ). saying_at (body_lines w ms xs n r) (i + j)) (sym (length_up_to (state_line_of ms) n))
      ∙ get_or-append-add (up_to (state_line_of ms) n) (up_to (rule_line_of w xs) r) j (Faulty 0) ∙ get_d_up_to (rule_line_of w xs) r j (Faulty 0) h

  pub body_states : (i : ℕ) → i ≤ n → take i (body_lines w ms xs n r) ≡ body_lines w ms xs i 0
  unfolding up_to
  body_states i h =
      take-append-le i (up_to (state_line_of ms) n) (up_to (rule_line_of w xs) r) (omega (arith, length_up_to (state_line_of ms) n))
      ∙ take_up_to (state_line_of ms) n i h ∙ sym (append-nil (up_to (state_line_of ms) i))

  pub body_rules : (j : ℕ) → j ≤ r → take (n + j) (body_lines w ms xs n r) ≡ body_lines w ms xs n j
  body_rules j h =
      ap (λ (i : ℕ). take (i + j) (body_lines w ms xs n r)) (sym (length_up_to (state_line_of ms) n))
      ∙ take-append-add (up_to (state_line_of ms) n) (up_to (rule_line_of w xs) r) j
      ∙ ap (λ (t : List Line). up_to (state_line_of ms) n ++ t) (take_up_to (rule_line_of w xs) r j h)

  -- a line behind the head is that of a state or of a rule
  pub body_cases : (P : Line → Type 0) (k : ℕ) → k < n + r → (k < n → P (state_line_of ms k)) → ((j : ℕ) → j < r → k ≡ n + j → P (rule_line_of w xs j))
      → P (saying_at (body_lines w ms xs n r) k)
  body_cases P k h f g = by_cases (dec_lt k n)
      (λ l. rw (body_state k l) (f l))
      (λ l.
      let e : k ≡ n + (k - n) = omega arith in
      let b : k - n < r = omega arith in
      rw (e, body_rule (k - n) b) (g (k - n) b e))

-- what the lines of states and of rules say
states_marks : (ms : List ℕ) (i : ℕ) → i ≤ length ms → marks_of (up_to (state_line_of ms) i) ≡ take i ms
unfolding marks_of mark_of up_to
states_marks ms zero h = refl
states_marks ms (suc i) h =
    let e : 2 * (at ms i / 2) + at ms i % 2 ≡ at ms i = omega arith in
    marks_append (up_to (state_line_of ms) i) (state_line_of ms i ∷ []) ∙ rw (states_marks ms i (omega arith), e, take-suc ms i 0 (omega arith))

states_rules : (ms : List ℕ) (i : ℕ) → rules_of (up_to (state_line_of ms) i) ≡ []
unfolding rules_of the_rule_of up_to
states_rules ms zero = refl
states_rules ms (suc i) = rules_append (up_to (state_line_of ms) i) (state_line_of ms i ∷ []) ∙ rw (states_rules ms i)

rules_marks : (w : ℕ) (xs : List ℕ) (j : ℕ) → marks_of (up_to (rule_line_of w xs) j) ≡ []
unfolding marks_of mark_of up_to
rules_marks w xs zero = refl
rules_marks w xs (suc j) = marks_append (up_to (rule_line_of w xs) j) (rule_line_of w xs j ∷ []) ∙ rw (rules_marks w xs j)

-- the numbers from i on
numbers_from : (xs : List ℕ) (i : ℕ) → i + 3 < length xs
    → drop i xs ≡ at xs i ∷ at xs (i + 1) ∷ at xs (i + 2) ∷ at xs (i + 3) ∷ drop (i + 3 + 1) xs
numbers_from xs i h =
    let e : i + 1 + 1 ≡ i + 2 = omega arith in
    let f : i + 2 + 1 ≡ i + 3 = omega arith in
    from xs i (omega arith) ∙ rw (from xs (i + 1) (omega arith), e, from xs (i + 2) (omega arith), f, from xs (i + 3) h)

module _ {w : ℕ} (wide : Wide w) where
  row_taken : (xs : List ℕ) (j : ℕ) → j * w + w ≤ length xs → take (j * w) xs ++ the_rule_of (rule_line_of w xs j) ≡ take (suc j * w) xs
  unfolding the_rule_of
  row_taken xs j h =
      let l = wide 0 0 0 0 in
      let e : suc j * w ≡ j * w + w = suc-mul j w in
      rw (e, take-add (j * w) w xs, numbers_from xs (j * w) (omega arith), ← l)

  rules_rules : (xs : List ℕ) (j : ℕ) → j * w ≤ length xs → rules_of (up_to (rule_line_of w xs) j) ≡ take (j * w) xs
  unfolding rules_of up_to
  rules_rules xs zero h = let z : 0 * w ≡ 0 = omega arith in rw z
  rules_rules xs (suc j) h =
      let e : suc j * w ≡ j * w + w = suc-mul j w in
      rules_append (up_to (rule_line_of w xs) j) (rule_line_of w xs j ∷ [])
      ∙ rw (rules_rules xs j (omega arith), append-nil) (row_taken xs j (omega arith))

  -- the numbers of a line, in the marks or the rules of all
  pub rule_at : (ps zs : List ℕ) (j k a b q : ℕ) → length ps ≡ j * w → rule_line_of w (ps ++ (the_rule_of (rule_of k a b q) ++ zs)) j ≡ rule_of k a b q
  unfolding the_rule_of
  rule_at ps zs j k a b q e =
      let xs : List ℕ = k ∷ a ∷ b ∷ q ∷ zs in
      rw (← e, get_or-append_seam ps k (a ∷ b ∷ q ∷ zs) 0, get_or-append-add ps xs 1 0, get_or-append-add ps xs 2 0, get_or-append-add ps xs 3 0)

pub state_at : (ps zs : List ℕ) (q s f : ℕ) → length ps ≡ q → f ≤ 1 → state_line_of (ps ++ (mark_of (State q s f) ++ zs)) q ≡ State q s f
unfolding mark_of
state_at ps zs q s f e h =
    let d : (2 * s + f) / 2 ≡ s = omega arith in
    let m : (2 * s + f) % 2 ≡ f = omega arith in
    rw (get_or_at ps (2 * s + f) zs 0 q e, d, m)

-- what the lines behind the head say
module _ (w : ℕ) (ms xs : List ℕ) (i j : ℕ) where
  pub body_marks : i ≤ length ms → marks_of (body_lines w ms xs i j) ≡ take i ms
  body_marks h =
      marks_append (up_to (state_line_of ms) i) (up_to (rule_line_of w xs) j) ∙ rw (states_marks ms i h, rules_marks w xs j, append-nil (take i ms))

  pub body_numbers : Wide w → j * w ≤ length xs → rules_of (body_lines w ms xs i j) ≡ take (j * w) xs
  body_numbers wide h =
      rules_append (up_to (state_line_of ms) i) (up_to (rule_line_of w xs) j) ∙ rw (states_rules ms i, rules_rules wide xs j h)
