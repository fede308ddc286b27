-- A table that passes and is written and then read comes back equal. Assumes nothing.
use Prim.Native.Nat.{ℕ, zero, suc, ◌+◌, ◌-◌, ◌*◌, ◌/◌, ◌%◌, ◌≤◌, ◌<◌}
use mathlib.Core.Path.{◌≡◌, refl, ap, ◌∙◌}
use mathlib.Core.Logic.{◌≢◌, inl, inr, ⊎_elim, by_cases}
use mathlib.Core.List.{List}
use native.Mathlib.Decide.{ℕ_discrete, dec_lt}
use native.Mathlib.Nat.{div-add-mod'}
use native.Mathlib.Omega.{arith}
use lib.ListN.{length, take}
use lib.Seq.{take_all, length-take-le}
use Rattle.paper.specs.Limits.{Limits, at}
use Rattle.paper.specs.Told.{passes, holds}
use Rattle.paper.specs.First.{Clear}
use Rattle.lines.specs.Number.{most_number}
use Rattle.table.specs.Check.{TooLarge, table_checked, Sound}
use Rattle.table.proofs.Exact.{passes_exactly}
use Rattle.table.proofs.Range.{symbols_few, states_few, rules_few}
use Rattle.rule_line.specs.declared.Line.{Line}
use Rattle.rule_line.proofs.LineLaws.{Sayable}
use Rattle.rule_read.specs.Text.{said_by, mark_of, the_rule_of, marks_of, rules_of, symbols_of, states_of, fault_at, TooSoon, text_told}
use Rattle.rule_read.specs.Work.{saying_at}
use Rattle.rule_read.proofs.Verdict.{Right, none, state, rule, head_fault, line_fault_lem}
use Rattle.rule_read.proofs.Said.{Wide}
use Rattle.rule_read.proofs.Rows.{row_within, front_rows, slice_has}
use Rattle.rule_read.proofs.Exact.{text_table}
use Rattle.rule_write.specs.Write.{state_line_of, rule_line_of, table_text_of}
use Rattle.rule_write.proofs.TextOf.{said_text}
use Rattle.rule_write.proofs.TableLines.{body_lines, table_lines, table_text}
use Rattle.rule_write.proofs.TableLines.{body_length, body_state, body_rule, body_states, body_rules, body_cases, body_marks, body_numbers}
use Rattle.rule_write.proofs.Bounds.{mark_least, mark_most, numbers_below}

module _ (L : Limits) (wide : Wide L.width) (y : ℕ) (ms xs : List ℕ) (sound : Sound L y ms xs) where
  abbrev n : ℕ
  n = length ms

  abbrev r : ℕ
  r = length xs / L.width

  abbrev body : List Line
  body = body_lines L.width ms xs n r

  whole : r * L.width ≡ length xs
  whole = go sound.length_good_of
    where
      go : ¬ (length xs % L.width ≢ 0) → r * L.width ≡ length xs
      go h = by_cases (ℕ_discrete (length xs % L.width) 0) (λ e. omega (arith, div-add-mod' (length xs) L.width)) (λ d. absurd (h d))

  -- the lines say the table
  pub lines_marks : marks_of (table_lines L.width y ms xs) ≡ ms
  unfolding marks_of mark_of
  lines_marks = body_marks L.width ms xs n r (omega arith) ∙ take_all n ms (omega arith)

  pub lines_rules : rules_of (table_lines L.width y ms xs) ≡ xs
  unfolding rules_of the_rule_of
  lines_rules = body_numbers L.width ms xs n r wide (omega (arith, whole)) ∙ take_all (r * L.width) xs (omega (arith, whole))

  -- each line can be said
  sayable : L.symbols ≤ most_number → L.states ≤ most_number → (k : ℕ) → k < length (table_lines L.width y ms xs)
      → Sayable (saying_at (table_lines L.width y ms xs) k)
  sayable hy hn zero h = (omega (arith, symbols_few L sound), omega (arith, states_few L sound))
  sayable hy hn (suc k) h =
      body_cases L.width ms xs n r Sayable k (omega (arith, body_length L.width ms xs n r))
      (λ l. let m = mark_most sound l in (omega (arith, states_few L sound), omega arith, omega arith))
      (λ j l e.
      let b = numbers_below sound most_number hy hn l in
      (b.kind, omega (arith, b.left), omega (arith, b.right), omega (arith, b.target), b.none))

  -- no line has a fault
  size : ¬ TooLarge L y n 0
  size (inl e) = sound.size_good (inl e)
  size (inr (inl e)) = sound.size_good (inr (inl e))
  size (inr (inr (inl e))) = sound.size_good (inr (inr (inl e)))
  size (inr (inr (inr e))) = omega arith

  state_right : {i : ℕ} → i < n → (rs : List ℕ) → Right L y n i rs (state_line_of ms i)
  state_right {i} h rs =
      let a = mark_least sound h in
      let b = mark_most sound h in
      state
      (⊎_elim (λ (l : n ≤ i). omega arith) (λ d. d refl))
      (⊎_elim (λ (e : at ms i / 2 ≡ 0). omega arith) (⊎_elim (λ (e : 3 < at ms i / 2). omega arith) (λ (e : 1 < at ms i % 2). omega arith)))

  rule_right : {j : ℕ} → j < r → Right L y n n (take (j * L.width) xs) (rule_line_of L.width xs j)
  rule_right {j} h =
      let b = row_within L.width r j h in
      let f : j * L.width ≤ length xs = omega (arith, whole) in
      let e = front_rows wide xs j f in
      let g = sound.rules_good j h in
      rule (λ l. omega arith) (λ l. omega (arith, rules_few L sound)) g.in_range
      (rw e (λ has. g.new (slice_has wide xs j f has)))

  clear : Clear (fault_at L (table_lines L.width y ms xs)) (length (table_lines L.width y ms xs))
  unfolding fault_at symbols_of states_of marks_of rules_of mark_of the_rule_of
  clear zero h = head_fault L (none size)
  clear (suc k) h =
      by_cases (dec_lt k n)
      (λ l.
      rw (
        body_states L.width ms xs n r k (omega arith),
        body_state L.width ms xs n r k l,
        body_marks L.width ms xs k 0 (omega arith),
        length-take-le k ms (omega arith),
      )
      (line_fault_lem L y n k (rules_of (body_lines L.width ms xs k 0)) (none (state_right l (rules_of (body_lines L.width ms xs k 0))))))
      (λ l.
      let e : k ≡ n + (k - n) = omega arith in
      let j : k - n < r = omega (arith, body_length L.width ms xs n r) in
      let b = row_within L.width r (k - n) j in
      rw (
        e,
        body_rules L.width ms xs n r (k - n) (omega arith),
        body_rule L.width ms xs n r (k - n) j,
        body_marks L.width ms xs n (k - n) (omega arith),
        length-take-le n ms (omega arith),
        body_numbers L.width ms xs n (k - n) wide (omega (arith, whole)),
      )
      (line_fault_lem L y n n (take ((k - n) * L.width) xs) (none (rule_right j))))

  clear_whole : ¬ TooSoon (table_lines L.width y ms xs)
  unfolding states_of
  clear_whole h = omega (arith, body_length L.width ms xs n r)

-- the lines of the text of a table that passes, what they say, and what reading it tells
module _ (L : Limits) (wide : Wide L.width) (hy : L.symbols ≤ most_number) (hn : L.states ≤ most_number)
    (y : ℕ) (ms xs : List ℕ) (p : table_checked L y ms xs ≡ passes) where
  sound : Sound L y ms xs
  sound = (passes_exactly L y ms xs).0 p

  pub lines_said : said_by (table_text_of L.width y ms xs) ≡ table_lines L.width y ms xs
  lines_said =
      ap said_by (table_text L.width y ms xs) ∙ said_text (table_lines L.width y ms xs) (sayable L wide y ms xs sound hy hn)

  pub marks_back : marks_of (said_by (table_text_of L.width y ms xs)) ≡ ms
  marks_back = ap marks_of lines_said ∙ lines_marks L wide y ms xs sound

  pub rules_back : rules_of (said_by (table_text_of L.width y ms xs)) ≡ xs
  rules_back = ap rules_of lines_said ∙ lines_rules L wide y ms xs sound

  -- a table that passes and is written and then read comes back
  pub write_read : text_told L (table_text_of L.width y ms xs) ≡ holds y (length ms) (length xs / L.width)
  unfolding symbols_of
  write_read =
      text_table L (table_text_of L.width y ms xs) (rw lines_said (clear L wide y ms xs sound)) (rw lines_said (clear_whole L wide y ms xs sound))
      ∙ rw (lines_said, lines_marks L wide y ms xs sound, lines_rules L wide y ms xs sound)
