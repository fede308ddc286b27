-- The round trips, from contract to contract: whatever the reader and the writer leave in the slices that they are lent, a text that is
-- read and then written comes back byte for byte, and a table that is written and then read comes back equal. Assumes nothing.
use Prim.Native.Nat.{ℕ, ◌*◌, ◌/◌, ◌%◌, ◌≤◌}
use mathlib.Core.Path.{◌≡◌, refl, sym, ap, ◌∙◌}
use mathlib.Core.Logic.{if_pos, if_neg, by_cases}
use mathlib.Core.Bool.{false}
use mathlib.Core.List.{List, ◌++◌}
use native.Mathlib.Decide.{ℕ_discrete, dec_lt}
use native.Mathlib.Nat.{div-add-mod'}
use native.Mathlib.Omega.{arith}
use lib.ListN.{length, take, drop}
use lib.Seq.{take_at}
use Rattle.paper.specs.Limits.{Limits}
use Rattle.paper.specs.Told.{Told, refused, passes, holds, written, is_refusal, after, filled}
use Rattle.lines.specs.Number.{most_number}
use Rattle.table.specs.Check.{table_checked}
use Rattle.table.proofs.Exact.{passes_exactly, refused_exactly, verdict}
use Rattle.table.proofs.Exact as table
use Rattle.rule_read.specs.Text.{said_by, marks_of, rules_of, text_told, read_told, Reads}
use Rattle.table.specs.Room.{NoRoom, no_room?}
use Rattle.std.specs.Prelude.{Ok}
use Rattle.rule_read.specs.Text.{Reading}
use Rattle.rule_read.proofs.Said.{Wide}
use Rattle.rule_read.proofs.Exact.{refused_not_holds, text_holds, read_short, read_on}
use Rattle.rule_read.proofs.Passes.{text_passes}
use Rattle.rule_read.proofs.Unique as read
use Rattle.rule_write.specs.Write.{table_text_of, write_told, Writes}
use Rattle.rule_write.specs.Write.{Writing}
use Rattle.rule_write.proofs.RoundTrip.{read_write}
use Rattle.rule_write.proofs.WriteRead.{marks_back, rules_back, write_read}
use Rattle.rule_write.proofs.Unique.{told_unique}

-- what stands at the front of a filled slice
front : (t : Told) (xs o o' : List ℕ) → is_refusal t ≡ false → o' ≡ filled t xs o → take (length xs) o' ≡ xs
unfolding filled
front t xs o o' f e =
    let g : o' ≡ xs ++ drop (length xs) o = rw f at e in
    ap (take (length xs)) g ∙ take_at xs (drop (length xs) o) (length xs) refl

-- rows that fill a slice whole
whole_rows : (L : Limits) (y : ℕ) (ms xs : List ℕ) → table_checked L y ms xs ≡ passes → length xs / L.width * L.width ≡ length xs
whole_rows L y ms xs p =
    let g = ((passes_exactly L y ms xs).0 p).length_good_of in
    by_cases (ℕ_discrete (length xs % L.width) 0) (λ z. omega (arith, div-add-mod' (length xs) L.width, z)) (λ d. absurd (g d))

-- the reader that has room tells what the text tells
reads_told : (L : Limits) (s M W : List ℕ) (y n r : ℕ) → holds y n r ≡ read_told L s M W → text_told L s ≡ holds y n r
reads_told L s M W y n r e = by_cases (no_room? L M W)
    (λ h. absurd (refused_not_holds (sym (read_short L s M W h) ∙ sym e)))
    (λ h. sym (read_on L s M W h) ∙ sym e)

-- the writer that has room for a table that passes
writes_told : (L : Limits) (y : ℕ) (ms xs o : List ℕ) → table_checked L y ms xs ≡ passes → L.text ≤ length o
    → write_told L y ms xs o ≡ written (length (table_text_of L.width y ms xs))
unfolding write_told after is_refusal
writes_told L y ms xs o p h = rw p (if_neg (dec_lt (length o) L.text) (λ x. omega arith) _ _)

-- the slices after a reading have what the text says at their fronts
pub record Back (L : Limits) (s : List ℕ) (y n r : ℕ) (M' W' : List ℕ) : Type 0 where
  pub said : text_told L s ≡ holds y n r
  pub checked : table_checked L y (marks_of (said_by s)) (rules_of (said_by s)) ≡ passes
  pub marks : take n M' ≡ marks_of (said_by s)
  pub rules : take (r * L.width) W' ≡ rules_of (said_by s)

pub read_back : (L : Limits) → Wide L.width → (s M W M' W' : List ℕ) (y n r : ℕ) → Reads L s M W (Ok (record { symbols = y; states = n; rules = r })) M' W' → Back L s y n r M' W'
unfolding is_refusal
read_back L wide s M W M' W' y n r x =
    let t = reads_told L s M W y n r x.answer in
    let h = text_holds L s y n r t in
    let p = text_passes L wide s y n r t in
    let f : is_refusal (read_told L s M W) ≡ false = rw (sym x.answer) refl in
    let k : r * L.width ≡ length (rules_of (said_by s)) = ap (λ (i : ℕ). i * L.width) h.rules ∙ whole_rows L y (marks_of (said_by s)) (rules_of (said_by s)) p in
    record {
      said = t;
      checked = p;
      marks = rw h.marks (front (read_told L s M W) (marks_of (said_by s)) M M' f x.marks);
      rules = rw k (front (read_told L s M W) (rules_of (said_by s)) W W' f x.rules);
    }

-- a text that is read and then written comes back byte for byte
pub read_then_write : (L : Limits) → Wide L.width → (s M W M' W' O O' : List ℕ) (y n r : ℕ) (a : Writing)
    → Reads L s M W (Ok (record { symbols = y; states = n; rules = r })) M' W' → L.text ≤ length O → Writes L y (take n M') (take (r * L.width) W') O a O'
    → (a ≡ Ok (length s)) × (take (length s) O' ≡ s)
unfolding is_refusal
read_then_write L wide s M W M' W' O O' y n r a x room w =
    let b = read_back L wide s M W M' W' y n r x in
    let v : Writes L y (marks_of (said_by s)) (rules_of (said_by s)) O a O' = rw (b.marks, b.rules) at w in
    let e = read_write L wide s y n r b.said in
    let t : write_told L y (marks_of (said_by s)) (rules_of (said_by s)) O ≡ written (length s) =
    writes_told L y (marks_of (said_by s)) (rules_of (said_by s)) O b.checked room ∙ rw e refl in
    let f : is_refusal (write_told L y (marks_of (said_by s)) (rules_of (said_by s)) O) ≡ false = rw t refl in
    let o : O' ≡ filled (write_told L y (marks_of (said_by s)) (rules_of (said_by s)) O) s O = rw e at v.text in
    (told_unique a (Ok (length s)) (v.answer ∙ t), front (write_told L y (marks_of (said_by s)) (rules_of (said_by s)) O) s O O' f o)

-- a table that was written passes its check, and its text stands at the front of the slice
written_table : (L : Limits) (y k : ℕ) (ms xs O : List ℕ) → written k ≡ write_told L y ms xs O → table_checked L y ms xs ≡ passes
unfolding write_told after is_refusal
written_table L y k ms xs O e = go (verdict L y ms xs)
  where
    go : table.Verdict L y ms xs → table_checked L y ms xs ≡ passes
    go (table.is_sound g) = (passes_exactly L y ms xs).1 g
    go (table.is_refused {n} {s} {p} r) =
        let q : written k ≡ refused n s p = e ∙ rw ((refused_exactly L y ms xs n s p).1 r) refl in
        let z : ◌≡◌ {A = ℕ} 0 1 = cc in
        absurd (omega arith)

written_count : {k n : ℕ} → written k ≡ written n → k ≡ n
written_count e = cc

-- what was written, the table having passed
written_told : (L : Limits) (y k : ℕ) (ms xs O : List ℕ) → table_checked L y ms xs ≡ passes → written k ≡ write_told L y ms xs O
    → write_told L y ms xs O ≡ written (length (table_text_of L.width y ms xs))
unfolding write_told after is_refusal
written_told L y k ms xs O p e = by_cases (dec_lt (length O) L.text)
    (λ h.
    let q : written k ≡ refused 1 0 0 = e ∙ rw p (if_pos (dec_lt (length O) L.text) h _ _) in
    let z : ◌≡◌ {A = ℕ} 0 1 = cc in
    absurd (omega arith))
    (λ h. writes_told L y ms xs O p (omega arith))

-- a table that is written and then read comes back equal
pub write_then_read : (L : Limits) → Wide L.width → L.symbols ≤ most_number → L.states ≤ most_number
    → (ms xs O O' M W M' W' : List ℕ) (y k : ℕ) (a : Reading) → Writes L y ms xs O (Ok k) O' → ¬ NoRoom L M W
    → Reads L (take k O') M W a M' W'
    → (a ≡ Ok (record { symbols = y; states = length ms; rules = length xs / L.width })) × ((take (length ms) M' ≡ ms) × (take (length xs) W' ≡ xs))
unfolding is_refusal
write_then_read L wide hy hn ms xs O O' M W M' W' y k a w room x =
    let p = written_table L y k ms xs O w.answer in
    let text = table_text_of L.width y ms xs in
    let t : write_told L y ms xs O ≡ written (length text) = written_told L y k ms xs O p w.answer in
    let q : k ≡ length text = written_count (w.answer ∙ t) in
    let f : is_refusal (write_told L y ms xs O) ≡ false = rw t refl in
    let b : take k O' ≡ text = rw q (front (write_told L y ms xs O) text O O' f w.text) in
    let z : Reads L text M W a M' W' = rw b at x in
    let u : read_told L text M W ≡ holds y (length ms) (length xs / L.width) = read_on L text M W room ∙ write_read L wide hy hn y ms xs p in
    let g : is_refusal (read_told L text M W) ≡ false = rw u refl in
    let m : M' ≡ filled (read_told L text M W) ms M = rw (marks_back L wide hy hn y ms xs p) at z.marks in
    let r : W' ≡ filled (read_told L text M W) xs W = rw (rules_back L wide hy hn y ms xs p) at z.rules in (
      read.told_unique a (Ok (record { symbols = y; states = length ms; rules = length xs / L.width })) (z.answer ∙ u),
      (front (read_told L text M W) ms M M' g m, front (read_told L text M W) xs W W' g r),
    )
