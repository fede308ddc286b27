-- Lines laid one behind the other, and what the writer's answers tell. Assumes nothing.
use Prim.Native.Nat.{ℕ, ◌+◌, ◌/◌, ◌≤◌, ◌<◌}
use mathlib.Core.Path.{◌≡◌, refl, sym, ap, ◌∙◌}
use mathlib.Core.Logic.{inl, inr, by_cases, if_pos, if_neg}
use mathlib.Core.List.{List, [], ◌++◌}
use native.Mathlib.Decide.{dec_lt}
use native.Mathlib.Numerals.{add-one}
use native.Mathlib.Nat.{zero-add}
use native.Mathlib.Omega.{arith}
use lib.ListN.{length}
use lib.Seq.{sets-eq}
use Rattle.paper.specs.Limits.{Limits}
use Rattle.paper.specs.Told.{refused, passes, written, is_refusal, after, filled}
use Rattle.put.specs.Put.{Fit, Wrote}
use Rattle.put.proofs.PutLaws.{put_none, fit_then, wrote_length}
use Rattle.table.specs.Check.{table_checked}
use Rattle.table.proofs.Exact.{passes_exactly}
use Rattle.rule_line.specs.Line.{line_text}
use Rattle.rule_line.specs.declared.Line.TheVariants.{Head, Rule}
use Rattle.rule_write.specs.Write.{state_line_of, rule_line_of, states_text_of, rules_text_of, table_text_of, write_told, Writes}
use Rattle.std.specs.Prelude.{Ok, Err}
use Rattle.paper.specs.declared.RuleRow.{RuleRow}
use Rattle.table.specs.Rules.{Row}

-- bs stand from at on, up to e, if they fit; the slice keeps its length
pub record Laid (o : List ℕ) (at : ℕ) (bs : List ℕ) (e : ℕ) (o' : List ℕ) : Type 0 where
  pub long : length o' ≡ length o
  pub fits : Fit o at bs e o'

pub laid_none : (o : List ℕ) (at : ℕ) → Laid o at [] at o
laid_none o at = record { long = refl; fits = λ h. put_none o at }

laid_more : {o o₁ o₂ : List ℕ} {at e r : ℕ} {bs cs : List ℕ} → Laid o at bs e o₁ → Wrote o₁ e cs r o₂ → Laid o at (bs ++ cs) r o₂
laid_more l w = record { long = wrote_length w ∙ l.long; fits = fit_then l.fits w.fits }

-- the line of one more state, and of one more rule
pub states_more : (ms : List ℕ) (i : ℕ) {o o₁ o₂ : List ℕ} {at e r : ℕ}
    → Laid o at (states_text_of ms i) e o₁ → Wrote o₁ e (line_text (state_line_of ms i)) r o₂ → Laid o at (states_text_of ms (i + 1)) r o₂
unfolding states_text_of
states_more ms i l w = rw (add-one i) (laid_more l w)

-- a row that stands there is said
pub row_line : {width i : ℕ} {xs : List ℕ} {r : RuleRow} → Row width xs i r.kind r.left r.right r.to → rule_line_of width xs i ≡ Rule r
row_line row = rw (row.kind, row.left, row.right, row.target)

pub rules_more : (width : ℕ) (xs : List ℕ) (i : ℕ) {o o₁ o₂ : List ℕ} {at e r : ℕ}
    → Laid o at (rules_text_of width xs i) e o₁ → Wrote o₁ e (line_text (rule_line_of width xs i)) r o₂ → Laid o at (rules_text_of width xs (i + 1)) r o₂
unfolding rules_text_of
rules_more width xs i l w = rw (add-one i) (laid_more l w)

module _ (L : Limits) (symbols : ℕ) (ms xs o : List ℕ) where
  pub passes_states : table_checked L symbols ms xs ≡ passes → length ms ≤ L.states
  passes_states e =
      let g = ((passes_exactly L symbols ms xs).0 e).size_good in
      by_cases (dec_lt L.states (length ms)) (λ h. absurd (g (inr (inr (inl h))))) (λ h. omega arith)

  -- the head, the states and the rules make the text
  pub text_laid : {o₁ o₂ o₃ : List ℕ} {a b r : ℕ} → Wrote o 0 (line_text (Head symbols (length ms))) a o₁
      → Fit o₁ a (states_text_of ms (length ms)) b o₂ → Fit o₂ b (rules_text_of L.width xs (length xs / L.width)) r o₃
      → Fit o 0 (table_text_of L.width symbols ms xs) r o₃
  unfolding table_text_of
  text_laid w f g = fit_then w.fits (fit_then f g)

  pub writes_fault : {n s p : ℕ} → table_checked L symbols ms xs ≡ refused n s p
      → Writes L symbols ms xs o (Err (record { number = n; side = s; place = p })) o
  unfolding write_told after filled is_refusal
  writes_fault e = record { answer = rw e; text = rw e }

  pub writes_short : table_checked L symbols ms xs ≡ passes → length o < L.text
      → Writes L symbols ms xs o (Err (record { number = 1; side = 0; place = 0 })) o
  unfolding write_told after filled is_refusal
  writes_short e h =
      let t : write_told L symbols ms xs o ≡ refused 1 0 0 = rw e (if_pos (dec_lt (length o) L.text) h _ _) in
      record { answer = sym t; text = rw t }

  -- the text fits, and is written
  pub writes_all : {r : ℕ} {o' : List ℕ} → table_checked L symbols ms xs ≡ passes → L.text ≤ length o
      → length (table_text_of L.width symbols ms xs) ≤ L.text → Fit o 0 (table_text_of L.width symbols ms xs) r o'
      → Writes L symbols ms xs o (Ok r) o'
  unfolding write_told after filled is_refusal
  writes_all {r} {o'} e h b f =
      let bs = table_text_of L.width symbols ms xs in
      let p = f (omega arith) in
      let t : write_told L symbols ms xs o ≡ written (length bs) = rw e (if_neg (dec_lt (length o) L.text) (λ x. omega arith) _ _) in
      let q : r ≡ length bs = omega (arith, p.ends) in
      record {
        answer = ap written q ∙ sym t;
        text = rw t (p.holds ∙ sets-eq bs o 0 (omega arith) ∙ rw (zero-add (length bs)) refl);
      }
