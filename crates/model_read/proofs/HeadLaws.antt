-- The first line of a text: a fault in it, or a header. Assumes nothing.
use Prim.Native.Nat.{ℕ, ◌-◌, ◌≤◌, ◌<◌}
use mathlib.Core.Path.{◌≡◌, ap, sym, ◌∙◌}
use mathlib.Core.Logic.{inl, inr, by_cases}
use mathlib.Core.List.{List}
use native.Mathlib.Decide.{dec_lt}
use native.Mathlib.Omega.{arith}
use lib.ListN.{length, take, drop}
use Rattle.paper.specs.Limits.{Limits}
use Rattle.paper.specs.Told.{refusal}
use Rattle.paper.proofs.VerdictLaws.{Verdict}
use Rattle.lines.specs.Lines.{line_end_of, line_at}
use Rattle.lines.proofs.LinesLaws.{starts_first, starts_next, line_part}
use Rattle.model_line.specs.Line.{says, line_of}
use Rattle.model_line.specs.declared.Line.{Line}
use Rattle.model_line.specs.declared.Line.TheVariants.{Head}
use Rattle.model_line.proofs.LineLaws.{known_head}
use Rattle.model_read.specs.Text.{said_at, symbols_in, said_by, head_fault_of, BadHead, HeadWrong, head_range, survey_told}
use Rattle.model_read.specs.Work.{Headed}
use Rattle.paper.specs.declared.Refusal.{Refusal}
use Rattle.std.specs.Prelude as std
use Rattle.std.specs.Prelude.{Some}
use Rattle.model_read.proofs.Exact.{head_verdict, survey_malformed}
use Rattle.model_read.proofs.Said.{head_anyway, saying, line_missing}
use Rattle.model_read.proofs.Good.{head_right, some_line}

-- where the first line ends, and what it says
module _ (L : Limits) (s : List ℕ) {e : ℕ} {l : std.Option Line} (he : e ≡ line_end_of 0 (drop 0 s))
    (hl : l ≡ line_of (says L 0 (take (e - 0) (drop 0 s)))) where
  is_first : l ≡ line_of (says L 0 (line_at s 0))
  is_first = hl ∙ ap (λ (x : List ℕ). line_of (says L 0 x)) (line_part (starts_first s) he).2

  -- it is faulty unless it is a header without a fault
  module _ (b : (y t : ℕ) → l ≡ Some (Head y t) → BadHead L y t) where
    not_right : ¬ HeadWrong L (said_at (said_by L s) 0) → ⊥
    unfolding line_of
    not_right n =
        let r = head_right L (said_at (said_by L s) 0) n in
        let f = head_anyway L (line_at s 0) (symbols_in L s) 0 (sym (saying L s 0) ∙ r.says) in
        n (rw r.says (head_range (b r.symbols r.start (is_first ∙ ap line_of f))))

    wrong_of : Verdict 13 (head_fault_of L (said_at (said_by L s) 0)) (HeadWrong L (said_at (said_by L s) 0))
        → HeadWrong L (said_at (said_by L s) 0)
    wrong_of (inl x) = x.1
    wrong_of (inr x) = absurd (not_right x.1)

    refused_first : {x : Refusal} → x ≡ record { number = 13; side = 0; place = 1 } → refusal x ≡ survey_told L s
    refused_first q =
        ap refusal q ∙ sym (survey_malformed L s {k = 0} (record {
          inside = omega arith;
          wrong = wrong_of (head_verdict L (said_at (said_by L s) 0));
          before = λ j h. absurd (omega arith);
        }))

  module _ {x : Refusal} (q : x ≡ record { number = 13; side = 0; place = 1 }) where
    pub head_bad : {y t : ℕ} → l ≡ Some (Head y t) → BadHead L y t → refusal x ≡ survey_told L s
    head_bad {y} {t} h b =
        refused_first (λ y' t' i. let f : y ≡ y' = cc in let g : t ≡ t' = cc in rw (sym f, sym g) b) q

    pub head_other : ((y t : ℕ) → l ≡ Some (Head y t) → ⊥) → refusal x ≡ survey_told L s
    head_other h = refused_first (λ y t i. absurd (h y t i)) q

  pub headed : {y t : ℕ} → l ≡ Some (Head y t) → ¬ BadHead L y t → Headed L s y t e
  headed {y} {t} h n =
      let f = known_head (says L 0 (line_at s 0)) (sym is_first ∙ h) in
      let g = saying L s 0 ∙ head_anyway L (line_at s 0) 0 (symbols_in L s) f in
      let c = some_line (said_by L s) g in
      let i = by_cases (dec_lt 0 (length s)) (λ l. l) (λ d. absurd (none c d)) in
      record { says = g; right = n; some = c; behind = starts_next (starts_first s) i he }
    where
      none : 1 ≤ length (said_by L s) → (0 < length s → ⊥) → ⊥
      none c d = let z = line_missing L (starts_first s) (omega arith) in omega arith
