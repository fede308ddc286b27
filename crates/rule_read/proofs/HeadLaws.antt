-- The first line of a text: an empty text, a fault in the first line, a head. Assumes nothing.
use Prim.Native.Nat.{ℕ, ◌+◌, ◌-◌, ◌≤◌, ◌<◌}
use mathlib.Core.Path.{◌≡◌, ap, sym, ◌∙◌}
use mathlib.Core.Logic.{◌≢◌}
use mathlib.Core.List.{List}
use native.Mathlib.Omega.{arith}
use lib.ListN.{length, take, drop}
use Rattle.paper.specs.Limits.{Limits}
use Rattle.paper.specs.Told.{refused}
use Rattle.lines.specs.Lines.{line_end_of}
use Rattle.lines.proofs.LinesLaws.{starts_first, starts_next}
use Rattle.table.specs.Check.{TooLarge}
use Rattle.rule_line.specs.Line.{line}
use Rattle.paper.specs.declared.RuleRow.{RuleRow}
use Rattle.paper.specs.declared.Refusal.{Refusal}
use Rattle.rule_line.specs.declared.Line.{Line}
use Rattle.rule_line.specs.declared.Line.TheVariants.{Head, State, Rule, Faulty}
use Rattle.rule_read.specs.Text.{said_by, fault_at}
use Rattle.rule_read.specs.Work.{saying_at, Headed, Answers}
use Rattle.std.specs.Prelude.{Err}
use Rattle.rule_read.proofs.Verdict.{HeadVerdict, shape, state_first_of, rule_first, size, head_fault}
use Rattle.rule_read.proofs.Said.{line_there, line_missing, line_says}
use Rattle.rule_read.proofs.Exact.{text_fault, text_short}
use Rattle.rule_read.proofs.Going.{answers_refused}

module _ (L : Limits) (s : List ℕ) where
  pub text_empty : {x : Refusal} (M W : List ℕ) → length s ≡ 0 → x ≡ record { number = 3; side = 0; place = 1 } → Answers L s (Err x) M W
  text_empty M W h e =
      let n : length (said_by s) ≤ 0 = line_missing (starts_first s) (omega arith) in
      let z : length (said_by s) + 1 ≡ 1 = omega arith in
      answers_refused L s M W e (text_short L s (λ j l. absurd (omega arith)) (omega arith) ∙ ap (refused 3 0) z)

  -- the first line: where it ends, and what it says
  module _ {e : ℕ} {l : Line} (h : 0 < length s) (he : e ≡ line_end_of 0 (drop 0 s)) (hl : l ≡ line (take (e - 0) (drop 0 s))) where
    is_first : l ≡ saying_at (said_by s) 0
    is_first = line_says (starts_first s) he hl

    head_refused : {x : Refusal} {f : ℕ} (M W : List ℕ) → x ≡ record { number = f; side = 0; place = 1 } → f ≢ 0 → HeadVerdict L l f
        → Answers L s (Err x) M W
    unfolding fault_at
    head_refused {x} {f} M W ex d v =
        answers_refused L s M W ex
        (text_fault L s (record {
          inside = line_there (starts_first s) h;
          here = rw (sym is_first) (head_fault L v);
          fault = d;
          before = λ j b. absurd (omega arith);
        }))

    module _ {x : Refusal} (M W : List ℕ) where
      pub head_shape : {i : ℕ} → l ≡ Faulty i → x ≡ record { number = 2; side = 0; place = 1 } → Answers L s (Err x) M W
      head_shape q ex = head_refused M W ex (λ z. omega arith) (rw q shape)

      pub head_state : {a b c : ℕ} → l ≡ State a b c → x ≡ record { number = 3; side = 0; place = 1 } → Answers L s (Err x) M W
      head_state q ex = head_refused M W ex (λ z. omega arith) (rw q state_first_of)

      pub head_rule : {r : RuleRow} → l ≡ Rule r → x ≡ record { number = 3; side = 0; place = 1 } → Answers L s (Err x) M W
      head_rule q ex = head_refused M W ex (λ z. omega arith) (rw q rule_first)

      pub head_large : {y n : ℕ} → l ≡ Head y n → TooLarge L y n 0 → x ≡ record { number = 4; side = 0; place = 1 } → Answers L s (Err x) M W
      head_large q t ex = head_refused M W ex (λ z. omega arith) (rw q (size t))

    pub headed : {y n : ℕ} → l ≡ Head y n → ¬ TooLarge L y n 0 → Headed L s y n e
    headed q t =
        record { says = sym is_first ∙ q; small = t; some = line_there (starts_first s) h; behind = starts_next (starts_first s) h he }
