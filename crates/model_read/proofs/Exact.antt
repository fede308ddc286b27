-- A text tells exactly the refusals 13 and 15 of `SurveyRefused`, and is surveyed exactly where it has none. Assumes nothing.
use Prim.Native.Nat.{ℕ, zero, suc, ◌+◌}
use mathlib.Core.Path.{◌≡◌, refl, sym, ap, ◌∙◌}
use mathlib.Core.Logic.{inl, inr, ⊎_elim, ◌↔◌, by_cases, if_pos, if_neg}
use mathlib.Core.List.{List}
use borrow.Author.Rules.{rules}
use native.Mathlib.Decide.{dec_lt}
use native.Mathlib.Omega.{arith}
use lib.ListN.{length, take}
use Rattle.paper.specs.Limits.{Limits}
use Rattle.paper.specs.Told.{refused, sizes}
use Rattle.paper.proofs.VerdictLaws.{Verdict, first_wrong, first_none, wrong_or_none}
use Rattle.paper.specs.First.{FirstWrong}
use Rattle.paper.proofs.ToldLaws.{refusal_unique, refused_as}
use Rattle.compiled.specs.States.{states}
use Rattle.model.specs.Documents.{Line}
use Rattle.model.specs.Model.{Model}
use Rattle.model_line.specs.Line.{Said, head, content, misshapen}
use Rattle.model_read.specs.Text.{symbols_of, start_of, said_at, symbols_in, said_by, models_of, BadHead, BadSymbol, bad_head?, bad_symbol?}
use Rattle.model_read.specs.Text.{head_fault_of, line_fault_of, fault_at, looked_at, TooManyStates, survey_told, told}
use Rattle.model_read.specs.Text.{HeadWrong, no_head, model_first, head_range, LineWrong, no_shape, second_head, symbol_range, symbol_again}
use Rattle.model_read.specs.Text.{WrongAt, WellFormed, SurveyRefused, malformed, too_many_states}
use Rattle.model_read.specs.declared.Survey.{Survey}
use Rattle.paper.specs.declared.Refusal.{Refusal}
use Rattle.std.specs.Prelude.{Result, Ok, Err}

pub range_only : {L : Limits} {y s : ℕ} → HeadWrong L (head y s) → BadHead L y s
range_only (head_range h) = h

pub symbol_only : {n a : ℕ} {before : List Line} {m : Model} → LineWrong n before (content a m) → BadSymbol n before a
symbol_only (symbol_range h) = inl h
symbol_only (symbol_again h) = inr h

symbol_wrong : {n a : ℕ} {before : List Line} {m : Model} → BadSymbol n before a → LineWrong n before (content a m)
symbol_wrong (inl h) = symbol_range h
symbol_wrong (inr h) = symbol_again h

pub head_verdict : (L : Limits) (x : Said) → Verdict 13 (head_fault_of L x) (HeadWrong L x)
unfolding head_fault_of
head_verdict L (head y s) =
    by_cases (bad_head? L y s) (λ h. inl (if_pos (bad_head? L y s) h _ _, head_range h))
    (λ h. inr (if_neg (bad_head? L y s) h _ _, λ w. h (range_only w)))
head_verdict L (content a m) = inl (refl, model_first)
head_verdict L misshapen = inl (refl, no_head)

pub line_verdict : (n : ℕ) (before : List Line) (x : Said) → Verdict 13 (line_fault_of n before x) (LineWrong n before x)
unfolding line_fault_of
line_verdict n before (head y s) = inl (refl, second_head)
line_verdict n before (content a m) =
    by_cases (bad_symbol? n before a) (λ h. inl (if_pos (bad_symbol? n before a) h _ _, symbol_wrong h))
    (λ h. inr (if_neg (bad_symbol? n before a) h _ _, λ w. h (symbol_only w)))
line_verdict n before misshapen = inl (refl, no_shape)

pub fault_verdict : (L : Limits) (ls : List Said) (k : ℕ) → Verdict 13 (fault_at L ls k) (WrongAt L ls k)
unfolding fault_at
fault_verdict L ls zero = head_verdict L (said_at ls 0)
fault_verdict L ls (suc k) = line_verdict (symbols_of (said_at ls 0)) (models_of (take (suc k) ls)) (said_at ls (suc k))

pub refused_not_sizes : {n d p y s k : ℕ} → sizes y s k ≡ refused n d p → ⊥
refused_not_sizes e = let z : ◌≡◌ {A = ℕ} 0 1 = cc in omega arith

module _ (L : Limits) (s : List ℕ) where
  verdicts : (k : ℕ) → Verdict 13 (fault_at L (said_by L s) k) (WrongAt L (said_by L s) k)
  verdicts k = fault_verdict L (said_by L s) k

  abbrev Fault : ℕ → Type 0
  Fault = FirstWrong (WrongAt L (said_by L s)) (looked_at (said_by L s))

  pub survey_malformed : {k : ℕ} → Fault k → survey_told L s ≡ refused 13 0 (k + 1)
  unfolding survey_told
  survey_malformed {k} h = first_wrong 13 (fault_at L (said_by L s)) _ (λ e. omega arith) verdicts _ k _ h

  pub survey_states : WellFormed L s → TooManyStates L (symbols_in L s) (models_of (said_by L s)) → survey_told L s ≡ refused 15 0 0
  unfolding survey_told
  survey_states w h =
      first_none 13 (fault_at L (said_by L s)) _ (λ e. omega arith) verdicts _ _ w ∙ if_pos (dec_lt _ _) h _ _

  pub survey_sizes : WellFormed L s → ¬ TooManyStates L (symbols_in L s) (models_of (said_by L s))
      → survey_told L s ≡ sizes (symbols_in L s) (start_of (said_at (said_by L s) 0)) (length (states (symbols_in L s) (models_of (said_by L s))))
  unfolding survey_told
  survey_sizes w h =
      first_none 13 (fault_at L (said_by L s)) _ (λ e. omega arith) verdicts _ _ w ∙ if_neg (dec_lt _ _) h _ _

  -- every text is refused or good
  pub data Surveyed : Type 0 where
    refused_with : {n d p : ℕ} → SurveyRefused L s n d p → survey_told L s ≡ refused n d p → Surveyed
    good : WellFormed L s → ¬ TooManyStates L (symbols_in L s) (models_of (said_by L s)) → Surveyed

  pub surveyed : Surveyed
  surveyed = ⊎_elim fault clear (wrong_or_none 13 (fault_at L (said_by L s)) _ (λ e. omega arith) verdicts (looked_at (said_by L s)))
    where
      fault : (k : ℕ) × Fault k → Surveyed
      fault (k, f) = refused_with (malformed f.inside f.wrong f.before) (survey_malformed f)

      clear : WellFormed L s → Surveyed
      clear w =
          by_cases (dec_lt L.states (length (states (symbols_in L s) (models_of (said_by L s)))))
          (λ h. refused_with (too_many_states w h) (survey_states w h)) (λ h. good w h)

  refused_told : {n d p : ℕ} → SurveyRefused L s n d p → survey_told L s ≡ refused n d p
  refused_told (malformed h w b) = survey_malformed (record { inside = h; wrong = w; before = b })
  refused_told (too_many_states w h) = survey_states w h

  pub survey_refused_exactly : (n d p : ℕ) → (survey_told L s ≡ refused n d p) ↔ SurveyRefused L s n d p
  survey_refused_exactly n d p = (λ e. to e surveyed, refused_told)
    where
      to : survey_told L s ≡ refused n d p → Surveyed → SurveyRefused L s n d p
      to e (refused_with r g) = refused_as (SurveyRefused L s) (sym g ∙ e) r
      to e (good w h) = absurd (refused_not_sizes (sym (survey_sizes w h) ∙ e))

pub same_survey : (v w : Survey) → v.symbols ≡ w.symbols → v.start ≡ w.start → v.states ≡ w.states → v ≡ w
same_survey v w f g h = search rules

-- the survey's answer is known by what it tells, so that two answers which its contract allows are equal
told_unique : (a b : Result Survey Refusal) → told a ≡ told b → a ≡ b
told_unique (Ok v) (Ok w) e =
    let f : v.symbols ≡ w.symbols = cc in
    let g : v.start ≡ w.start = cc in
    let h : v.states ≡ w.states = cc in
    ap Ok (same_survey v w f g h)
told_unique (Ok v) (Err x) e = absurd (refused_not_sizes e)
told_unique (Err x) (Ok v) e = absurd (refused_not_sizes (sym e))
told_unique (Err x) (Err z) e = ap Err (refusal_unique x z e)

pub survey_unique : (L : Limits) (s : List ℕ) (a b : Result Survey Refusal) → told a ≡ survey_told L s → told b ≡ survey_told L s → a ≡ b
survey_unique L s a b x y = told_unique a b (x ∙ sym y)
