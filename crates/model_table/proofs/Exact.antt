-- Exactly the refusals of `CompileRefused` are told, 14 of a fit text exactly if a model is ambiguous; one answer each. Assumes nothing.
use Prim.Native.Nat.{ℕ, ◌+◌}
use mathlib.Core.Path.{◌≡◌, sym, ap, ◌∙◌}
use mathlib.Core.Logic.{◌⊎◌, inl, inr, ⊎_elim, ◌↔◌, by_cases, ite, if_pos, if_neg}
use mathlib.Core.List.{List}
use native.Mathlib.Decide.{dec_lt}
use native.Mathlib.Omega.{arith}
use lib.ListN.{length}
use Rattle.paper.specs.Limits.{Limits}
use Rattle.paper.specs.Told.{Told, refused, holds, is_refusal, after}
use Rattle.paper.specs.First.{first}
use Rattle.paper.proofs.VerdictLaws.{first_wrong, first_none, wrong_or_none}
use Rattle.paper.specs.First.{FirstWrong}
use Rattle.paper.proofs.ToldLaws.{refusal_unique, refused_as}
use Rattle.table.specs.Room.{NoRoom, no_room?}
use Rattle.model_line.specs.Line.{Said}
use Rattle.compiled.specs.States.{states}
use Rattle.compiled.specs.Rules.{rules}
use Rattle.model_read.specs.Text.{symbols_in, said_by, survey_told}
use Rattle.model_read.proofs.Exact.{survey_sizes, survey_refused_exactly, Surveyed, refused_with, good, surveyed}
use Rattle.model_fill.specs.Ambiguity.{models_in, ambiguity_at, AmbiguousAt}
use Rattle.model_fill.proofs.Ambiguities.{ambiguity_verdict, ambiguous_inside}
use Rattle.model_table.specs.Compile.{TooManyRules, model_told, compile_told, Fit}
use Rattle.model_table.specs.Compile.{CompileRefused, short_slice, bad_text, ambiguous_model, too_many_rules, Compiled, told, Compiles}
use Rattle.std.specs.Prelude.{Ok, Err}
use Rattle.table.specs.declared.Sizes.{Sizes}
use borrow.Author.Rules.{rules as all_rules}

refused_not_holds : {n d p y m r : ℕ} → holds y m r ≡ refused n d p → ⊥
refused_not_holds e = let z : ◌≡◌ {A = ℕ} 0 1 = cc in omega arith

sixteen_not : {p : ℕ} → refused 16 0 0 ≡ refused 14 0 p → ⊥
sixteen_not e = let z : ◌≡◌ {A = ℕ} 16 14 = cc in omega arith

module _ (L : Limits) (s M W : List ℕ) where
  abbrev ls : List Said
  ls = said_by L s

  abbrev None : Type 0
  None = (j : ℕ) → ¬ AmbiguousAt ls j

  -- what is told, case by case
  pub compile_short : NoRoom L M W → compile_told L s M W ≡ refused 1 0 0
  unfolding compile_told
  compile_short h = if_pos (no_room? L M W) h _ _

  pub compile_survey : {n d p : ℕ} → ¬ NoRoom L M W → survey_told L s ≡ refused n d p → compile_told L s M W ≡ refused n d p
  unfolding compile_told model_told after is_refusal
  compile_survey h e = if_neg (no_room? L M W) h _ _ ∙ rw e

  abbrev rest : Told
  rest = ite (dec_lt L.rules (length (rules (symbols_in L s) (models_in L s)))) (refused 16 0 0)
      (holds (symbols_in L s) (length (states (symbols_in L s) (models_in L s))) (length (rules (symbols_in L s) (models_in L s))))

  compile_fit : Fit L s M W → compile_told L s M W ≡ first (ambiguity_at ls) (length ls) rest
  unfolding compile_told model_told after is_refusal models_in
  compile_fit f = if_neg (no_room? L M W) f.room _ _ ∙ rw (survey_sizes L s f.well_formed f.states)

  pub compile_ambiguous : {k : ℕ} → Fit L s M W → FirstWrong (AmbiguousAt ls) (length ls) k → compile_told L s M W ≡ refused 14 0 (k + 1)
  compile_ambiguous {k} f h =
      compile_fit f ∙ first_wrong 14 (ambiguity_at ls) (AmbiguousAt ls) (λ e. omega arith) (ambiguity_verdict ls) (length ls) k rest h

  compile_clear : Fit L s M W → None → compile_told L s M W ≡ rest
  compile_clear f h =
      compile_fit f
      ∙ first_none 14 (ambiguity_at ls) (AmbiguousAt ls) (λ e. omega arith) (ambiguity_verdict ls) (length ls) rest (λ j l. h j)

  pub compile_rules : Fit L s M W → None → TooManyRules L s → compile_told L s M W ≡ refused 16 0 0
  compile_rules f h t = compile_clear f h ∙ if_pos (dec_lt _ _) t _ _

  pub compile_table : Fit L s M W → None → ¬ TooManyRules L s
      → compile_told L s M W ≡ holds (symbols_in L s) (length (states (symbols_in L s) (models_in L s)))
      (length (rules (symbols_in L s) (models_in L s)))
  compile_table f h t = compile_clear f h ∙ if_neg (dec_lt _ _) t _ _

  -- a model is ambiguous, the first of its kind, or none is
  pub first_ambiguous : ((k : ℕ) × FirstWrong (AmbiguousAt ls) (length ls) k) ⊎ None
  first_ambiguous = ⊎_elim inl (λ h. inr (λ j w. h j (ambiguous_inside ls j w) w))
      (wrong_or_none 14 (ambiguity_at ls) (AmbiguousAt ls) (λ e. omega arith) (ambiguity_verdict ls) (length ls))

  -- every text is refused or compiled
  pub data Compiling : Type 0 where
    is_refused : {n d p : ℕ} → CompileRefused L s M W n d p → Compiling
    is_table : Fit L s M W → None → ¬ TooManyRules L s → Compiling

  pub of_refused : {n d p : ℕ} → CompileRefused L s M W n d p → compile_told L s M W ≡ refused n d p
  of_refused (short_slice h) = compile_short h
  of_refused (bad_text {n = n} {d = d} {p = p} h r) = compile_survey h ((survey_refused_exactly L s n d p).1 r)
  of_refused (ambiguous_model {k = k} f w b) =
      compile_ambiguous f (record { inside = ambiguous_inside ls k w; wrong = w; before = b })
  of_refused (too_many_rules f h t) = compile_rules f h t

  pub compiling : Compiling
  unfolding models_in
  compiling = by_cases (no_room? L M W) (λ h. is_refused (short_slice h)) (λ h. look h (surveyed L s))
    where
      table : Fit L s M W → None → Compiling
      table f h = by_cases (dec_lt L.rules (length (rules (symbols_in L s) (models_in L s))))
          (λ t. is_refused (too_many_rules f h t)) (λ t. is_table f h t)

      ambiguous : Fit L s M W → (k : ℕ) × FirstWrong (AmbiguousAt ls) (length ls) k → Compiling
      ambiguous f (k, w) = is_refused (ambiguous_model f w.wrong w.before)

      look : ¬ NoRoom L M W → Surveyed L s → Compiling
      look h (refused_with r e) = is_refused (bad_text h r)
      look h (good w t) =
          let f : Fit L s M W = record { room = h; well_formed = w; states = t } in
          ⊎_elim (ambiguous f) (table f) first_ambiguous

  pub compile_refused_exactly : (n d p : ℕ) → (compile_told L s M W ≡ refused n d p) ↔ CompileRefused L s M W n d p
  compile_refused_exactly n d p = (λ e. to e compiling, of_refused)
    where
      to : compile_told L s M W ≡ refused n d p → Compiling → CompileRefused L s M W n d p
      to e (is_refused r) = refused_as (CompileRefused L s M W) (sym (of_refused r) ∙ e) r
      to e (is_table f h t) = absurd (refused_not_holds (sym (compile_table f h t) ∙ e))

  -- a well-formed text within the limit of states, with room, is refused as ambiguous exactly if a model is ambiguous
  pub ambiguous_told : Fit L s M W → ((p : ℕ) × (compile_told L s M W ≡ refused 14 0 p)) ↔ ((k : ℕ) × AmbiguousAt ls k)
  ambiguous_told f = (λ e. to e first_ambiguous, λ w. back w first_ambiguous)
    where
      none : {p : ℕ} → None → compile_told L s M W ≡ refused 14 0 p → ⊥
      none h e = by_cases (dec_lt L.rules (length (rules (symbols_in L s) (models_in L s))))
          (λ t. sixteen_not (sym (compile_rules f h t) ∙ e)) (λ t. refused_not_holds (sym (compile_table f h t) ∙ e))

      to : (p : ℕ) × (compile_told L s M W ≡ refused 14 0 p)
          → ((k : ℕ) × FirstWrong (AmbiguousAt ls) (length ls) k) ⊎ None → (k : ℕ) × AmbiguousAt ls k
      to (p, e) (inl (k, w)) = (k, w.wrong)
      to (p, e) (inr h) = absurd (none h e)

      back : (k : ℕ) × AmbiguousAt ls k → ((k : ℕ) × FirstWrong (AmbiguousAt ls) (length ls) k) ⊎ None
          → (p : ℕ) × (compile_told L s M W ≡ refused 14 0 p)
      back (k, w) (inl (j, v)) = (j + 1, compile_ambiguous f v)
      back (k, w) (inr h) = absurd (h k w)

same_sizes : (x z : Sizes) → x.symbols ≡ z.symbols → x.states ≡ z.states → x.rules ≡ z.rules → x ≡ z
same_sizes x z f g h = search all_rules

-- an answer is known by what it tells
told_unique : (a b : Compiled) → told a ≡ told b → a ≡ b
told_unique (Ok x) (Ok z) e =
    let f : x.symbols ≡ z.symbols = cc in
    let g : x.states ≡ z.states = cc in
    let h : x.rules ≡ z.rules = cc in
    ap Ok (same_sizes x z f g h)
told_unique (Ok x) (Err r) e = absurd (refused_not_holds e)
told_unique (Err r) (Ok x) e = absurd (refused_not_holds (sym e))
told_unique (Err x) (Err z) e = ap Err (refusal_unique x z e)

pub compiles_unique : (L : Limits) (s M W : List ℕ) (a b : Compiled) (M₁ W₁ M₂ W₂ : List ℕ)
    → Compiles L s M W a M₁ W₁ → Compiles L s M W b M₂ W₂ → (a ≡ b) × (M₁ ≡ M₂) × (W₁ ≡ W₂)
compiles_unique L s M W a b M₁ W₁ M₂ W₂ v w =
    (told_unique a b (v.answer ∙ sym w.answer), v.marks ∙ sym w.marks, v.rules ∙ sym w.rules)
