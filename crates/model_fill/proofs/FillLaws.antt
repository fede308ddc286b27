-- What the text tells and the slices hold, from what each call promises; and that both are then known. Assumes nothing.
use Prim.Native.Nat.{ℕ, ◌≤◌, ◌<◌}
use native.Mathlib.Omega.{arith}
use mathlib.Core.Path.{◌≡◌, refl, sym, ap, ◌∙◌}
use mathlib.Core.Logic.{if_pos, if_neg}
use mathlib.Core.List.{List}
use lib.ListN.{length}
use Rattle.paper.specs.Limits.{Limits}
use Rattle.paper.specs.Told.{refused, sizes, is_refusal, after}
use Rattle.paper.specs.declared.Refusal.{Refusal}
use Rattle.paper.specs.First.{first}
use Rattle.paper.proofs.VerdictLaws.{first_wrong, first_none}
use Rattle.model_read.specs.Text.{said_by, survey_told}
use Rattle.model_read.specs.Text as survey
use Rattle.model_read.specs.declared.Survey.{Survey}
use Rattle.std.specs.Prelude.{Option, Some, None, Result, Ok, Err}
use Rattle.model_read.proofs.Exact.{survey_refused_exactly}
use Rattle.model_read.proofs.Good.{survey_known, survey_refused}
use Rattle.model_fill.specs.Ambiguity.{models_in, ambiguity_at, AmbiguousAt}
use Rattle.model_fill.specs.Kept.{Long}
use Rattle.model_fill.specs.Work.{Ready, AddsAll}
use Rattle.model_fill.specs.Fill.{Filling, long?, fill_told, told, FillsStates}
use Rattle.model_fill.specs.declared.Unfilled.TheVariants.{Ambiguous, Refused, Unfit}
use Rattle.model_fill.proofs.Ambiguities.{ambiguity_verdict}

-- the answers are told apart
refused_sizes : {v : Survey} {x : Refusal} → ◌≡◌ {A = Filling} (Err (Refused x)) (Ok v) → ⊥
refused_sizes e = let z : ◌≡◌ {A = ℕ} 0 1 = cc in omega arith

refused_ambiguous : {k : ℕ} {x : Refusal} → ◌≡◌ {A = Filling} (Err (Refused x)) (Err (Ambiguous k)) → ⊥
refused_ambiguous e = let z : ◌≡◌ {A = ℕ} 0 1 = cc in omega arith

refused_unfit : {x : Refusal} → ◌≡◌ {A = Filling} (Err (Refused x)) (Err Unfit) → ⊥
refused_unfit e = let z : ◌≡◌ {A = ℕ} 0 1 = cc in omega arith

ambiguous_sizes : {k : ℕ} {v : Survey} → ◌≡◌ {A = Filling} (Err (Ambiguous k)) (Ok v) → ⊥
ambiguous_sizes e = let z : ◌≡◌ {A = ℕ} 0 1 = cc in omega arith

ambiguous_unfit : {k : ℕ} → ◌≡◌ {A = Filling} (Err (Ambiguous k)) (Err Unfit) → ⊥
ambiguous_unfit e = let z : ◌≡◌ {A = ℕ} 0 1 = cc in omega arith

sizes_unfit : {v : Survey} → ◌≡◌ {A = Filling} (Ok v) (Err Unfit) → ⊥
sizes_unfit e = let z : ◌≡◌ {A = ℕ} 0 1 = cc in omega arith

same_refusal : {x y : Refusal} → ◌≡◌ {A = Filling} (Err (Refused x)) (Err (Refused y)) → x ≡ y
same_refusal e = cc

same_line : {k j : ℕ} → ◌≡◌ {A = Filling} (Err (Ambiguous k)) (Err (Ambiguous j)) → k ≡ j
same_line e = cc

module _ (L : Limits) (s : List ℕ) {B O E N : List ℕ} where
  pub fills_unfit : {r : Filling} → ¬ Long L.states B O E N → r ≡ Err Unfit → FillsStates L s B O E N r B O E N
  unfolding fill_told told
  fills_unfit {r} h e =
      record {
        answer = ap told e ∙ sym (if_neg (long? L.states B O E N) h _ _);
        whole = λ q. absurd (sizes_unfit (sym q ∙ e));
        ambiguous = λ q. absurd (ambiguous_unfit (sym q ∙ e));
        refuses = λ {x} q. absurd (refused_unfit (sym q ∙ e));
        unfit = λ q. (h, (refl, (refl, (refl, refl))));
      }

  module _ (long : Long L.states B O E N) {q : Result Survey Refusal} (tells : survey.told q ≡ survey_told L s) where
    pub fills_refused : {r : Filling} {x : Refusal} → q ≡ Err x → r ≡ Err (Refused x) → FillsStates L s B O E N r B O E N
    unfolding fill_told told after is_refusal
    fills_refused {r} {x} e f =
        let g = survey_refused L s tells e in
        record {
          answer = ap told f ∙ sym (if_pos (long? L.states B O E N) long _ _ ∙ rw g refl);
          whole = λ i. absurd (refused_sizes (sym f ∙ i));
          ambiguous = λ i. absurd (refused_ambiguous (sym f ∙ i));
          refuses = λ {x = z} i.
              (rw (same_refusal (sym i ∙ f)) ((survey_refused_exactly L s x.number x.side x.place).0 g), (refl, (refl, (refl, refl))));
          unfit = λ i. absurd (refused_unfit (sym f ∙ i));
        }

    module _ {v : Survey} (e : q ≡ Ok v) where
      pub fills_ready : Ready L s v.symbols
      unfolding models_in
      fills_ready =
          let k = survey_known L s tells e in
          let a = k.symbols in
          let b = k.few in
          let c = k.states in
          record { symbols = a; well_formed = k.well_formed; states = λ h. few (rw a at h) b c }
        where
          few : {i j : ℕ} → L.states < i → j ≤ L.states → j ≡ i → ⊥
          few h b c = omega arith

      goes_on : fill_told L s B O E N ≡ first (ambiguity_at (said_by L s)) (length (said_by L s)) (sizes v.symbols v.start v.states)
      unfolding fill_told after is_refusal
      goes_on =
          let g : survey_told L s ≡ sizes v.symbols v.start v.states = sym tells ∙ ap survey.told e in
          if_pos (long? L.states B O E N) long _ _ ∙ rw g refl

      module _ {line : Option ℕ} {B' O' E' N' : List ℕ} (all : AddsAll L s line B' O' E' N') where
        pub fills_ambiguous : {r : Filling} {i : ℕ} → line ≡ Some i → r ≡ Err (Ambiguous i) → FillsStates L s B O E N r B' O' E' N'
        unfolding told
        fills_ambiguous {r} {i} d f =
            let w = all.ambiguous d in
            record {
              answer = ap told f ∙ ap (λ (i : ℕ). refused 14 0 i) w.1
                  ∙ sym (goes_on ∙ first_wrong 14 (ambiguity_at (said_by L s)) (AmbiguousAt (said_by L s)) (λ z. omega arith)
                  (ambiguity_verdict (said_by L s)) (length (said_by L s)) w.0 (sizes v.symbols v.start v.states) w.2);
              whole = λ i. absurd (ambiguous_sizes (sym f ∙ i));
              ambiguous = λ i. rw (same_line (sym i ∙ f)) w.3;
              refuses = λ {x} i. absurd (refused_ambiguous (sym i ∙ f));
              unfit = λ i. absurd (ambiguous_unfit (sym f ∙ i));
            }

        pub fills_whole : {r : Filling} → line ≡ None → r ≡ Ok v → FillsStates L s B O E N r B' O' E' N'
        unfolding told
        fills_whole {r} z f =
            let w = all.whole z in
            record {
              answer = ap told f
                  ∙ sym (goes_on ∙ first_none 14 (ambiguity_at (said_by L s)) (AmbiguousAt (said_by L s)) (λ z. omega arith)
                  (ambiguity_verdict (said_by L s)) (length (said_by L s)) (sizes v.symbols v.start v.states) (λ j h. w.0 j));
              whole = λ i. w.1;
              ambiguous = λ i. absurd (ambiguous_sizes (sym i ∙ f));
              refuses = λ {x} i. absurd (refused_sizes (sym i ∙ f));
              unfit = λ i. absurd (sizes_unfit (sym f ∙ i));
            }
