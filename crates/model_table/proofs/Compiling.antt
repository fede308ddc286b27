-- What turning a text into a table tells and leaves in the slices, from what each call promises. Assumes nothing.
use Prim.Native.Nat.{ℕ, ◌*◌, ◌≤◌, ◌<◌}
use native.Mathlib.Omega.{arith}
use native.Mathlib.Nat.{mul-le-mul_right}
use mathlib.Core.Path.{◌≡◌, refl, sym, ap, ◌∙◌}
use mathlib.Core.Logic.{inl, inr, ⊎_elim, if_pos}
use mathlib.Core.List.{List, ◌++◌}
use lib.ListN.{length, drop, replicate, length-replicate}
use Rattle.paper.specs.Limits.{Limits, limits}
use Rattle.paper.specs.Told.{Told, refused, sizes, refusal, is_refusal, after, filled}
use Rattle.paper.specs.First.{first}
use Rattle.paper.proofs.VerdictLaws.{first_wrong, first_none}
use Rattle.paper.specs.First.{FirstWrong}
use Rattle.put.specs.Put.{Put}
use Rattle.table.specs.Room.{NoRoom}
use Rattle.compiled.specs.States.{states}
use Rattle.compiled.specs.Rules.{rules, numbers}
use Rattle.compiled.specs.Valid.{GoodLines}
use Rattle.compiled.proofs.Rows.{length_numbers}
use Rattle.compiled.proofs.Marks.{length_marks}
use Rattle.model_read.specs.Text.{symbols_in, said_by, survey_told}
use Rattle.model_read.proofs.Exact.{refused_not_sizes, survey_sizes, Surveyed, refused_with, good, surveyed}
use Rattle.model_read.proofs.Good.{well_lines, well_symbols}
use Rattle.model_fill.specs.Ambiguity.{models_in, start_in, ambiguity_at, AmbiguousAt}
use Rattle.model_fill.specs.Kept.{no_symbol_of, Long, Kept}
use Rattle.model_fill.specs.Fill.{Filling, long?, fill_told, refusal_of, FillsStates}
use Rattle.model_fill.specs.Fill as fill
use Rattle.model_fill.specs.declared.Unfilled.{Unfilled}
use Rattle.model_read.specs.declared.Survey.{Survey}
use Rattle.model_fill.proofs.Ambiguities.{ambiguity_verdict}
use Rattle.model_table.specs.Compile.{the_marks_by, rules_by, compile_told, Fit, Compiled, told, Compiles}
use Rattle.model_table.specs.Work.{marks_for, the_numbers_by, Roomy, the_count_by}
use Rattle.std.specs.Prelude.{Ok, Err}
use Rattle.model_table.proofs.Rest.{front_put}
use Rattle.model_table.proofs.ByKept.{numbers_by, count_by, marks_by}
use Rattle.model_table.proofs.Exact.{compile_survey, compile_ambiguous, compile_rules, compile_table, first_ambiguous}

-- a refusal leaves the slices as they were
pub compiles_refused : (L : Limits) (s M W : List ℕ) {r : Compiled} {n d p : ℕ} → told r ≡ refused n d p → compile_told L s M W ≡ refused n d p
    → Compiles L s M W r M W
unfolding filled is_refusal
compiles_refused L s M W e t = record { answer = e ∙ sym t; marks = rw t refl; rules = rw t refl }

-- slices of zeros have their lengths
pub empty_long : Long limits.states (replicate limits.states 0) (replicate limits.states 0) (replicate limits.states 0)
    (replicate (limits.states * limits.states) 0)
empty_long = record { bears = zeros; owners = zeros; ends = zeros; next = length-replicate {A = ℕ} (limits.states * limits.states) 0 }
  where
    zeros : length (replicate {A = ℕ} limits.states 0) ≡ limits.states
    zeros = length-replicate {A = ℕ} limits.states 0

module _ (L : Limits) (s M W : List ℕ) {B O E N : List ℕ} (room : ¬ NoRoom L M W) (long : Long L.states B O E N) where
  fill_is : {t : Told} → survey_told L s ≡ t → fill_told L s B O E N ≡ after t (first (ambiguity_at (said_by L s)) (length (said_by L s)) t)
  unfolding fill_told
  fill_is e = if_pos (long? L.states B O E N) long _ _ ∙ rw e refl

  -- filling and compiling refuse alike; or the text has its sizes
  data Alike : Type 0 where
    refused_both : {n d p : ℕ} → fill_told L s B O E N ≡ refused n d p → compile_told L s M W ≡ refused n d p → Alike
    sized : Fit L s M W → ((j : ℕ) → ¬ AmbiguousAt (said_by L s) j)
        → fill_told L s B O E N ≡ sizes (symbols_in L s) (start_in L s) (length (states (symbols_in L s) (models_in L s))) → Alike

  alike : Alike
  unfolding after is_refusal models_in start_in
  alike = look (surveyed L s)
    where
      ambiguous : (f : Fit L s M W) → (k : ℕ) × FirstWrong (AmbiguousAt (said_by L s)) (length (said_by L s)) k → Alike
      ambiguous f (k, w) =
          refused_both
          (fill_is (survey_sizes L s f.well_formed f.states)
          ∙ first_wrong 14 (ambiguity_at (said_by L s)) (AmbiguousAt (said_by L s)) (λ e. omega arith) (ambiguity_verdict (said_by L s))
          (length (said_by L s)) k _ w)
          (compile_ambiguous L s M W f w)

      clear : (f : Fit L s M W) → ((j : ℕ) → ¬ AmbiguousAt (said_by L s) j) → Alike
      clear f h =
          sized f h
          (fill_is (survey_sizes L s f.well_formed f.states)
          ∙ first_none 14 (ambiguity_at (said_by L s)) (AmbiguousAt (said_by L s)) (λ e. omega arith) (ambiguity_verdict (said_by L s))
          (length (said_by L s)) _ (λ j l. h j))

      look : Surveyed L s → Alike
      look (refused_with r e) = refused_both (fill_is e) (compile_survey L s M W room e)
      look (good w t) =
          let f : Fit L s M W = record { room = room; well_formed = w; states = t } in
          ⊎_elim (ambiguous f) (clear f) (first_ambiguous L s M W)

  module _ {q : Filling} {B' O' E' N' : List ℕ} (fills : FillsStates L s B O E N q B' O' E' N') where
    -- what the filling tells as a refusal is what is told
    refused_told : {a d p : ℕ} → fill.told q ≡ refused a d p → compile_told L s M W ≡ refused a d p
    refused_told {a} {d} {p} e = go alike
      where
        tells : fill_told L s B O E N ≡ refused a d p
        tells = sym fills.answer ∙ e

        go : Alike → compile_told L s M W ≡ refused a d p
        go (refused_both f c) = c ∙ sym f ∙ tells
        go (sized f h g) = absurd (refused_not_sizes (sym g ∙ tells))

    pub fill_refused : {u : Unfilled} → q ≡ Err u → compile_told L s M W ≡ refusal (refusal_of u)
    unfolding fill.told
    fill_refused e = refused_told (ap fill.told e)

    module _ {v : Survey} (e : q ≡ Ok v) where
      record Read : Type 0 where
        fit : Fit L s M W
        clear : (j : ℕ) → ¬ AmbiguousAt (said_by L s) j
        symbols : v.symbols ≡ symbols_in L s
        start : v.start ≡ start_in L s
        count : v.states ≡ length (states (symbols_in L s) (models_in L s))

      read : Read
      unfolding fill.told
      read = go alike
        where
          tells : fill_told L s B O E N ≡ sizes v.symbols v.start v.states
          tells = sym fills.answer ∙ ap fill.told e

          go : Alike → Read
          go (refused_both f c) = absurd (refused_not_sizes (sym tells ∙ f))
          go (sized f h g) =
              let w = sym tells ∙ g in
              let a : v.symbols ≡ symbols_in L s = cc in
              let b : v.start ≡ start_in L s = cc in
              let c : v.states ≡ length (states (symbols_in L s) (models_in L s)) = cc in
              record { fit = f; clear = h; symbols = a; start = b; count = c }

      pub states_few : v.states ≤ L.states
      states_few = let f = read.fit.states in omega (arith, read.count)

      pub still_long : Long L.states B' O' E' N'
      still_long = (fills.whole e).long

      pub marks_room : v.states ≤ length M
      marks_room = roomy read.fit.room
        where
          roomy : ¬ NoRoom L M W → v.states ≤ length M
          roomy h = let g : ¬ (length M < L.states) = λ x. h (inl x) in omega (arith, states_few)

      module _ (small : L.symbols ≤ no_symbol_of) (four : L.width ≡ 4) where
        good_lines : GoodLines v.symbols (models_in L s)
        unfolding models_in
        good_lines = rw read.symbols (well_lines L s read.fit.well_formed)

        few_symbols : v.symbols ≤ no_symbol_of
        few_symbols = omega (arith, read.symbols, (well_symbols L s read.fit.well_formed).1)

        same_states : v.states ≡ length (states v.symbols (models_in L s))
        same_states = rw read.symbols read.count

        kept : Kept L.states (states v.symbols (models_in L s)) B' O' E' N'
        kept = rw read.symbols (fills.whole e)

        within : length (states v.symbols (models_in L s)) ≤ L.states
        within = omega (arith, states_few, same_states)

        pub all_counted : the_count_by L.states v.states B' O' E' N' ≡ length (rules (symbols_in L s) (models_in L s))
        all_counted =
            ap (λ (i : ℕ). the_count_by L.states i B' O' E' N') same_states ∙ count_by good_lines few_symbols within kept
            ∙ ap (λ (i : ℕ). length (rules i (models_in L s))) read.symbols

        all_numbers : the_numbers_by L.states v.symbols v.states B' O' E' N' ≡ rules_by L s
        unfolding the_numbers_by rules_by
        all_numbers =
            ap (λ (i : ℕ). the_numbers_by L.states v.symbols i B' O' E' N') same_states ∙ numbers_by good_lines few_symbols within kept
            ∙ ap (λ (i : ℕ). numbers (rules i (models_in L s))) read.symbols

        module _ {count : ℕ} (c : count ≡ the_count_by L.states v.states B' O' E' N') where
          counts : count ≡ length (rules (symbols_in L s) (models_in L s))
          counts = c ∙ all_counted

          pub too_many : L.rules < count → compile_told L s M W ≡ refused 16 0 0
          too_many h = compile_rules L s M W read.fit read.clear (omega (arith, counts))

          module _ (few : count ≤ L.rules) where
            size : length (rules_by L s) ≡ count * L.width
            unfolding rules_by
            size = length_numbers (rules (symbols_in L s) (models_in L s)) ∙ ap (λ (i : ℕ). i * 4) (sym counts) ∙ ap (λ (w : ℕ). count * w) (sym four)

            room_rules : length (rules_by L s) ≤ length W
            room_rules = roomy read.fit.room
              where
                roomy : ¬ NoRoom L M W → length (rules_by L s) ≤ length W
                roomy h =
                    let g : ¬ (length W < L.rules * L.width) = λ x. h (inr x) in
                    omega (arith, size, mul-le-mul_right L.width few)

            pub rules_room : Roomy L.states v.symbols v.states B' O' E' N' W
            rules_room = rw all_numbers room_rules

            pub compiles_table : {M' W' : List ℕ} {z : ℕ} → M' ≡ marks_for v.symbols v.start v.states ++ drop v.states M
                → Put W 0 (the_numbers_by L.states v.symbols v.states B' O' E' N') z W' → Compiles L s M W (Ok (record { symbols = v.symbols; states = v.states; rules = count })) M' W'
            unfolding filled is_refusal the_marks_by
            compiles_table {M'} {W'} m p =
                let tells = compile_table L s M W read.fit read.clear (λ h. let k = counts in omega arith) in
                let marked : marks_for v.symbols v.start v.states ≡ the_marks_by L s =
                rw (read.symbols, read.start, read.count) (marks_by (symbols_in L s) (start_in L s) (models_in L s)) in
                let long-marks : length (the_marks_by L s) ≡ v.states =
                length_marks (start_in L s) (symbols_in L s) (models_in L s) ∙ sym read.count in
                record {
                  answer = rw (read.symbols, read.count, counts) (sym tells);
                  marks = m ∙ rw (marked, tells, long-marks) refl;
                  rules = front_put (rules_by L s) room_rules (rw all_numbers at p) ∙ rw tells refl;
                }
