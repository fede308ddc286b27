-- The loop over the M lines of a text, as laws: what holds at its head, one more line, and its ends. Assumes nothing.
use Prim.Native.Nat.{ℕ, suc, ◌+◌, ◌-◌, ◌≤◌, ◌<◌}
use native.Mathlib.Omega.{arith}
use native.Mathlib.Decide.{dec_lt, ℕ_discrete}
use native.Mathlib.Numerals.{add-one}
use mathlib.Core.Path.{◌≡◌, refl, sym, ap, subst, ◌∙◌}
use mathlib.Core.Logic.{◌≢◌, by_cases}
use mathlib.Core.Bool.{Bool, true, false}
use mathlib.Core.Option.{none}
use mathlib.Core.List.{List, [], ◌∷◌, ◌++◌}
use lib.ListN.{length, take, drop}
use Rattle.std.specs.Prelude.{Some, None}
use Rattle.std.proofs.lemmas.Option.{none-some, same_Some}
use Rattle.paper.specs.Limits.{Limits}
use Rattle.paper.specs.Told.{Tells}
use Rattle.lines.specs.Lines.{line_end_of, line_at, Starts}
use Rattle.lines.proofs.LinesLaws.{starts_first, starts_next, line_part}
use Rattle.model.specs.Model.{places, Ambiguous}
use Rattle.model_line.specs.Line.{content, says}
use Rattle.model_clash.specs.Like.{Clash}
use Rattle.compiled.specs.States.{State, element, inside, insides, states, the_state_at, may_end, goes_on_of}
use Rattle.model.specs.Documents.{Line, model_of}
use Rattle.compiled.specs.Valid.{GoodLines}
use Rattle.compiled.proofs.Lines.{none_some, lines_distinct}
use Rattle.compiled.proofs.Counts.{length_states_none, length_states_more, states_more}
use Rattle.compiled.proofs.Numbers.{inside_model, state_element}
use Rattle.model_read.specs.Text.{symbols_in, said_at, said_by, models_of}
use Rattle.model_read.proofs.Said.{saying, line_there, line_missing}
use Rattle.model_read.proofs.Models.{models_more, models_all, states_front, new_model}
use Rattle.model_read.proofs.Good.{ModelLine, well_some, well_line, well_to, well_first, well_head, well_symbols, well_lines, well_rows}
use Rattle.model_read.proofs.Few.{lines_few}
use Rattle.model_sets.specs.Sets.{flag}
use Rattle.model_fill.specs.Ambiguity.{models_in, AmbiguousAt}
use Rattle.model_fill.specs.Kept.{no_symbol_of, borne, belongs_to, Kept}
use Rattle.model_fill.specs.Work.{Adds, Ready, KeptTo, AddsAll}
use Rattle.model_fill.proofs.StateLaws.{state_none, goes_none}
use Rattle.model_fill.proofs.Clashing.{clash_exactly}
use Rattle.model_fill.proofs.Ambiguities.{head_content, content_model, ambiguous_inside}

-- the elements alone are kept as nothing is
module _ (n : ℕ) where
  only_elements : (q : ℕ) → (a : ℕ) × (the_state_at (states n []) q ≡ element a)
  only_elements q =
      by_cases (dec_lt q n) (λ h. (q, state_element n [] q h))
      (λ h. (0, state_none (states n []) q (let l = length_states_none n in omega arith)))

  same_kept : {A : Type 0} (f : State → A) (c : A) → ((a : ℕ) → f (element a) ≡ c) → (q : ℕ) → f (the_state_at [] q) ≡ f (the_state_at (states n []) q)
  same_kept f c e q =
      let s = only_elements q in
      ap f (state_none [] q (omega arith)) ∙ e 0 ∙ sym (ap f s.1 ∙ e s.0)

  pub kept_elements : {stride : ℕ} {B O E N : List ℕ} → Kept stride [] B O E N → Kept stride (states n []) B O E N
  unfolding borne belongs_to may_end goes_on_of
  kept_elements {stride} k =
      record {
        long = k.long;
        bearing = λ q h. k.bearing q h ∙ same_kept borne no_symbol_of (λ a. refl) q;
        owning = λ q h. k.owning q h ∙ same_kept belongs_to no_symbol_of (λ a. refl) q;
        ending = λ q h. k.ending q h ∙ ap flag (same_kept may_end false (λ a. refl) q);
        coming = λ q y h g. k.coming q y h g
            ∙ ap flag (same_kept (λ s. goes_on_of s (the_state_at [] y)) false (λ a. refl) q
            ∙ same_kept (goes_on_of (the_state_at (states n []) q)) false (λ a. goes_none (the_state_at (states n []) q) a) y);
      }

-- no state of these lines belongs to a symbol without a line
pub fresh_symbol : (n : ℕ) (ms : List Line) (a : ℕ) → GoodLines n ms → model_of ms a ≡ none → a < no_symbol_of
    → (q : ℕ) → q < length (states n ms) → belongs_to (the_state_at (states n ms) q) ≢ a
unfolding belongs_to
fresh_symbol n ms a g o l q h = go (the_state_at (states n ms) q) refl
  where
    go : (s : State) → the_state_at (states n ms) q ≡ s → belongs_to s ≢ a
    go (element b) e z = omega arith
    go (inside b m i) e z =
        none_some (sym o ∙ ap (model_of ms) (sym z) ∙ inside_model (lines_distinct g) (record { below = h; is = e }))

clash_as : {stride u v u' v' : ℕ} {B N : List ℕ} → u ≡ u' → v ≡ v' → Clash stride B N u v → Clash stride B N u' v'
clash_as {stride} {u} {v} {u'} {v'} {B} {N} p q c = subst (λ (i : ℕ). Clash stride B N u' i) q (subst (λ (i : ℕ). Clash stride B N i v) p c)

pub record Going (L : Limits) (s : List ℕ) (n at k base : ℕ) (B O E N : List ℕ) : Type 0 where
  pub ready : Ready L s n
  pub starts : Starts s k at
  pub behind : 1 ≤ k
  pub inside : k ≤ length (said_by L s)
  pub clear : (j : ℕ) → j < k → ¬ AmbiguousAt (said_by L s) j
  pub kept : Kept L.states (states n (models_of (take k (said_by L s)))) B O E N
  pub count : base ≡ length (states n (models_of (take k (said_by L s))))

module _ (L : Limits) (small : L.symbols ≤ no_symbol_of) where
  -- a text that is ready has a first line
  pub second_line : {s : List ℕ} {n e : ℕ} → Ready L s n → e ≡ line_end_of 0 (drop 0 s) → Starts s 1 e
  second_line {s} r q =
      starts_next (starts_first s)
      (by_cases (dec_lt 0 (length s)) (λ h. h) (λ h. absurd (let m = line_missing L (starts_first s) (omega arith) in let w = well_some L s r.well_formed in omega arith)))
      q

  pub going_start : {s : List ℕ} {n at : ℕ} {B O E N : List ℕ} → Ready L s n → Kept L.states [] B O E N → Starts s 1 at
      → Going L s n at 1 n B O E N
  going_start {s} {n} r k g =
      let w = r.well_formed in
      let e = well_first L s w in
      record {
        ready = r;
        starts = g;
        behind = omega arith;
        inside = well_some L s w;
        clear = λ j h x. let z : j ≡ 0 = omega arith in head_content (sym (well_head L s w).says ∙ sym (ap (said_at (said_by L s)) z) ∙ x.says);
        kept = rw e (kept_elements n k);
        count = rw e (sym (length_states_none n));
      }

  pub going_few : {s : List ℕ} {n at k base : ℕ} {B O E N : List ℕ} → Going L s n at k base B O E N → k ≤ suc L.symbols
  going_few {s} g =
      let w = g.ready.well_formed in
      omega (arith, g.inside, well_rows L s w, lines_few (well_lines L s w), (well_symbols L s w).1)

  module _ {s : List ℕ} {n at k base : ℕ} {B O E N : List ℕ} (g : Going L s n at k base B O E N) (h : at < length s) where
    abbrev ms : List Line
    ms = models_of (take k (said_by L s))

    there : k < length (said_by L s)
    there = line_there L g.starts h

    is_next : suc (k - 1) ≡ k
    is_next = let b = g.behind in omega arith

    -- the line says a model
    this : ModelLine (symbols_in L s) ms (said_at (said_by L s) k)
    this = rw is_next at (well_line L s g.ready.well_formed (k - 1) (rw is_next there))

    abbrev ln : Line
    ln = record { of = this.symbol; model = this.model }

    good : GoodLines n ms
    good = rw (is_next, sym g.ready.symbols) at (well_to L s g.ready.well_formed (k - 1) (omega (arith, there, is_next))).lines

    more : models_of (take (k + 1) (said_by L s)) ≡ ms ++ (ln ∷ [])
    more = rw (add-one k) (models_more (said_by L s) k this.says there)

    more_states : states n (models_of (take (k + 1) (said_by L s))) ≡ states n ms ++ insides ln
    more_states = ap (states n) more ∙ states_more n ms ln

    more_length : length (states n (models_of (take (k + 1) (said_by L s)))) ≡ length (states n ms) + suc (places this.model)
    more_length = ap (λ (l : List Line). length (states n l)) more ∙ length_states_more n ms ln

    roomy : length (states n ms) + suc (places this.model) ≤ L.states
    unfolding models_in
    roomy =
        let t : ¬ (L.states < length (states n (models_in L s))) = g.ready.states in
        let f : length (states n (models_in L s)) ≤ L.states = omega arith in
        omega (arith, more_length, states_front n (k + 1) (said_by L s))

    pub line_room : base < L.states
    line_room = omega (arith, roomy, g.count)

    module _ {e : ℕ} {x : List ℕ} (he : e ≡ line_end_of at (drop at s)) (hx : x ≡ take (e - at) (drop at s)) where
      line_said : says L n x ≡ content this.symbol this.model
      line_said =
          ap (says L n) (hx ∙ (line_part g.starts he).2) ∙ ap (λ (i : ℕ). says L i (line_at s k)) g.ready.symbols
          ∙ sym (saying L s k) ∙ this.says

      module _ {r : ℕ} {B' O' E' N' : List ℕ} (a : Adds L n x B O E N base r B' O' E' N') where
        added : (r ≡ base + suc (places this.model)) × Kept L.states (states n ms ++ insides ln) B' O' E' N'
        added =
            a.adds (states n ms) this.symbol this.model line_said g.count g.kept
            (fresh_symbol n ms this.symbol good (new_model ms this.symbol this.new)
            (omega (arith, this.below, (well_symbols L s g.ready.well_formed).1)))
            (omega (arith, roomy, g.count))

        behind_line : r ≡ length (states n ms) + suc (places this.model)
        behind_line = added.0 ∙ ap (λ (i : ℕ). i + suc (places this.model)) g.count

        clash_here : Clash L.states B' N' base r → AmbiguousAt (said_by L s) k
        clash_here c =
            record {
              symbol = this.symbol;
              model = this.model;
              says = this.says;
              ambiguous = (clash_exactly (states n ms) this.symbol this.model roomy added.1).0 (clash_as g.count behind_line c);
            }

        no_clash : ¬ Clash L.states B' N' base r → ¬ AmbiguousAt (said_by L s) k
        no_clash c x =
            c (clash_as (sym g.count) (sym behind_line)
            ((clash_exactly (states n ms) this.symbol this.model roomy added.1).1
            (subst Ambiguous (content_model (sym x.says ∙ this.says)) x.ambiguous)))

        kept_here : {v : ℕ} → v ≡ k + 1 → KeptTo L s v B' O' E' N'
        kept_here q = rw (q, sym g.ready.symbols, more_states) added.1

        pub going_ambiguous : {v : ℕ} {t : Bool} → v ≡ k + 1 → Tells t (Clash L.states B' N' base r) → t ≡ true → AddsAll L s (Some v) B' O' E' N'
        going_ambiguous {v} q t z =
            record {
              whole = λ i. absurd (none-some v (sym i));
              ambiguous = λ {line} i.
                  let e : line ≡ k + 1 = same_Some line v (sym i) ∙ q in
                  (k, e, record { inside = there; wrong = clash_here (t.yes z); before = g.clear }, kept_here e);
            }

        pub going_more : {t : Bool} → Tells t (Clash L.states B' N' base r) → t ≡ false → Going L s n e (k + 1) r B' O' E' N'
        going_more t z =
            record {
              ready = g.ready;
              starts = starts_next g.starts h he;
              behind = omega arith;
              inside = omega (arith, there);
              clear = λ j l. by_cases (ℕ_discrete j k) (λ (i : j ≡ k). rw i (no_clash (t.no z))) (λ i. g.clear j (omega arith));
              kept = rw more_states added.1;
              count = omega (arith, added.0, more_length, g.count);
            }

  pub going_end : {s : List ℕ} {n at k base : ℕ} {B O E N : List ℕ} → Going L s n at k base B O E N → length s ≤ at
      → AddsAll L s None B O E N
  unfolding models_in
  going_end {s} {n} {at} {k} {base} {B} {O} {E} {N} g h =
      let i : k ≡ length (said_by L s) = omega (arith, line_missing L g.starts h, g.inside) in
      let e : models_of (take k (said_by L s)) ≡ models_of (said_by L s) = ap (λ (j : ℕ). models_of (take j (said_by L s))) i ∙ models_all (said_by L s) in
      record {
        whole = λ z. (
          λ j. by_cases (dec_lt j k) (λ l. g.clear j l) (λ l. (λ x. let b = ambiguous_inside (said_by L s) j x in omega arith)),
          rw (sym g.ready.symbols, sym e) g.kept,
        );
        ambiguous = λ {line} z. absurd (none-some line z);
      }
