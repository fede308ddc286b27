-- The loop over the lines behind the header, as laws: what holds at its head, one more line, and its ends. Assumes nothing.
use Prim.Native.Nat.{ℕ, zero, suc, ◌+◌, ◌-◌, ◌*◌, ◌≤◌, ◌<◌}
use mathlib.Core.Path.{◌≡◌, refl, ap, sym, ◌∙◌}
use mathlib.Core.Logic.{◌≢◌, by_cases, inl, inr, ⊎_elim}
use mathlib.Core.Bool.{Bool, true, false}
use mathlib.Core.List.{List, [], ◌∷◌, ◌++◌}
use native.Mathlib.Decide.{ℕ_discrete}
use native.Mathlib.Numerals.{add-one}
use native.Mathlib.Omega.{arith}
use borrow.Author.Count.{below_more}
use lib.ListN.{length, get_or, take, drop, set, replicate, length-set, length-replicate, get_or-replicate}
use lib.Seq.{get_or-set_same, get_or-set_other}
use Rattle.paper.specs.Limits.{Limits}
use Rattle.paper.specs.Told.{Tells, refusal}
use Rattle.paper.proofs.TellsLaws.{tells_yes, tells_no}
use Rattle.lines.specs.Lines.{line_end_of, Starts}
use Rattle.lines.proofs.LinesLaws.{starts_next}
use Rattle.model.specs.Model.{Model, places}
use Rattle.model_line.specs.Line.{Said, head, content, misshapen, says, line_of}
use Rattle.model_line.specs.declared.Line.TheVariants as line
use Rattle.model_line.specs.declared.Line as said
use Rattle.model_line.proofs.LineLaws.{known_content}
use Rattle.compiled.specs.States.{states}
use Rattle.model.specs.Documents.{Line}
use Rattle.compiled.proofs.Counts.{length_states_none, length_states_more}
use Rattle.model_read.specs.Text.{symbols_of, start_of, said_at, symbols_in, said_by, models_of, Modelled, survey_told, told}
use Rattle.model_read.specs.Text.{LineWrong, no_shape, second_head, symbol_range, symbol_again, WrongAt, WellFormed}
use Rattle.model_read.specs.Work.{Headed}
use Rattle.paper.specs.declared.Refusal.{Refusal}
use Rattle.std.specs.Prelude as std
use Rattle.std.specs.Prelude.{Some, Ok}
use Rattle.model_read.proofs.Exact.{survey_malformed, survey_states, survey_sizes, range_only, symbol_only}
use Rattle.model_read.proofs.Said.{symbols_said, symbols_head, said_places, line_there, line_missing, line_says}
use Rattle.model_read.proofs.Models.{models_first, models_more, models_all, modelled_more, modelled_last, modelled_other}
use Rattle.model_read.proofs.Few.{lines_few}
use Rattle.model_read.proofs.Good.{RightTo, GoodTo, good_to, good_few}

-- `seen` tells of each of n symbols whether one of these M lines has it
pub record Seen (n : ℕ) (ms : List Line) (seen : List Bool) : Type 0 where
  pub size : length seen ≡ n
  pub tells : (a : ℕ) → a < n → Tells (get_or seen a false) (Modelled ms a)

not_modelled : (a : ℕ) → ¬ Modelled [] a
not_modelled a (j, h, e) = omega arith

seen_none : (n : ℕ) → Seen n [] (replicate n false)
seen_none n = record {
  size = length-replicate n false;
  tells = λ a h. rw (get_or-replicate n a false false h) (tells_no (not_modelled a));
}

module _ {n : ℕ} {ms : List Line} {seen : List Bool} (g : Seen n ms seen) (ln : Line) (h : ln.of < n) where
  seen_other : (a : ℕ) → a < n → a ≢ ln.of → Tells (get_or (set seen ln.of true) a false) (Modelled (ms ++ (ln ∷ [])) a)
  seen_other a l d =
      rw (get_or-set_other seen ln.of a true false d)
      (record {
        yes = λ t. modelled_more ms ln ((g.tells a l).yes t);
        no = λ t w. (g.tells a l).no t (modelled_other ms ln (λ e. d (sym e)) w);
      })

  seen_more : Seen n (ms ++ (ln ∷ [])) (set seen ln.of true)
  seen_more = record {
    size = length-set seen ln.of true ∙ g.size;
    tells = λ a l. by_cases (ℕ_discrete a ln.of)
        (λ e. rw (e, get_or-set_same seen ln.of true false (omega (arith, g.size))) (tells_yes (modelled_last ms ln)))
        (seen_other a l);
  }

-- what is wrong with a line behind the first
wrong_behind : (L : Limits) (ls : List Said) (k : ℕ) → 1 ≤ k
    → LineWrong (symbols_of (said_at ls 0)) (models_of (take k ls)) (said_at ls k) → WrongAt L ls k
wrong_behind L ls zero h w = absurd (omega arith)
wrong_behind L ls (suc k) h w = w

right_behind : (L : Limits) (ls : List Said) (k : ℕ) → 1 ≤ k
    → ¬ LineWrong (symbols_of (said_at ls 0)) (models_of (take k ls)) (said_at ls k) → ¬ WrongAt L ls k
right_behind L ls zero h w = absurd (omega arith)
right_behind L ls (suc k) h w = w

good_at : (L : Limits) (s : List ℕ) (k : ℕ) → 1 ≤ k → k ≤ length (said_by L s) → RightTo L s k → GoodTo L s k
good_at L s zero h l r = absurd (omega arith)
good_at L s (suc k) h l r = good_to L s k l r

-- a line that is no M line
no_content : (n : ℕ) (before : List Line) (x : Said) → ((a p : ℕ) → line_of x ≡ Some (line.Model a p) → ⊥) → LineWrong n before x
unfolding line_of
no_content n before (head y t) h = second_head
no_content n before (content a m) h = absurd (h a (places m) refl)
no_content n before misshapen h = no_shape

-- so many states at most have the lines of any text, as far as they are read
abbrev most : Limits → ℕ
most L = L.symbols + L.symbols * suc L.tokens

pub record Going (L : Limits) (s : List ℕ) (n t : ℕ) (seen : List Bool) (at k c : ℕ) : Type 0 where
  pub says : said_at (said_by L s) 0 ≡ head n t
  pub small : n ≤ L.symbols
  pub starts : Starts s k at
  pub behind : 1 ≤ k
  pub inside : k ≤ length (said_by L s)
  pub right : RightTo L s k
  pub marked : Seen L.symbols (models_of (take k (said_by L s))) seen
  pub states : length (states n (models_of (take k (said_by L s)))) ≡ c

module _ (L : Limits) where
  pub going_start : {s : List ℕ} {n t at : ℕ} → Headed L s n t at → Going L s n t (replicate L.symbols false) at 1 n
  going_start {s} {n} {t} h =
      let e = models_first (said_by L s) h.says in
      record {
        says = h.says;
        small = few (λ l. h.right (inr (inl l)));
        starts = h.behind;
        behind = omega arith;
        inside = h.some;
        right = λ j l. let z : j ≡ 0 = omega arith in rw (z, h.says) (λ w. h.right (range_only w));
        marked = rw e (seen_none L.symbols);
        states = rw e (length_states_none n);
      }
    where
      few : {a b : ℕ} → (a < b → ⊥) → b ≤ a
      few h = omega arith

  module _ {s : List ℕ} {n t : ℕ} {seen : List Bool} {at k c : ℕ} (g : Going L s n t seen at k c) where
    symbols : n ≡ symbols_in L s
    symbols = sym (symbols_head L s g.says)

    good_here : GoodTo L s k
    good_here = good_at L s k g.behind g.inside g.right

    -- few lines are read, and few states are counted
    pub going_lines : k ≤ suc L.symbols
    going_lines = let e = symbols in omega (arith, good_here.rows, lines_few good_here.lines, g.small)

    pub going_size : c ≤ most L
    going_size = omega (arith, g.states, rw (sym symbols) at (good_few L s good_here (omega (arith, symbols, g.small))))

    -- a line: where it ends, and what it says
    module _ {e : ℕ} {l : std.Option said.Line} (ha : at < length s) (he : e ≡ line_end_of at (drop at s))
        (hl : l ≡ line_of (says L n (take (e - at) (drop at s)))) where
      is_line : l ≡ line_of (said_at (said_by L s) k)
      is_line = line_says L g.starts he symbols hl

      over : n ≡ symbols_of (said_at (said_by L s) 0)
      over = symbols ∙ symbols_said L s

      refused_line : {x : Refusal} → LineWrong n (models_of (take k (said_by L s))) (said_at (said_by L s) k)
          → x ≡ record { number = 13; side = 0; place = k + 1 } → refusal x ≡ survey_told L s
      refused_line w q =
          ap refusal q ∙ sym (survey_malformed L s (record {
            inside = let z = line_there L g.starts ha in omega arith;
            wrong = wrong_behind L (said_by L s) k g.behind (rw over at w);
            before = g.right;
          }))

      pub going_shape : {x : Refusal} → ((a p : ℕ) → l ≡ Some (line.Model a p) → ⊥)
          → x ≡ record { number = 13; side = 0; place = k + 1 } → refusal x ≡ survey_told L s
      going_shape h q =
          refused_line (no_content n (models_of (take k (said_by L s))) (said_at (said_by L s) k) (λ a p z. h a p (is_line ∙ z))) q

      -- an M line
      module _ {a p : ℕ} (hm : l ≡ Some (line.Model a p)) where
        abbrev model : Model
        model = (known_content (said_at (said_by L s) k) (sym is_line ∙ hm)).0

        is_content : said_at (said_by L s) k ≡ content a model
        is_content = (known_content (said_at (said_by L s) k) (sym is_line ∙ hm)).1

        counted : places model ≡ p
        counted = (known_content (said_at (said_by L s) k) (sym is_line ∙ hm)).2

        pub going_places : p ≤ L.tokens
        going_places = omega (arith, counted, said_places L s k is_content)

        pub going_range : {x : Refusal} → n ≤ a → x ≡ record { number = 13; side = 0; place = k + 1 } → refusal x ≡ survey_told L s
        going_range h q = refused_line (rw is_content (symbol_range h)) q

        pub going_again : {x : Refusal} → a < n → get_or seen a false ≡ true
            → x ≡ record { number = 13; side = 0; place = k + 1 } → refusal x ≡ survey_told L s
        going_again h y q = refused_line (rw is_content (symbol_again ((g.marked.tells a (omega (arith, g.small))).yes y))) q

        module _ (h : a < n) (y : get_or seen a false ≡ false) where
          right_here : ¬ LineWrong n (models_of (take k (said_by L s))) (said_at (said_by L s) k)
          right_here =
              rw is_content
              (λ w. ⊎_elim (λ z. omega arith) ((g.marked.tells a (omega (arith, g.small))).no y) (symbol_only w))

          pub going_on : Going L s n t (set seen a true) e (k + 1) (c + (1 + p))
          going_on =
              let i = line_there L g.starts ha in
              let ms = models_of (take k (said_by L s)) in
              let ln : Line = record { of = a; model = model } in
              let m : models_of (take (k + 1) (said_by L s)) ≡ ms ++ (ln ∷ []) =
              rw (add-one k) (models_more (said_by L s) k is_content i) in
              record {
                says = g.says;
                small = g.small;
                starts = starts_next g.starts ha he;
                behind = omega arith;
                inside = omega arith;
                right = below_more _ _ g.right (right_behind L (said_by L s) k g.behind (rw over at right_here));
                marked = rw m (seen_more g.marked ln (omega (arith, h, g.small)));
                states = rw m (length_states_more n ms ln ∙ omega (arith, g.states, counted));
              }

    -- the end of the text
    module _ (hs : length s ≤ at) where
      at_end : k ≡ length (said_by L s)
      at_end = omega (arith, line_missing L g.starts hs, g.inside)

      well : WellFormed L s
      well j h = g.right j (omega (arith, at_end, g.behind))

      in_all : length (states (symbols_in L s) (models_of (said_by L s))) ≡ c
      in_all =
          ap (λ (n : ℕ). length (states n (models_of (said_by L s)))) (sym symbols)
          ∙ ap (λ (ms : List Line). length (states n ms)) (sym (models_all (said_by L s)))
          ∙ ap (λ (i : ℕ). length (states n (models_of (take i (said_by L s))))) (sym at_end) ∙ g.states

      pub going_states : {x : Refusal} → L.states < c → x ≡ record { number = 15; side = 0; place = 0 }
          → refusal x ≡ survey_told L s
      going_states h q = ap refusal q ∙ sym (survey_states L s well (omega (arith, in_all)))

      pub going_sizes : c ≤ L.states → told (Ok (record { symbols = n; start = t; states = c })) ≡ survey_told L s
      unfolding start_of
      going_sizes h =
          sym (survey_sizes L s well (λ l. omega (arith, in_all)) ∙ rw (sym symbols, g.says, rw (sym symbols) at in_all) refl)
