-- The loop over the lines behind the head, as laws: what holds at its head, one more line, and its ends. Assumes nothing.
use Prim.Native.Nat.{ℕ, ◌+◌, ◌-◌, ◌*◌, ◌≤◌, ◌<◌}
use mathlib.Core.Path.{◌≡◌, refl, ap, sym, ◌∙◌}
use mathlib.Core.Logic.{◌≢◌, inr, inl}
use mathlib.Core.List.{List, [], ◌∷◌}
use native.Mathlib.Omega.{arith}
use borrow.Author.Count.{below_more}
use lib.ListN.{length, take, drop}
use lib.Seq.{take-length}
use Rattle.paper.specs.Limits.{Limits}
use Rattle.paper.specs.Told.{refused, refusal}
use Rattle.paper.specs.First.{Clear}
use Rattle.lines.specs.Lines.{line_end_of, Starts}
use Rattle.lines.proofs.LinesLaws.{starts_next}
use Rattle.table.specs.Check.{TooLarge}
use Rattle.rule_line.specs.Line.{line}
use Rattle.rule_line.specs.declared.Line.{Line}
use Rattle.rule_read.specs.Text.{Reading, said_by, marks_of, rules_of, symbols_of, states_of, line_fault_of, fault_at, text_told}
use Rattle.rule_read.specs.Work.{saying_at, Room, Fronts, Fits, Stored, Headed, Answers}
use Rattle.std.specs.Prelude.{Ok, Err}
use Rattle.paper.specs.declared.Refusal.{Refusal}
use Rattle.rule_read.proofs.Verdict.{head_fault, none, fault_behind}
use Rattle.rule_read.proofs.Said.{Wide, line_there, line_missing, line_says}
use Rattle.rule_read.proofs.ListLaws.{head_said}
use Rattle.rule_read.proofs.Counting.{Counted, rows, counted_first, counted_adds, counted_next, counted_marks, counted_rules, counted_short, counted_whole}
use Rattle.rule_read.proofs.Storing.{fits_line, fronts_more}
use Rattle.rule_read.proofs.Exact.{text_fault, text_short, text_table}

-- a refusal that a text tells
pub answers_refused : (L : Limits) (s : List ℕ) {f k : ℕ} {x : Refusal} (M W : List ℕ)
    → x ≡ record { number = f; side = 0; place = k } → text_told L s ≡ refused f 0 k → Answers L s (Err x) M W
answers_refused L s M W e t = record { answer = ap refusal e ∙ sym t; fronts = λ q. let z : ⊥ = cc in absurd z }

pub record Going (L : Limits) (s : List ℕ) (y n : ℕ) (M W : List ℕ) (at k m r : ℕ) : Type 0 where
  pub symbols : symbols_of (said_by s) ≡ y
  pub states : states_of (said_by s) ≡ n
  pub few : n ≤ L.states
  pub starts : Starts s k at
  pub behind : 1 ≤ k
  pub inside : k ≤ length (said_by s)
  pub clear : Clear (fault_at L (said_by s)) k
  pub counted : Counted L (said_by s) k m r
  pub fronts : Fronts L.width (take k (said_by s)) M W m r
  pub room : Room L M W

-- what a reading counts
abbrev states_in : Reading → ℕ
states_in (Ok x) = x.states
states_in (Err x) = 0

abbrev rules_in : Reading → ℕ
rules_in (Ok x) = x.rules
rules_in (Err x) = 0

none_of : (xs : List ℕ) → length xs ≡ 0 → [] ≡ xs
none_of [] e = refl
none_of (x ∷ xs) e = absurd (omega arith)

few_states : (L : Limits) {y n : ℕ} → ¬ TooLarge L y n 0 → n ≤ L.states
few_states L h = let g : L.states < _ → ⊥ = λ x. h (inr (inr (inl x))) in omega arith

module _ (L : Limits) (wide : Wide L.width) where
  pub going_start : {s : List ℕ} {y n at : ℕ} {M W : List ℕ} → Headed L s y n at → Room L M W → Going L s y n M W at 1 0 0
  unfolding fault_at
  going_start {s} {y} {n} {at} {M} {W} h g =
      let z : fault_at L (said_by s) 0 ≡ 0 = rw h.says (head_fault L (none h.small)) in
      let c = counted_first L wide (said_by s) h.some z in
      let (a, b) = head_said (said_by s) h.says in
      let o : 0 * L.width ≡ 0 = omega arith in
      record {
        symbols = a;
        states = b;
        few = few_states L h.small;
        starts = h.behind;
        behind = omega arith;
        inside = h.some;
        clear = λ j l. let e : j ≡ 0 = omega arith in rw e z;
        counted = c;
        fronts = record {
          marks = none_of (marks_of (take 1 (said_by s))) c.marks;
          rules = ap (λ (i : ℕ). take i W) o ∙ none_of (rules_of (take 1 (said_by s))) (c.rules ∙ o);
          marks_in = omega arith;
          rules_in = omega arith;
        };
        room = g;
      }

  module _ {s : List ℕ} {y n : ℕ} {M W : List ℕ} {at k m r : ℕ} (g : Going L s y n M W at k m r) where
    -- a line: where it ends, what it says, and what is wrong with it
    module _ {e : ℕ} {l : Line} {f : ℕ} (ha : at < length s) (he : e ≡ line_end_of at (drop at s)) (hl : l ≡ line (take (e - at) (drop at s)))
        (hf : f ≡ line_fault_of L y n m (take (r * L.width) W) l) where
      is_line : l ≡ saying_at (said_by s) k
      is_line = line_says g.starts he hl

      fault_here : fault_at L (said_by s) k ≡ f
      fault_here =
          fault_behind L (said_by s) k g.behind
          ∙ rw (g.symbols, g.states, g.counted.marks, sym g.fronts.rules, sym is_line) (sym hf)

      pub going_refused : {x : Refusal} (M' W' : List ℕ) → x ≡ record { number = f; side = 0; place = k + 1 } → f ≢ 0 → Answers L s (Err x) M' W'
      going_refused M' W' ex d =
          answers_refused L s M' W' ex
          (text_fault L s (record { inside = line_there g.starts ha; here = fault_here; fault = d; before = g.clear }))

      module _ (z : f ≡ 0) where
        pub going_fits : Fits L.width M W m r l
        going_fits =
            fits_line L wide g.room {n = states_of (said_by s)} (omega (arith, g.few, g.states))
            (rw is_line (counted_adds L wide (said_by s) g.counted (line_there g.starts ha) (fault_here ∙ z)))

        pub going_on : {m' r' : ℕ} {M' W' : List ℕ} → Stored L.width M W m r l m' r' M' W' → length M' ≡ length M → length W' ≡ length W
            → Going L s y n M' W' e (k + 1) m' r'
        going_on {m'} {r'} {M'} {W'} st lm lw =
            let h = line_there g.starts ha in
            record {
              symbols = g.symbols;
              states = g.states;
              few = g.few;
              starts = starts_next g.starts ha he;
              behind = omega arith;
              inside = omega arith;
              clear = below_more _ _ g.clear (fault_here ∙ z);
              counted = rw (st.marks_more_of, st.rules_more_of)
                  (counted_next L wide (said_by s) g.counted h is_line
                  (rw is_line (counted_adds L wide (said_by s) g.counted h (fault_here ∙ z))));
              fronts = fronts_more L wide (said_by s) h is_line g.fronts going_fits st lm lw;
              room = record { marks = omega (arith, g.room.marks); rules = omega (arith, g.room.rules) };
            }

    -- the end of the text
    module _ (hs : length s ≤ at) where
      at_end : k ≡ length (said_by s)
      at_end = omega (arith, line_missing g.starts hs, g.inside)

      clear_all : Clear (fault_at L (said_by s)) (length (said_by s))
      clear_all j h = g.clear j (omega (arith, at_end))

      pub going_short : {x : Refusal} (M' W' : List ℕ) → x ≡ record { number = 3; side = 0; place = k + 1 } → m < n → Answers L s (Err x) M' W'
      going_short M' W' ex h =
          answers_refused L s M' W' ex
          (text_short L s clear_all (counted_short L wide (said_by s) g.counted at_end (omega (arith, g.states))) ∙ rw (sym at_end) refl)

      pub going_table : n ≤ m → Answers L s (Ok (record { symbols = y; states = m; rules = r })) M W
      going_table h =
          record {
            answer = sym
                (text_table L s clear_all (counted_whole L wide (said_by s) g.counted at_end (omega (arith, g.states)))
                ∙ rw (g.symbols, counted_marks L wide (said_by s) g.counted at_end, rows L wide (rules_of (said_by s)) r (counted_rules L wide (said_by s) g.counted at_end)) refl);
            fronts = λ {x} e.
                let a : m ≡ x.states = ap states_in e in
                let b : r ≡ x.rules = ap rules_in e in
                rw (sym a, sym b) (rw (ap (λ (i : ℕ). take i (said_by s)) at_end ∙ take-length (said_by s)) at g.fronts);
          }
