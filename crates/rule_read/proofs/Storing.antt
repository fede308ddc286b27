-- The work slices: what a line adds is stored, and what stands at their fronts. Assumes nothing.
use Prim.Native.Nat.{ℕ, ◌+◌, ◌*◌, ◌≤◌, ◌<◌}
use mathlib.Core.Path.{◌≡◌, refl, sym, ap, ◌∙◌}
use mathlib.Core.List.{List, [], ◌∷◌, ◌++◌, append-nil}
use native.Mathlib.Numerals.{add-one}
use native.Mathlib.Nat.{add-mul, mul-le-mul_right}
use native.Mathlib.Omega.{arith}
use lib.ListN.{length, take, drop, set, length-append}
use lib.Seq.{sets, sets-eq, take-suc-set, take_at, length-take-le}
use Rattle.paper.specs.Limits.{Limits}
use Rattle.paper.specs.declared.RuleRow.{RuleRow}
use Rattle.rule_line.specs.declared.Line.{Line}
use Rattle.rule_line.specs.declared.Line.TheVariants.{Head, State, Rule, Faulty}
use Rattle.rule_read.specs.Text.{mark_of, the_rule_of}
use Rattle.rule_read.specs.Work.{saying_at, rows_of, Room, Fronts, Fits, Stored}
use Rattle.rule_read.proofs.Said.{Wide, rule_length, marks_more, rules_more}
use Rattle.rule_read.proofs.Counting.{Adds}

-- there is room for what a line adds
module _ {w : ℕ} {M W : List ℕ} {m r : ℕ} {l : Line} (h : Fits w M W m r l) where
  pub fits_state : {q s f : ℕ} → l ≡ State q s f → (m < length M) × (2 * s + f ≤ 65535)
  unfolding mark_of
  fits_state e = let a = rw e at h.marks in let b = rw e at h.small in (omega (arith, a), b)

  pub fits_rule : {t : RuleRow} → l ≡ Rule t → r * w + length (t.kind ∷ t.left ∷ t.right ∷ t.to ∷ []) ≤ length W
  unfolding the_rule_of
  fits_rule e = rw e at h.rules

-- what is stored of each line
module _ (w : ℕ) (M W : List ℕ) (m r : ℕ) {l : Line} where
  pub stored_head : {a b : ℕ} → l ≡ Head a b → Stored w M W m r l m r M W
  unfolding mark_of the_rule_of rows_of
  stored_head e = rw e (record { marks_more_of = omega arith; rules_more_of = omega arith; marks = sym (append-nil (take m M)); rules = sym (append-nil (take (r * w) W)) })

  pub stored_faulty : {i : ℕ} → l ≡ Faulty i → Stored w M W m r l m r M W
  unfolding mark_of the_rule_of rows_of
  stored_faulty e = rw e (record { marks_more_of = omega arith; rules_more_of = omega arith; marks = sym (append-nil (take m M)); rules = sym (append-nil (take (r * w) W)) })

  pub stored_state : {q s f : ℕ} → l ≡ State q s f → m < length M → Stored w M W m r l (m + 1) r (set M m (2 * s + f)) W
  unfolding mark_of the_rule_of rows_of
  stored_state {q} {s} {f} e h =
      rw e (record {
        marks_more_of = refl;
        rules_more_of = omega arith;
        marks = rw (add-one m, take-suc-set M m (2 * s + f) h);
        rules = sym (append-nil (take (r * w) W));
      })

  pub stored_rule : {t : RuleRow} {W' : List ℕ} → Wide w → l ≡ Rule t → r * w + length (t.kind ∷ t.left ∷ t.right ∷ t.to ∷ []) ≤ length W
      → W' ≡ sets W (r * w) (t.kind ∷ t.left ∷ t.right ∷ t.to ∷ []) → Stored w M W m r l m (r + 1) M W'
  unfolding mark_of the_rule_of rows_of
  stored_rule {t} {W'} wide e h s =
      let vs : List ℕ = t.kind ∷ t.left ∷ t.right ∷ t.to ∷ [] in
      let n : length (take (r * w) W ++ vs) ≡ (r + 1) * w =
      length-append (take (r * w) W) vs
      ∙ omega (arith, length-take-le (r * w) W (omega arith), wide t.kind t.left t.right t.to, add-mul r 1 w) in
      rw e (record {
        marks_more_of = omega arith;
        rules_more_of = refl;
        marks = sym (append-nil (take m M));
        rules =
            ap (take ((r + 1) * w)) (s ∙ sets-eq vs W (r * w) h)
            ∙ take_at (take (r * w) W ++ vs) (drop (r * w + length vs) W) ((r + 1) * w) n;
      })

-- the fronts with one more line
module _ (L : Limits) (wide : Wide L.width) {m r : ℕ} {M W : List ℕ} {l : Line} where
  pub fits_line : Room L M W → {n : ℕ} → n ≤ L.states → Adds n L.rules m r l → Fits L.width M W m r l
  fits_line g h a =
      record {
        marks = omega (arith, g.marks, a.marks_fit);
        rules =
            omega (arith, rule_length wide l, add-mul r (rows_of l) L.width, mul-le-mul_right L.width a.rules_fit, g.rules);
        small = omega (arith, a.small);
      }

  pub fronts_more : (ls : List Line) {k m' r' : ℕ} {M' W' : List ℕ} → k < length ls → l ≡ saying_at ls k → Fronts L.width (take k ls) M W m r
      → Fits L.width M W m r l → Stored L.width M W m r l m' r' M' W' → length M' ≡ length M → length W' ≡ length W
      → Fronts L.width (take (k + 1) ls) M' W' m' r'
  fronts_more ls {k} {m'} {r'} {M'} {W'} h e f g st lm lw =
      record {
        marks = st.marks ∙ ap (λ (x : List ℕ). x ++ mark_of l) f.marks ∙ sym (marks_more ls k h e);
        rules = st.rules ∙ ap (λ (x : List ℕ). x ++ the_rule_of l) f.rules ∙ sym (rules_more ls k h e);
        marks_in = omega (arith, g.marks, st.marks_more_of);
        rules_in =
            omega (arith, g.rules, rule_length wide l, add-mul r (rows_of l) L.width, ap (λ (i : ℕ). i * L.width) st.rules_more_of);
      }
