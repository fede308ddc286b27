-- From the flags of a scan to the answer and the sets in the lent slices. Assumes nothing.
use Prim.Native.Nat.{ℕ, ◌+◌, ◌*◌, ◌≤◌, ◌<◌}
use mathlib.Core.Path.{◌≡◌, refl, sym, ap, ◌∙◌}
use mathlib.Core.Logic.{if_pos, if_neg}
use mathlib.Core.Bool.{Bool, true, false, not, cond, ◌&&◌}
use mathlib.Core.Option.{Option, none, some}
use mathlib.Core.List.{List}
use native.Mathlib.Omega.{arith}
use borrow.Author.Tests.{not-true, not-false, le-leb, lt-ltb, le-ltb, leb-true, leb-false}
use lib.ListN.{length}
use lib.Dec.{leb, ltb}
use Rattle.paper.specs.Told.{Tells}
use Rattle.paper.specs.Limits.{Limits, at}
use Rattle.lines.proofs.Tests.{split}
use Rattle.model.specs.Model.{Model, places}
use Rattle.model.specs.Sets.{comes}
use Rattle.postfix.specs.Field.{model_in, content_of}
use Rattle.std.specs.Prelude as std
use Rattle.std.specs.Prelude.{Some, None}
use Rattle.std.proofs.lemmas.Option.{none-some}
use Rattle.model_sets.specs.Sets.{flag, Room, room?, answer_of, Holds, Fills}
use Rattle.model_sets.specs.Work.{Painted, Changed, cleared, corner}
use Rattle.model_sets.specs.Stack.{Begins}
use Rattle.model_sets.proofs.Painting.{in_within, high_within}

-- what a test tells that is turned round
module _ {r : Bool} {P : Type 0} (t : Tells r P) where
  pub told_yes : not r ≡ false → P
  told_yes e = t.yes (not-false r e)

  pub told_no : not r ≡ true → ¬ P
  told_no e = t.no (not-true r e)

-- what the reader of the model says
no_model : (o : Option Model) → None ≡ content_of o → o ≡ none
unfolding content_of
no_model none e = refl
no_model (some m) e = absurd (none-some _ e)

a_model : (o : Option Model) {p : ℕ} → Some p ≡ content_of o → (m : Model) × ((o ≡ some m) × (places m ≡ p))
unfolding content_of
a_model none e = absurd (none-some _ (sym e))
a_model (some m) e = (m, (refl, cc))

-- the stretches that are clear
cleared_in : (p i : ℕ) → i ≤ p → cleared false 0 (p + 1) i ≡ true
unfolding cleared
cleared_in p i h = in_within 0 (p + 1) i (omega arith) (omega arith)

cleared_out : (p i : ℕ) → p < i → cleared false 0 (p + 1) i ≡ false
unfolding cleared
cleared_out p i h = high_within 0 (p + 1) i (omega arith)

corner_as : (p i y : ℕ) → corner (p + 1) p i y ≡ (leb i p && ltb y p)
unfolding corner
corner_as p i y =
    split (leb i p)
    (λ t. rw (t, lt-ltb i (p + 1) (omega (arith, leb-true i p t))) refl)
    (λ t. rw (t, le-ltb i (p + 1) (omega (arith, leb-false i p t))) refl)

twice : (t : Bool) (x y : ℕ) → cond t x (cond t 0 y) ≡ cond t x y
twice true x y = refl
twice false x y = refl

-- the sets stand over what was cleared
over : (s : ℕ) (m : Model) {B E N E₁ N₁ B' E' N' : List ℕ} → Painted 0 (cleared false 0 (places m + 1)) E E₁
    → Changed s 0 (corner (places m + 1) (places m)) N N₁ → Holds s m B E₁ N₁ B' E' N' → Holds s m B E N B' E' N'
over s m {B} {E} {N} x y h =
    record {
      bearing = h.bearing;
      ends_length = h.ends_length ∙ x.size;
      ending = λ i. h.ending i ∙ split (leb i (places m))
          (λ t. rw t refl)
          (λ t. rw t (x.cell i ∙ rw (cleared_out (places m) i (leb-false i (places m) t)) refl));
      next_length = h.next_length ∙ y.size;
      coming = λ i c l. h.coming i c l
          ∙ ap (cond (leb i (places m) && ltb c (places m)) (flag (comes m i c))) (y.cell i c l ∙ rw (corner_as (places m) i c) refl)
          ∙ twice (leb i (places m) && ltb c (places m)) (flag (comes m i c)) (at N (i * s + c));
    }

module _ (L : Limits) (n : ℕ) (f B E N : List ℕ) where
  -- nothing is changed
  unfilled : None ≡ answer_of L.states (model_in L n f) (length B) (length E) (length N) → Fills L n f B E N None B E N
  unfilled e = record { answer = e; filled = λ a b. absurd (none-some _ b); unfit = λ a. (refl, (refl, refl)) }

  module _ {r : std.Option ℕ} (e : r ≡ content_of (model_in L n f)) where
    pub fills_bad : r ≡ None → Fills L n f B E N None B E N
    unfolding answer_of
    fills_bad q = unfilled (rw (no_model (model_in L n f) (sym q ∙ e)) refl)

    module _ {p : ℕ} (q : r ≡ Some p) where
      found : (m : Model) × ((model_in L n f ≡ some m) × (places m ≡ p))
      found = a_model (model_in L n f) (sym q ∙ e)

      pub fills_full : ¬ Room L.states p (length B) (length E) (length N) → Fills L n f B E N None B E N
      unfolding answer_of
      fills_full h =
          unfilled
          (rw (found.1.0, found.1.1) (sym (if_neg (room? L.states p (length B) (length E) (length N)) h (Some p) None)))

      module _ (h : Room L.states p (length B) (length E) (length N)) {E₁ N₁ : List ℕ} (x : Painted 0 (cleared false 0 (p + 1)) E E₁)
          (y : Changed L.states 0 (corner (p + 1) p) N N₁) where
        pub fills_begins : Begins L n f B E₁ N₁
        fills_begins =
            record {
              m = found.0;
              model = found.1.0;
              room = rw (found.1.1, x.size, y.size) h;
              ends = λ i l. x.cell i ∙ rw (cleared_in p i (omega (arith, l, found.1.1))) refl;
              next = λ i c l k. y.cell i c (omega (arith, k, found.1.1, h.0))
                  ∙ rw (corner_as p i c, le-leb i p (omega (arith, l, found.1.1)), lt-ltb c p (omega (arith, k, found.1.1))) refl;
            }

        pub fills_sets : {B' E' N' : List ℕ} → ((m : Model) → model_in L n f ≡ some m → Holds L.states m B E₁ N₁ B' E' N')
            → Fills L n f B E N (Some p) B' E' N'
        unfolding answer_of
        fills_sets {B'} {E'} {N'} g =
            record {
              answer = rw (found.1.0, found.1.1)
                  (sym (if_pos (room? L.states p (length B) (length E) (length N)) h (Some p) None));
              filled = λ {m} {k} a b.
                  let z : some m ≡ some found.0 = sym a ∙ found.1.0 in
                  let w : m ≡ found.0 = cc in
                  let v : p ≡ places m = sym found.1.1 ∙ ap places (sym w) in
                  over L.states m (rw (← v) x) (rw (← v) y) (g m a);
              unfit = λ a. absurd (none-some _ (sym a));
            }
