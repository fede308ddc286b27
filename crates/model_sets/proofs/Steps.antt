-- What the step on each token makes of the stack that is kept. Assumes nothing.
use Prim.Native.Nat.{ℕ, suc, ◌+◌, ◌-◌, ◌≤◌, ◌<◌}
use mathlib.Core.Path.{◌≡◌, refl, sym, ap, subst, ◌∙◌}
use mathlib.Core.Bool.{Bool, true, false, ◌&&◌, ◌||◌}
use mathlib.Core.List.{List, ◌∷◌}
use native.Mathlib.Omega.{arith}
use lib.ListN.{length, set}
use Rattle.paper.specs.Limits.{Limits}
use Rattle.model.specs.Model.{Model, symbol, empty, sequence, choice, star, maybe, plus}
use Rattle.model.specs.Sets.{nullable}
use Rattle.model.specs.declared.Token.{Token}
use Rattle.model.specs.declared.Token.TheVariants.{Symbol, Empty, Comma, Bar, Star, Query, Plus}
use Rattle.model_sets.specs.Sets.{flag}
use Rattle.model_sets.specs.Work.{Painted, Changed, cleared, joined}
use Rattle.model_sets.specs.Stack.{part, total, coming, Cells, Shows, Fits, Steps}
use Rattle.model_sets.specs.declared.Part.{Part}
use Rattle.model_sets.proofs.Taken.{One, one, Two, both, one_of, two_of}
use Rattle.model_sets.proofs.Flags.{total_two, coming_sequence, ending_sequence, coming_choice, ending_choice, coming_star, coming_plus, coming_maybe, ending_star, ending_maybe, ending_plus, coming_symbol, ending_symbol, coming_empty, ending_empty}
use Rattle.model_sets.proofs.Cells.{marks_as, cells_as, marks_set, cells_set, marks_cleared, cells_cleared, cells_linked}
use Rattle.model_sets.proofs.Kept.{emptied, kept_push, kept_in, kept_as}

-- the stack's top, and the two on top, as its array holds them
module _ {s p : ℕ} {E₀ N₀ E N : List ℕ} {S : List Part} {d n : ℕ} (q : List Model) where
  module _ (m : Model) (g : Shows s p E₀ N₀ (m ∷ q) E N S d n) where
    pub top_height : d - 1 ≡ length q
    top_height = let z = g.height in omega arith

    pub top_start : (part S (d - 1)).start ≡ total q
    top_start = ap (λ (x : ℕ). (part S x).start) top_height ∙ g.kept.0

  module _ (r l : Model) (g : Shows s p E₀ N₀ (r ∷ (l ∷ q)) E N S d n) where
    low_height : d - 2 ≡ length q
    low_height = let z = g.height in omega arith

    high_height : d - 2 + 1 ≡ suc (length q)
    high_height = let z = g.height in omega arith

    low_start : (part S (d - 2)).start ≡ total q
    low_start = ap (λ (x : ℕ). (part S x).start) low_height ∙ g.kept.1.1.0

    high_start : (part S (d - 2 + 1)).start ≡ total (l ∷ q)
    high_start = ap (λ (x : ℕ). (part S x).start) high_height ∙ g.kept.0

    low_empty : (part S (d - 2)).empty ≡ nullable l
    low_empty = ap (λ (x : ℕ). (part S x).empty) low_height ∙ g.kept.1.1.1.0

    high_empty : (part S (d - 2 + 1)).empty ≡ nullable r
    high_empty = ap (λ (x : ℕ). (part S x).empty) high_height ∙ g.kept.1.0

module _ (L : Limits) {p : ℕ} {E₀ N₀ : List ℕ} {E N : List ℕ} {S : List Part} {d n : ℕ} where
  -- a symbol
  place_inside : (a : ℕ) {st st' : List Model} → Fits L (Symbol a) p E₀ N₀ st st' E N S d n → n < p
  place_inside a {st} {st'} h =
      let g = h.shows in
      let z : symbol a ∷ st ≡ st' = let k = h.pushes in cc in
      let i = subst (λ (x : List Model). total x ≤ p) (sym z) h.inside in
      omega (arith, i, g.count)

  symbol_stepped : (a : ℕ) {st st' : List Model} → Fits L (Symbol a) p E₀ N₀ st st' E N S d n
      → Shows L.states p E₀ N₀ st' (set E (n + 1) 1) (set N n 1) (set S d (record { start = n; empty = false })) (d + 1) (n + 1)
  unfolding flag
  symbol_stepped a {st} {st'} h =
      let g = h.shows in
      let o = place_inside a h in
      let z : symbol a ∷ st ≡ st' = let k = h.pushes in cc in
      rw (← z)
      (record {
        height = let k = g.height in omega arith;
        count = let k = g.count in omega arith;
        ends = rw (← g.count)
            (marks_set g.ends (total st + 1) (omega (arith, g.count, o)) (omega (arith, g.count, o, h.ends))
            (ending_symbol st a));
        next = rw (← g.count)
            (cells_set h.narrow g.next (total st) (omega (arith, g.count, o)) (omega (arith, g.count, o, h.next))
            (coming_symbol st a));
        kept = kept_push S st (symbol a) d n false g.height g.count h.models refl g.kept;
      })

  -- `e`
  empty_stepped : {st st' : List Model} → Fits L Empty p E₀ N₀ st st' E N S d n
      → Shows L.states p E₀ N₀ st' E N (set S d (record { start = n; empty = true })) (d + 1) n
  unfolding flag
  empty_stepped {st} {st'} h =
      let g = h.shows in
      let z : empty ∷ st ≡ st' = let k = h.pushes in cc in
      rw (← z)
      (record {
        height = let k = g.height in omega arith;
        count = let k = g.count in omega arith;
        ends = marks_as g.ends (ending_empty st);
        next = cells_as g.next (coming_empty st);
        kept = kept_push S st empty d n true g.height g.count h.models refl g.kept;
      })

  -- `,`
  sequence_stepped : {st st' : List Model} {E' N₁ N' : List ℕ} → Fits L Comma p E₀ N₀ st st' E N S d n
      → Changed L.states 1 (joined E N ((part S (d - 2)).start + 1) ((part S (d - 2 + 1)).start + 1) ((part S (d - 2 + 1)).start) n) N N₁
      → Painted 0 (cleared ((part S (d - 2)).empty) ((part S (d - 2 + 1)).start) n) N₁ N'
      → Painted 0 (cleared ((part S (d - 2 + 1)).empty) ((part S (d - 2)).start + 1) ((part S (d - 2 + 1)).start + 1)) E E'
      → (v : Bool) → v ≡ ((part S (d - 2)).empty && (part S (d - 2 + 1)).empty)
      → Shows L.states p E₀ N₀ st' E' N' (emptied S (d - 2) v) (d - 2 + 1) n
  sequence_stepped {st} {st'} {E'} {N₁} {N'} h x y w v e = go (two_of sequence st st' h.pushes) h.shows h.inside
    where
      go : {st st' : List Model} → Two sequence st st' → Shows L.states p E₀ N₀ st E N S d n → total st' ≤ p
          → Shows L.states p E₀ N₀ st' E' N' (emptied S (d - 2) v) (d - 2 + 1) n
      go (both r l q) g i =
          let a = low_start q r l g in
          let b = high_start q r l g in
          let c = low_empty q r l g in
          let f = high_empty q r l g in
          let o = total_two l r q in
          let x' = rw (a, b, sym g.count) at x in
          let y' = rw (c, b, sym g.count) at y in
          let w' = rw (f, a, b) at w in
          let e' = rw (c, f) at e in
          record {
            height = let k = g.height in omega arith;
            count = o ∙ g.count;
            ends = marks_cleared g.ends (nullable r) (total q + 1) (total (l ∷ q) + 1) (omega (arith, o, i)) w'
                (ending_sequence l r q);
            next = cells_cleared h.narrow
                (cells_linked (total q + 1) (total (l ∷ q) + 1) (total (l ∷ q)) (total (r ∷ (l ∷ q))) h.narrow (omega (arith, o, i))
                (omega (arith, o, i)) g.ends g.next x')
                (nullable l) (total (l ∷ q)) (total (r ∷ (l ∷ q))) (omega (arith, o, i)) y' (coming_sequence l r q);
            kept = kept_in S q l (sequence l r) (d - 2) v (sym (low_height q r l g)) (let k = h.models in omega arith)
                e' g.kept.1.1;
          }

  -- `|`
  choice_stepped : {st st' : List Model} → Fits L Bar p E₀ N₀ st st' E N S d n
      → (v : Bool) → v ≡ ((part S (d - 2)).empty || (part S (d - 1)).empty)
      → Shows L.states p E₀ N₀ st' E N (emptied S (d - 2) v) (d - 1) n
  choice_stepped {st} {st'} h v e = go (two_of choice st st' h.pushes) h.shows
    where
      go : {st st' : List Model} → Two choice st st' → Shows L.states p E₀ N₀ st E N S d n
          → Shows L.states p E₀ N₀ st' E N (emptied S (d - 2) v) (d - 1) n
      go (both r l q) g =
          let k : d - 1 ≡ d - 2 + 1 = let z = g.height in omega arith in
          let e' = rw (k, low_empty q r l g, high_empty q r l g) at e in
          record {
            height = let z = g.height in omega arith;
            count = total_two l r q ∙ g.count;
            ends = marks_as g.ends (ending_choice l r q);
            next = cells_as g.next (coming_choice l r q);
            kept = kept_in S q l (choice l r) (d - 2) v (sym (low_height q r l g)) (let z = h.models in omega arith)
                e' g.kept.1.1;
          }

  -- `?`
  maybe_stepped : {st st' : List Model} → Fits L Query p E₀ N₀ st st' E N S d n
      → Shows L.states p E₀ N₀ st' E N (emptied S (d - 1) true) d n
  unfolding flag
  maybe_stepped {st} {st'} h = go (one_of maybe st st' h.pushes) h.shows
    where
      go : {st st' : List Model} → One maybe st st' → Shows L.states p E₀ N₀ st E N S d n
          → Shows L.states p E₀ N₀ st' E N (emptied S (d - 1) true) d n
      go (one m q) g =
          record {
            height = g.height;
            count = g.count;
            ends = marks_as g.ends (ending_maybe m q);
            next = cells_as g.next (coming_maybe m q);
            kept = kept_in S q m (maybe m) (d - 1) true (sym (top_height q m g)) (let z = h.models in omega arith) refl g.kept;
          }

  -- `*` and `+`
  module _ {N' : List ℕ} (x : Changed L.states 1 (joined E N ((part S (d - 1)).start + 1) (n + 1) ((part S (d - 1)).start) n) N N') where
    linked : (m : Model) (q : List Model) → Shows L.states p E₀ N₀ (m ∷ q) E N S d n → total (m ∷ q) ≤ p → p ≤ L.states
        → Cells L.states p N₀ (coming (star m ∷ q)) N'
    linked m q g i w =
        cells_as
        (cells_linked (total q + 1) (total (m ∷ q) + 1) (total q) (total (m ∷ q)) w (omega (arith, i)) i g.ends g.next
        (rw (top_start q m g, sym g.count) at x)) (coming_star m q)

    star_stepped : {st st' : List Model} → Fits L Star p E₀ N₀ st st' E N S d n
        → Shows L.states p E₀ N₀ st' E N' (emptied S (d - 1) true) d n
    unfolding flag
    star_stepped {st} {st'} h = go (one_of star st st' h.pushes) h.shows h.inside
      where
        go : {st st' : List Model} → One star st st' → Shows L.states p E₀ N₀ st E N S d n → total st' ≤ p
            → Shows L.states p E₀ N₀ st' E N' (emptied S (d - 1) true) d n
        go (one m q) g i =
            record {
              height = g.height;
              count = g.count;
              ends = marks_as g.ends (ending_star m q);
              next = linked m q g i h.narrow;
              kept = kept_in S q m (star m) (d - 1) true (sym (top_height q m g)) (let z = h.models in omega arith) refl g.kept;
            }

    plus_stepped : {st st' : List Model} → Fits L Plus p E₀ N₀ st st' E N S d n → Shows L.states p E₀ N₀ st' E N' S d n
    plus_stepped {st} {st'} h = go (one_of plus st st' h.pushes) h.shows h.inside
      where
        go : {st st' : List Model} → One plus st st' → Shows L.states p E₀ N₀ st E N S d n → total st' ≤ p
            → Shows L.states p E₀ N₀ st' E N' S d n
        go (one m q) g i =
            record {
              height = g.height;
              count = g.count;
              ends = marks_as g.ends (ending_plus m q);
              next = cells_as (linked m q g i h.narrow) (coming_plus m q);
              kept = kept_as S q m (plus m) refl g.kept;
            }

module _ (L : Limits) (E N : List ℕ) (S : List Part) (d n : ℕ) where
  pub steps_as : {t t' : Token} {E' N' : List ℕ} {S' : List Part} {d' n' : ℕ} → t ≡ t' → Steps L t' E N S d n E' N' S' d' n'
      → Steps L t E N S d n E' N' S' d' n'
  steps_as {E' = E'} {N'} {S'} {d'} {n'} e = subst (λ (x : Token). Steps L x E N S d n E' N' S' d' n') (sym e)

  pub symbol_steps : (a : ℕ) → Steps L (Symbol a) E N S d n (set E (n + 1) 1) (set N n 1) (set S d (record { start = n; empty = false })) (d + 1) (n + 1)
  symbol_steps a = record { shows = λ h. symbol_stepped L a h }

  pub empty_steps : Steps L Empty E N S d n E N (set S d (record { start = n; empty = true })) (d + 1) n
  empty_steps = record { shows = λ h. empty_stepped L h }

  pub sequence_steps : {E' N₁ N' : List ℕ}
      → Changed L.states 1 (joined E N ((part S (d - 2)).start + 1) ((part S (d - 2 + 1)).start + 1) ((part S (d - 2 + 1)).start) n) N N₁
      → Painted 0 (cleared ((part S (d - 2)).empty) ((part S (d - 2 + 1)).start) n) N₁ N'
      → Painted 0 (cleared ((part S (d - 2 + 1)).empty) ((part S (d - 2)).start + 1) ((part S (d - 2 + 1)).start + 1)) E E'
      → (v : Bool) → v ≡ ((part S (d - 2)).empty && (part S (d - 2 + 1)).empty)
      → Steps L Comma E N S d n E' N' (emptied S (d - 2) v) (d - 2 + 1) n
  sequence_steps x y w v e = record { shows = λ h. sequence_stepped L h x y w v e }

  pub choice_steps : (v : Bool) → v ≡ ((part S (d - 2)).empty || (part S (d - 1)).empty)
      → Steps L Bar E N S d n E N (emptied S (d - 2) v) (d - 1) n
  choice_steps v e = record { shows = λ h. choice_stepped L h v e }

  pub maybe_steps : Steps L Query E N S d n E N (emptied S (d - 1) true) d n
  maybe_steps = record { shows = λ h. maybe_stepped L h }

  module _ {N' : List ℕ} (x : Changed L.states 1 (joined E N ((part S (d - 1)).start + 1) (n + 1) ((part S (d - 1)).start) n) N N') where
    pub star_steps : Steps L Star E N S d n E N' (emptied S (d - 1) true) d n
    star_steps = record { shows = λ h. star_stepped L x h }

    pub plus_steps : Steps L Plus E N S d n E N' S d n
    plus_steps = record { shows = λ h. plus_stepped L x h }
