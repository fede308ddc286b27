-- The loop over the tokens, as laws: what holds at its head, one more token, and its end. Assumes nothing.
use Prim.Native.Nat.{ℕ, zero, suc, ◌+◌, ◌*◌, ◌≤◌, ◌<◌}
use mathlib.Core.Path.{◌≡◌, refl, sym, ap, subst, ◌∙◌}
use mathlib.Core.Bool.{Bool, cond, ◌&&◌}
use mathlib.Core.Option.{Option, none, some}
use mathlib.Core.List.{List, [], ◌∷◌, ◌++◌}
use native.Mathlib.Nat.{zero-add}
use native.Mathlib.Omega.{arith}
use borrow.Author.Tests.{le-ltb, leb-true, ltb-true, le-leb}
use lib.ListN.{length, set, drop, length-drop, length-set}
use lib.Seq.{get_or-set_same, get_or-set_other}
use lib.Dec.{leb, ltb}
use Rattle.paper.specs.Limits.{Limits, at}
use Rattle.lines.proofs.Tests.{split}
use Rattle.model.specs.Model.{Model, symbol, symbols, places}
use Rattle.model.specs.Sets.{comes, ends}
use Rattle.model.specs.Postfix.{push, read}
use Rattle.model.specs.declared.Token.{Token}
use Rattle.model.specs.declared.Token.TheVariants.{Symbol}
use Rattle.postfix.specs.Token.{parts, token_of, one, token_at}
use Rattle.postfix.specs.Field.{ahead, tokens_of, written, model_in}
use Rattle.postfix.specs.declared.Reading.{Reading}
use Rattle.postfix.specs.declared.Reading.TheVariants.{One}
use Rattle.postfix.proofs.TokenLaws.{none_some}
use Rattle.postfix.proofs.Parts.{front, front_short}
use Rattle.postfix.proofs.Stack.{left, left_cut, left_end, token_given}
use Rattle.model_sets.specs.Sets.{flag, Room, Holds}
use Rattle.model_sets.specs.Stack.{part, borne, total, ending, coming, Marks, Cells, Shows, Fits, Ready, Steps, bearing, Begins}
use Rattle.model_sets.specs.declared.Part.{Part}
use Rattle.model_sets.proofs.Flags.{mark_nullable}
use Rattle.model_sets.proofs.Taken.{grows, one_left, then_some, read_total}

pub record Going (L : Limits) (n : ℕ) (f B₀ E₀ N₀ : List ℕ) (i : ℕ) (B E N : List ℕ) (S : List Part) (d k : ℕ) : Type 0 where
  pub m : Model
  pub model : model_in L n f ≡ some m
  pub room : Room L.states (places m) (length B) (length E) (length N)
  pub ts : List Token
  pub st : List Model
  pub tokens : tokens_of n (left f i) ≡ some ts
  pub reads : read ts st ≡ some m
  pub few : length st + length ts ≤ L.tokens
  pub inside : i ≤ suc (length f)
  pub models : length S ≡ L.tokens
  pub shows : Shows L.states (places m) E₀ N₀ st E N S d k
  pub bears : B ≡ borne st ++ drop (total st) B₀

-- the tokens of a model
written_some : (L : Limits) (o : Option (List Token)) {m : Model} → written L o ≡ some m
    → (ts : List Token) × ((o ≡ some ts) × ((read ts [] ≡ some m) × (length ts ≤ L.tokens)))
unfolding written
written_some L none e = absurd (none_some e)
written_some L (some ts) e =
    split (leb (length ts) L.tokens)
    (λ t. (ts, (refl, (rw t at e, leb-true (length ts) L.tokens t))))
    (λ t. absurd (none_some (rw t at e)))

ahead_some : (t : Token) (o : Option (List Token)) {ts : List Token} → ahead (some t) o ≡ some ts
    → (us : List Token) × ((o ≡ some us) × (ts ≡ t ∷ us))
unfolding ahead
ahead_some t none e = absurd (none_some e)
ahead_some t (some us) e = (us, (refl, cc))

ahead_token : (o : Option Token) (p : Option (List Token)) {ts : List Token} → ahead o p ≡ some ts → (t : Token) × (o ≡ some t)
unfolding ahead
ahead_token none p e = absurd (none_some e)
ahead_token (some t) p e = (t, refl)

-- a token that the first part is, is read
token_is : (n : ℕ) (f : List ℕ) (i : ℕ) → i ≤ length f → {t : Token} → token_of n (front (drop i f)) ≡ some t
    → token_at n f i ≡ One t (i + suc (length (front (drop i f))))
unfolding token_at front one
token_is n f i h e = rw (le-ltb (length f) i h, e) refl

-- the start
clear_marks : (p : ℕ) (E : List ℕ) → ((i : ℕ) → i ≤ p → at E i ≡ 0) → Marks p E (ending []) E
unfolding flag
clear_marks p E h = record { cell = λ i. split (leb i p) (λ t. rw t (h i (leb-true i p t) ∙ none i)) (λ t. rw t refl) }
  where
    none : (i : ℕ) → 0 ≡ flag (ending [] i)
    none zero = refl
    none (suc x) = refl

clear_cells : (s p : ℕ) (N : List ℕ) → ((i y : ℕ) → i ≤ p → y < p → at N (i * s + y) ≡ 0) → Cells s p N (coming []) N
unfolding flag
clear_cells s p N h =
    record {
      cell = λ i y l. split (leb i p)
          (λ t. split (ltb y p) (λ u. rw (t, u) (h i y (leb-true i p t) (ltb-true y p u) ∙ none i y)) (λ u. rw (t, u) refl))
          (λ t. rw t refl);
    }
  where
    none : (i y : ℕ) → 0 ≡ flag (coming [] i y)
    none zero y = refl
    none (suc x) y = refl

-- one model is left: its flags are the sets, once the flag of the start is set
comes_one : (m : Model) (i y : ℕ) → coming (m ∷ []) i y ≡ comes m i y
comes_one m zero y = refl
comes_one m (suc x) y = refl

module _ {s : ℕ} {B₀ E₀ N₀ B E N : List ℕ} {S : List Part} {d k : ℕ} (m : Model) where
  held : places m < length E → Shows s (places m) E₀ N₀ (m ∷ []) E N S d k → B ≡ borne (m ∷ []) ++ drop (total (m ∷ [])) B₀
      → length E ≡ length E₀ → length N ≡ length N₀ → Holds s m B₀ E₀ N₀ B (set E 0 (flag ((part S 0).empty))) N
  held l g b le ln =
      record {
        bearing = b ∙ ap (λ (x : ℕ). symbols m ++ drop x B₀) (zero-add (places m));
        ends_length = length-set E 0 (flag ((part S 0).empty)) ∙ le;
        ending = ended;
        next_length = ln;
        coming = λ i y h. g.next.cell i y h
            ∙ ap (λ (t : Bool). cond (leb i (places m) && ltb y (places m)) (flag t) (at N₀ (i * s + y))) (comes_one m i y);
      }
    where
      ended : (i : ℕ) → at (set E 0 (flag ((part S 0).empty))) i ≡ cond (leb i (places m)) (flag (ends m i)) (at E₀ i)
      ended zero =
          rw (le-leb 0 (places m) (omega arith), mark_nullable m 0)
          (get_or-set_same E 0 (flag ((part S 0).empty)) 0 (omega arith) ∙ ap flag g.kept.1.0)
      ended (suc x) = get_or-set_other E 0 (suc x) (flag ((part S 0).empty)) 0 (λ e. omega arith) ∙ g.ends.cell (suc x)

module _ (L : Limits) where
  pub going_start : {n : ℕ} {f B E N : List ℕ} {S : List Part} → Begins L n f B E N → length S ≡ L.tokens
      → Going L n f B E N 0 B E N S 0 0
  unfolding model_in left
  going_start {n} {f} {B} {E} {N} b hs =
      let x = written_some L (tokens_of n (parts f)) b.model in
      record {
        m = b.m;
        model = b.model;
        room = b.room;
        ts = x.0;
        st = [];
        tokens = rw (le-leb 0 (length f) (omega arith)) x.1.0;
        reads = x.1.1.0;
        few = omega (arith, x.1.1.1);
        inside = omega arith;
        models = hs;
        shows = record {
          height = refl;
          count = refl;
          ends = clear_marks (places b.m) E b.ends;
          next = clear_cells L.states (places b.m) N b.next;
          kept = tt;
        };
        bears = refl;
      }

  module _ {n : ℕ} {f B₀ E₀ N₀ : List ℕ} {i : ℕ} {B E N : List ℕ} {S : List Part} {d k : ℕ} (g : Going L n f B₀ E₀ N₀ i B E N S d k) where
    module _ (h : i ≤ length f) where
      cut : {o : Option Token} {j : ℕ} → token_of n (front (drop i f)) ≡ o → j ≡ i + suc (length (front (drop i f)))
          → ahead o (tokens_of n (left f j)) ≡ some g.ts
      unfolding tokens_of
      cut {o} {j} e q = sym (ap (tokens_of n) (left_cut f i h) ∙ rw (e, ← q) refl) ∙ g.tokens

      -- something bad is never read
      pub going_bad : {r : Reading} → r ≡ token_at n f i → ((t : Token) (j : ℕ) → r ≡ One t j → ⊥) → ⊥
      going_bad {r} e t =
          let x = ahead_token (token_of n (front (drop i f))) (tokens_of n (left f (i + suc (length (front (drop i f)))))) (cut refl refl) in
          t x.0 (i + suc (length (front (drop i f)))) (e ∙ token_is n f i h x.1)

      module _ {t : Token} {j : ℕ} (e : token_at n f i ≡ One t j) where
        rest : (us : List Token) × ((tokens_of n (left f j) ≡ some us) × (g.ts ≡ t ∷ us))
        rest = let z = token_given n f i h e in ahead_some t (tokens_of n (left f j)) (cut z.0 z.1)

        pushes : (st' : List Model) × ((push t g.st ≡ some st') × (read rest.0 st' ≡ some g.m))
        pushes =
            then_some (push t g.st) (read rest.0)
            (subst (λ (x : List Token). read x g.st ≡ some g.m) rest.1.1 g.reads)

        fewer : length g.st + suc (length rest.0) ≤ L.tokens
        fewer = subst (λ (x : List Token). length g.st + length x ≤ L.tokens) rest.1.1 g.few

        pub going_past : i < j
        going_past = let z = token_given n f i h e in omega (arith, z.1)

        going_fits : Fits L t (places g.m) E₀ N₀ g.st pushes.0 E N S d k
        going_fits =
            record {
              shows = g.shows;
              pushes = pushes.1.0;
              inside = read_total rest.0 pushes.0 pushes.1.1;
              narrow = g.room.0;
              ends = g.room.1.1.0;
              next = g.room.1.1.1;
              models = omega (arith, fewer, g.shows.height, g.models);
            }

        pub going_ready : Ready L t E N S d k
        going_ready = record { p = places g.m; E₀ = E₀; N₀ = N₀; st = g.st; st' = pushes.0; fits = going_fits }

        pub going_room : (a : ℕ) → t ≡ Symbol a → k < length B
        going_room a z =
            let x : some (symbol a ∷ g.st) ≡ some pushes.0 = ap (λ (u : Token). push u g.st) (sym z) ∙ pushes.1.0 in
            let y : symbol a ∷ g.st ≡ pushes.0 = cc in
            let w = subst (λ (u : List Model). total u ≤ places g.m) (sym y) going_fits.inside in
            omega (arith, w, g.shows.count, g.room.1.0)

        pub going_on : {B' E' N' : List ℕ} {S' : List Part} {d' k' : ℕ} → B' ≡ bearing t k B → Steps L t E N S d k E' N' S' d' k'
            → length B' ≡ length B → length E' ≡ length E → length N' ≡ length N → length S' ≡ length S
            → length B ≡ length B₀ → Going L n f B₀ E₀ N₀ j B' E' N' S' d' k'
        going_on {B'} {E'} {N'} {S'} {d'} {k'} b s lb le ln ls l₀ =
            let z = token_given n f i h e in
            let o = going_fits.inside in
            let y = grows B₀ t g.st pushes.0 pushes.1.0 in
            let w = y.bears (omega (arith, o, g.room.1.0, l₀)) in
            record {
              m = g.m;
              model = g.model;
              room = rw (lb, le, ln) g.room;
              ts = rest.0;
              st = pushes.0;
              tokens = rest.1.0;
              reads = pushes.1.1;
              few = omega (arith, fewer, y.height);
              inside = omega (arith, z.1, front_short (drop i f), length-drop i f);
              models = ls ∙ g.models;
              shows = s.shows going_fits;
              bears = b ∙ ap (bearing t k) g.bears
                  ∙ ap (λ (x : ℕ). bearing t x (borne g.st ++ drop (total g.st) B₀)) (sym g.shows.count) ∙ w;
            }

    -- the end
    going_model : length f < i → g.st ≡ g.m ∷ []
    unfolding tokens_of
    going_model h =
        let e : some [] ≡ some g.ts = sym (ap (tokens_of n) (left_end f i h)) ∙ g.tokens in
        let z : [] ≡ g.ts = cc in
        one_left g.st (subst (λ (x : List Token). read x g.st ≡ some g.m) (sym z) g.reads)

    pub going_end : length f < i → length E ≡ length E₀ → length N ≡ length N₀ → (m : Model) → model_in L n f ≡ some m
        → Holds L.states m B₀ E₀ N₀ B (set E 0 (flag ((part S 0).empty))) N
    going_end h le ln m e =
        let q : some m ≡ some g.m = sym e ∙ g.model in
        let z : m ≡ g.m = cc in
        rw z
        (held g.m g.room.1.1.0
        (subst (λ (x : List Model). Shows L.states (places g.m) E₀ N₀ x E N S d k) (going_model h) g.shows)
        (subst (λ (x : List Model). B ≡ borne x ++ drop (total x) B₀) (going_model h) g.bears) le ln)
