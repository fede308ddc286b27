-- The models that a token takes from a stack, and what it leaves there. Assumes nothing.
use Prim.Native.Nat.{ℕ, suc, ◌+◌, ◌≤◌, ◌<◌}
use mathlib.Core.Path.{◌≡◌, refl, sym, ap, ap₂, ◌∙◌}
use mathlib.Core.Option.{Option, none, some}
use mathlib.Core.List.{List, [], ◌∷◌, ◌++◌, append_assoc, append-nil}
use native.Mathlib.Numerals.{add-one}
use native.Mathlib.Omega.{arith}
use lib.ListN.{length, set, drop}
use lib.Seq.{drop-cons, set_at, append_snoc}
use Rattle.paper.specs.Limits.{at}
use Rattle.model.specs.Model.{Model, symbol, empty, sequence, choice, star, maybe, plus, symbols, places}
use Rattle.model.specs.Postfix.{push, two, last, single, then, read}
use Rattle.model.specs.declared.Token.{Token}
use Rattle.model.specs.declared.Token.TheVariants.{Symbol, Empty, Comma, Bar, Star, Query, Plus}
use Rattle.postfix.proofs.TokenLaws.{none_some}
use Rattle.model_sets.specs.Stack.{borne, total, bearing}
use Rattle.model_sets.proofs.Flags.{total_two, borne_length}

pub data One (f : Model → Model) : List Model → List Model → Type 0 where
  one : (m : Model) (q : List Model) → One f (m ∷ q) (f m ∷ q)

pub data Two (f : Model → Model → Model) : List Model → List Model → Type 0 where
  both : (r l : Model) (q : List Model) → Two f (r ∷ (l ∷ q)) (f l r ∷ q)

pub one_of : (f : Model → Model) (st st' : List Model) → last f st ≡ some st' → One f st st'
one_of f [] st' e = absurd (none_some e)
one_of f (m ∷ q) st' e = let z : f m ∷ q ≡ st' = cc in rw (← z) (one m q)

pub two_of : (f : Model → Model → Model) (st st' : List Model) → two f st ≡ some st' → Two f st st'
two_of f [] st' e = absurd (none_some e)
two_of f (r ∷ []) st' e = absurd (none_some e)
two_of f (r ∷ (l ∷ q)) st' e = let z : f l r ∷ q ≡ st' = cc in rw (← z) (both r l q)

-- what the places of a stack bear, in front of the rest of B
abbrev Front : List ℕ → List Model → List ℕ
Front B st = borne st ++ drop (total st) B

-- a token takes no place away, and only a symbol adds one
pub record Grows (t : Token) (B : List ℕ) (st st' : List Model) : Type 0 where
  pub more : total st ≤ total st'
  pub height : length st' ≤ suc (length st)
  pub bears : total st' ≤ length B → bearing t (total st) (Front B st) ≡ Front B st'

set_behind : (xs B : List ℕ) (a k : ℕ) → length xs ≡ k → k < length B → set (xs ++ drop k B) k a ≡ (xs ++ (a ∷ [])) ++ drop (k + 1) B
set_behind xs B a k e h =
    rw (drop-cons B k 0 h, set_at xs (at B k) (drop (suc k) B) a k e)
    (sym (append_snoc xs a (drop (suc k) B)) ∙ ap (λ (i : ℕ). (xs ++ (a ∷ [])) ++ drop i B) (sym (add-one k)))

two_front : (B : List ℕ) (l r : Model) (q : List Model) → Front B (r ∷ (l ∷ q))
    ≡ (borne q ++ (symbols l ++ symbols r)) ++ drop (total q + length (symbols l ++ symbols r)) B
two_front B l r q =
    ap₂ (λ (xs : List ℕ) (i : ℕ). xs ++ drop i B) (append_assoc (borne q) (symbols l) (symbols r)) (sym (total_two l r q))

module _ (B : List ℕ) where
  symbol_grows : (a : ℕ) (st : List Model) → Grows (Symbol a) B st (symbol a ∷ st)
  unfolding bearing
  symbol_grows a st =
      record {
        more = omega arith;
        height = omega arith;
        bears = λ h. set_behind (borne st) B a (total st) (borne_length st) (omega arith);
      }

  empty_grows : (st : List Model) → Grows Empty B st (empty ∷ st)
  unfolding bearing
  empty_grows st =
      let e : total st ≡ total st + 0 = omega arith in
      record {
        more = omega arith;
        height = omega arith;
        bears = λ h. ap₂ (λ (xs : List ℕ) (i : ℕ). xs ++ drop i B) (sym (append-nil (borne st))) e;
      }

  comma_grows : {st st' : List Model} → Two sequence st st' → Grows Comma B st st'
  unfolding bearing
  comma_grows (both r l q) = record { more = omega (arith, total_two l r q); height = omega arith; bears = λ h. two_front B l r q }

  bar_grows : {st st' : List Model} → Two choice st st' → Grows Bar B st st'
  unfolding bearing
  bar_grows (both r l q) = record { more = omega (arith, total_two l r q); height = omega arith; bears = λ h. two_front B l r q }

  star_grows : {st st' : List Model} → One star st st' → Grows Star B st st'
  unfolding bearing
  star_grows (one m q) = record { more = omega arith; height = omega arith; bears = λ h. refl }

  query_grows : {st st' : List Model} → One maybe st st' → Grows Query B st st'
  unfolding bearing
  query_grows (one m q) = record { more = omega arith; height = omega arith; bears = λ h. refl }

  plus_grows : {st st' : List Model} → One plus st st' → Grows Plus B st st'
  unfolding bearing
  plus_grows (one m q) = record { more = omega arith; height = omega arith; bears = λ h. refl }

  pub grows : (t : Token) (st st' : List Model) → push t st ≡ some st' → Grows t B st st'
  grows (Symbol a) st st' e = let z : symbol a ∷ st ≡ st' = cc in rw (← z) (symbol_grows a st)
  grows Empty st st' e = let z : empty ∷ st ≡ st' = cc in rw (← z) (empty_grows st)
  grows Comma st st' e = comma_grows (two_of sequence st st' e)
  grows Bar st st' e = bar_grows (two_of choice st st' e)
  grows Star st st' e = star_grows (one_of star st st' e)
  grows Query st st' e = query_grows (one_of maybe st st' e)
  grows Plus st st' e = plus_grows (one_of plus st st' e)

-- the models of a stack have no more places than the model that comes of it
pub one_left : (st : List Model) {m : Model} → single st ≡ some m → st ≡ m ∷ []
one_left [] e = absurd (none_some e)
one_left (k ∷ []) e = cc
one_left (k ∷ (l ∷ st)) e = absurd (none_some e)

pub then_some : (o : Option (List Model)) (k : List Model → Option Model) {m : Model} → then o k ≡ some m
    → (st : List Model) × ((o ≡ some st) × (k st ≡ some m))
then_some none k e = absurd (none_some e)
then_some (some st) k e = (st, (refl, e))

pub read_total : (ts : List Token) (st : List Model) {m : Model} → read ts st ≡ some m → total st ≤ places m
read_total [] st {m} e = rw (one_left st e) (omega arith)
read_total (t ∷ ts) st {m} e =
    let x = then_some (push t st) (read ts) e in
    let h = (grows [] t st x.0 x.1.0).more in
    omega (arith, h, read_total ts x.0 x.1.1)

-- what a token adds to what is borne
pub bear_one : {t : Token} {a : ℕ} (n : ℕ) (B : List ℕ) → t ≡ Symbol a → set B n a ≡ bearing t n B
unfolding bearing
bear_one n B e = rw e refl

pub bear_none : (t : Token) (n : ℕ) (B : List ℕ) → ((a : ℕ) → t ≡ Symbol a → ⊥) → B ≡ bearing t n B
unfolding bearing
bear_none (Symbol a) n B h = absurd (h a refl)
bear_none Empty n B h = refl
bear_none Comma n B h = refl
bear_none Bar n B h = refl
bear_none Star n B h = refl
bear_none Query n B h = refl
bear_none Plus n B h = refl
