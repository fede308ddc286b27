-- A field that writes a model: its symbols are in range, the places no more than the tokens, the bytes few. Assumes nothing.
use Prim.Native.Nat.{ℕ, zero, suc, ◌+◌, ◌*◌, ◌≤◌, ◌<◌}
use mathlib.Core.Path.{◌≡◌, ap}
use mathlib.Core.List.{List, [], ◌∷◌, ◌++◌}
use mathlib.Core.Option.{Option, none, some}
use native.Mathlib.Omega.{arith}
use lib.Dec.{ltb, leb, eqb}
use lib.ListN.{length, length-append}
use borrow.Author.Tests.{eqb-true, ltb-true, leb-true}
use Rattle.paper.specs.Limits.{Limits, at}
use Rattle.lines.specs.Number.{number}
use Rattle.lines.specs.Lines.{onto}
use Rattle.lines.proofs.Tests.{split}
use Rattle.lines.proofs.NumberLaws.{decimal_two}
use Rattle.lines.proofs.FieldLaws.{numbers}
use Rattle.lines.proofs.Within.{number_ends}
use Rattle.model.specs.Model.{Model, symbols, bears, places}
use Rattle.model.specs.Postfix.{push, single, then, read}
use Rattle.model.specs.declared.Token.{Token}
use Rattle.model.specs.declared.Token.TheVariants.{Symbol, Empty, Comma, Bar, Star, Query, Plus}
use Rattle.postfix.specs.Token.{space, parts, sign, symbol_token, sign_of, or_else, token_of}
use Rattle.postfix.specs.Field.{ahead, tokens_of, written, model_in}
use Rattle.postfix.proofs.Parts.{parts_cut}
use Rattle.postfix.proofs.Stack.{total}

-- all numbers of a list are below n, also those of every model of a stack
abbrev Under : ℕ → List ℕ → Type 0
Under n [] = Unit
Under n (a ∷ l) = (a < n) × Under n l

abbrev Stacked : ℕ → List Model → Type 0
Stacked n [] = Unit
Stacked n (m ∷ st) = Under n (symbols m) × Stacked n st

under_append : (n : ℕ) (l k : List ℕ) → Under n l → Under n k → Under n (l ++ k)
under_append n [] k h g = g
under_append n (a ∷ l) k h g = (h.0, under_append n l k h.1 g)

under_at : (n : ℕ) (l : List ℕ) → Under n l → (y : ℕ) → y < length l → at l y < n
under_at n [] h y g = absurd (omega arith)
under_at n (a ∷ l) h zero g = h.0
under_at n (a ∷ l) h (suc y) g = under_at n l h.1 y (omega arith)

-- a token in range, and all of them
abbrev Fits : ℕ → Token → Type 0
Fits n (Symbol a) = a < n
Fits n Empty = Unit
Fits n Comma = Unit
Fits n Bar = Unit
Fits n Star = Unit
Fits n Query = Unit
Fits n Plus = Unit

abbrev All : ℕ → List Token → Type 0
All n [] = Unit
All n (t ∷ ts) = Fits n t × All n ts

-- a stack, if there is one, and a model, if there is one: symbols in range and at most k places
abbrev Sound : ℕ → ℕ → Option (List Model) → Type 0
Sound n k none = Unit
Sound n k (some st) = Stacked n st × (total st ≤ k)

abbrev Good : ℕ → ℕ → Option Model → Type 0
Good n k none = Unit
Good n k (some m) = Under n (symbols m) × (places m ≤ k)

module _ (n k : ℕ) where
  push_sound : (t : Token) (st : List Model) → Fits n t → Stacked n st → total st ≤ k → Sound n (k + 1) (push t st)
  unfolding total
  push_sound (Symbol a) st h s g = (((h, tt), s), omega arith)
  push_sound Empty st h s g = ((tt, s), omega arith)
  push_sound Comma [] h s g = tt
  push_sound Comma (r ∷ []) h s g = tt
  push_sound Comma (r ∷ (l ∷ st)) h s g =
      ((under_append n (symbols l) (symbols r) s.1.0 s.0, s.1.1), omega (arith, length-append (symbols l) (symbols r)))
  push_sound Bar [] h s g = tt
  push_sound Bar (r ∷ []) h s g = tt
  push_sound Bar (r ∷ (l ∷ st)) h s g =
      ((under_append n (symbols l) (symbols r) s.1.0 s.0, s.1.1), omega (arith, length-append (symbols l) (symbols r)))
  push_sound Star [] h s g = tt
  push_sound Star (m ∷ st) h s g = (s, omega arith)
  push_sound Query [] h s g = tt
  push_sound Query (m ∷ st) h s g = (s, omega arith)
  push_sound Plus [] h s g = tt
  push_sound Plus (m ∷ st) h s g = (s, omega arith)

  single_good : (st : List Model) → Stacked n st → total st ≤ k → Good n k (single st)
  unfolding total
  single_good [] s g = tt
  single_good (m ∷ []) s g = (s.0, omega arith)
  single_good (m ∷ (l ∷ st)) s g = tt

then_good : (n k j : ℕ) (o : Option (List Model)) (r : List Model → Option Model) → Sound n k o →
    ((st : List Model) → Stacked n st → total st ≤ k → Good n j (r st)) → Good n j (then o r)
then_good n k j none r h f = tt
then_good n k j (some st) r h f = f st h.0 h.1

good_more : (n k j : ℕ) (o : Option Model) → k ≤ j → Good n k o → Good n j o
good_more n k j none h g = tt
good_more n k j (some m) h g = (g.0, omega (arith, g.1))

read_good : (n : ℕ) (ts : List Token) (k : ℕ) (st : List Model) → All n ts → Stacked n st → total st ≤ k →
    Good n (k + length ts) (read ts st)
read_good n [] k st h s g = good_more n k (k + 0) (single st) (omega arith) (single_good n k st s g)
read_good n (t ∷ ts) k st h s g =
    then_good n (k + 1) (k + suc (length ts)) (push t st) (read ts) (push_sound n k t st h.0 s g)
    (λ st' s' g'.
    good_more n (k + 1 + length ts) (k + suc (length ts)) (read ts st') (omega arith) (read_good n ts (k + 1) st' h.1 s' g'))

-- the token of a part, if it is one, is in range, and the part has at most two bytes where symbols have at most two digits
unfoldable Kept : ℕ → List ℕ → Option Token → Type 0
Kept n p none = Unit
Kept n p (some t) = Fits n t × (n ≤ 100 → length p ≤ 2)

kept_or : (n : ℕ) (p : List ℕ) (o u : Option Token) → Kept n p o → Kept n p u → Kept n p (or_else o u)
unfolding or_else
kept_or n p none u h g = g
kept_or n p (some t) u h g = h

kept_sign : (n b : ℕ) → Kept n (b ∷ []) (sign b)
unfolding sign Kept
kept_sign n b =
    let k : Unit × (n ≤ 100 → length (b ∷ []) ≤ 2) = (tt, λ h. omega arith) in
    split (eqb b 101) (λ t. rw t k) (λ t. rw t (
    split (eqb b 44) (λ t. rw t k) (λ t. rw t (
    split (eqb b 124) (λ t. rw t k) (λ t. rw t (
    split (eqb b 42) (λ t. rw t k) (λ t. rw t (
    split (eqb b 63) (λ t. rw t k) (λ t. rw t (
    split (eqb b 43) (λ t. rw t k) (λ t. rw t tt)))))))))))

kept_signs : (n : ℕ) (p : List ℕ) → Kept n p (sign_of p)
unfolding sign_of Kept
kept_signs n [] = tt
kept_signs n (b ∷ []) = kept_sign n b
kept_signs n (b ∷ (c ∷ l)) = tt

kept_symbol : (n : ℕ) (p : List ℕ) → Kept n p (symbol_token n (length p) (number 0 p))
unfolding symbol_token Kept
kept_symbol n p =
    numbers (number 0 p)
    (λ a k q. split (eqb k (length p))
    (λ u. split (ltb a n)
    (λ v.
    let e = eqb-true k (length p) u in
    let g = ltb-true a n v in
    rw (q, u, v) (g, λ h. let m = number_ends p 0 q in omega (arith, m.0, decimal_two a (omega arith))))
    (λ v. rw (q, u, v) tt))
    (λ u. rw (q, u) tt))
    (λ k q. rw q tt)

-- each part and one more byte
unfoldable spread : List (List ℕ) → ℕ
spread [] = 0
spread (p ∷ ps) = suc (length p) + spread ps

spread_parts : (l : List ℕ) → spread (parts l) ≡ suc (length l)
unfolding spread parts
spread_parts [] = omega arith
spread_parts (b ∷ l) =
    split (eqb b space)
    (λ t. rw t (omega (arith, spread_parts l)))
    (λ t.
    let c = parts_cut l in
    let e = ap (λ ps. spread (onto b ps)) c in
    let d = ap spread c in
    rw t (omega (arith, e, d, spread_parts l)))

unfoldable Each : ℕ → List (List ℕ) → Option (List Token) → Type 0
Each n ps none = Unit
Each n ps (some ts) = All n ts × (n ≤ 100 → spread ps ≤ 3 * length ts)

ahead_each : (n : ℕ) (p : List ℕ) (ps : List (List ℕ)) (o : Option Token) (u : Option (List Token)) → Kept n p o → Each n ps u →
    Each n (p ∷ ps) (ahead o u)
unfolding ahead Kept Each spread
ahead_each n p ps none u h g = tt
ahead_each n p ps (some t) none h g = tt
ahead_each n p ps (some t) (some ts) h g = ((h.0, g.0), λ l. let x = h.1 l in let y = g.1 l in omega (arith, x, y))

tokens_each : (n : ℕ) (ps : List (List ℕ)) → Each n ps (tokens_of n ps)
unfolding tokens_of Each spread token_of
tokens_each n [] = (tt, λ h. omega arith)
tokens_each n (p ∷ ps) =
    let k = kept_or n p (sign_of p) (symbol_token n (length p) (number 0 p)) (kept_signs n p) (kept_symbol n p) in
    ahead_each n p ps (token_of n p) (tokens_of n ps) k (tokens_each n ps)

-- all of this, of the model of a field, if there is one
abbrev Known : Limits → ℕ → List ℕ → Option Model → Type 0
Known L n f none = Unit
Known L n f (some m) = Under n (symbols m) × (places m ≤ L.tokens) × (n ≤ 100 → length f + 1 ≤ 3 * L.tokens)

known_good : (L : Limits) (n : ℕ) (f : List ℕ) (o : Option Model) → Good n L.tokens o → (n ≤ 100 → length f + 1 ≤ 3 * L.tokens) →
    Known L n f o
known_good L n f none h g = tt
known_good L n f (some m) h g = (h.0, h.1, g)

known_written : (L : Limits) (n : ℕ) (f : List ℕ) (o : Option (List Token)) → Each n (parts f) o → Known L n f (written L o)
unfolding written Each total
known_written L n f none h = tt
known_written L n f (some ts) h =
    split (leb (length ts) L.tokens)
    (λ t.
    let k = leb-true (length ts) L.tokens t in
    let g = good_more n (0 + length ts) L.tokens (read ts []) (omega arith) (read_good n ts 0 [] h.0 tt (omega arith)) in
    rw t (known_good L n f (read ts []) g (λ l. let x = h.1 l in omega (arith, x, spread_parts f, k))))
    (λ t. rw t tt)

module _ (L : Limits) (n : ℕ) (f : List ℕ) (m : Model) (e : model_in L n f ≡ some m) where
  known : Known L n f (some m)
  unfolding model_in
  known = rw e at (known_written L n f (tokens_of n (parts f)) (tokens_each n (parts f)))

  -- every symbol is one of the n
  pub model_symbols : (y : ℕ) → y < places m → bears m y < n
  model_symbols y h = under_at n (symbols m) known.0 y h

  -- no more places than tokens
  pub model_places : places m ≤ L.tokens
  model_places = known.1

  -- three bytes a token are enough, the space behind it among them
  pub model_tokens : n ≤ 100 → length f + 1 ≤ 3 * L.tokens
  model_tokens h = known.2 h
