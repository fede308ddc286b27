-- Reading a token in place finds what the first part from there on is. Assumes nothing.
use Prim.Native.Nat.{ℕ, suc, ◌+◌, ◌≤◌, ◌<◌}
use mathlib.Core.Path.{◌≡◌, refl, ap, sym, ◌∙◌}
use mathlib.Core.List.{List, [], ◌∷◌}
use mathlib.Core.Bool.{cond}
use mathlib.Core.Option.{none, some}
use native.Mathlib.Omega.{arith}
use lib.Dec.{ltb, eqb}
use lib.ListN.{length, get_or, drop, length-drop, drop_of_length-le}
use lib.Seq.{get_or-drop}
use borrow.Author.Tests.{lt-ltb, le-ltb, eqb-true, eqb-false, eq-eqb, ne_eqb, ltb-true, ltb-false}
use Rattle.lines.specs.Number.{digit, number}
use Rattle.std.specs.Prelude.{Ok, Err}
use Rattle.lines.proofs.Tests.{split}
use Rattle.lines.proofs.Places.{from}
use Rattle.lines.proofs.NumberLaws.{byte_digit, not_both, same_value}
use Rattle.lines.proofs.FieldLaws.{numbers}
use Rattle.lines.proofs.Within.{number_ends}
use Rattle.model.specs.declared.Token.{Token}
use Rattle.model.specs.declared.Token.TheVariants.{Symbol, Empty, Comma, Bar, Star, Query, Plus}
use Rattle.postfix.specs.Token.{space, parts, first_part, sign, symbol_token, sign_of, or_else, token_of, one, token_at}
use Rattle.postfix.specs.Steps.{symbol_at, closed, adds}
use Rattle.postfix.specs.declared.Reading.TheVariants as read
use Rattle.postfix.proofs.Parts.{front, front_byte, front_space, front_inside, front_end, front_short, moved, number_front}

-- only a symbol adds a place
pub adds_none : (t : Token) → ((a : ℕ) → t ≡ Symbol a → ⊥) → 0 ≡ adds t
unfolding adds
adds_none (Symbol a) h = absurd (h a refl)
adds_none Empty h = refl
adds_none Comma h = refl
adds_none Bar h = refl
adds_none Star h = refl
adds_none Query h = refl
adds_none Plus h = refl

-- no digit and no space is a sign
sign_digit : (b : ℕ) → 48 ≤ b → b ≤ 57 → sign b ≡ none
unfolding sign
sign_digit b h g =
    rw (
      ne_eqb b 101 (λ e. omega arith),
      ne_eqb b 44 (λ e. omega arith),
      ne_eqb b 124 (λ e. omega arith),
      ne_eqb b 42 (λ e. omega arith),
      ne_eqb b 63 (λ e. omega arith),
      ne_eqb b 43 (λ e. omega arith),
    )

pub none_some : {A : Type 0} {a : A} → none ≡ some a → ⊥
none_some e = let z : ◌≡◌ {A = ℕ} 0 1 = cc in omega arith

sign_space : {t : Token} (b : ℕ) → sign b ≡ some t → b ≡ space → ⊥
unfolding sign
sign_space {t} b h e = none_some (rw e at h)

sign_no_digit : {t : Token} (b : ℕ) → sign b ≡ some t → 10 ≤ digit b
sign_no_digit {t} b h =
    split (ltb (digit b) 10)
    (λ u.
    let d = ltb-true (digit b) 10 u in
    let e = byte_digit b d in
    absurd (none_some (sym (sign_digit b (omega arith) (omega arith)) ∙ h)))
    (λ u. ltb-false (digit b) 10 u)

-- a part that begins with a sign is that sign, if it has no other byte
sign_part : {t : Token} (n i b : ℕ) (q : List ℕ) → sign b ≡ some t →
    one (token_of n (b ∷ q)) (i + suc (suc (length q))) ≡ cond (eqb 1 (suc (length q))) (read.One t (i + 2)) read.Bad
unfolding one token_of sign_of or_else symbol_token number
sign_part {t} n i b [] h = rw h
sign_part {t} n i b (d ∷ q) h =
    rw (le-ltb (digit b) 10 (sign_no_digit b h), ne_eqb 1 (suc (suc (length q))) (λ e. omega arith))

-- a part that begins with no sign is none
no_sign : (b : ℕ) (q : List ℕ) → sign b ≡ none → sign_of (b ∷ q) ≡ none
unfolding sign_of
no_sign b [] h = h
no_sign b (d ∷ q) h = refl

front_no_sign : (b : ℕ) (l : List ℕ) → sign b ≡ none → sign_of (front (b ∷ l)) ≡ none
unfolding sign_of
front_no_sign b l h =
    split (eqb b space)
    (λ t. rw (front_space b l (eqb-true b space t)))
    (λ t. rw (front_byte b l (eqb-false b space t)) (no_sign b (front l) h))

module _ (f : List ℕ) (i : ℕ) where
  -- a token that ends within the part from i on is closed where the part ends
  closed_part : (t : Token) (k : ℕ) → i ≤ length f → k ≤ length (front (drop i f)) →
      closed f t (i + k) ≡ cond (eqb k (length (front (drop i f)))) (read.One t (i + suc k)) read.Bad
  unfolding closed
  closed_part t k h g =
      let s = front_short (drop i f) in
      let l = length-drop i f in
      let b = get_or-drop i f k 0 in
      split (eqb k (length (front (drop i f))))
      (λ u.
      let e = eqb-true k (length (front (drop i f))) u in
      split (ltb (i + k) (length f))
      (λ v.
      let w = ltb-true (i + k) (length f) v in
      let z = front_end (drop i f) (omega (arith, s, l, w, e)) in
      let y : get_or f (i + k) 0 ≡ space = sym b ∙ ap (λ j. get_or (drop i f) j 0) e ∙ z in
      rw (v, u, eq-eqb (get_or f (i + k) 0) space y) (ap (read.One t) (omega arith)))
      (λ v. rw (v, u) (ap (read.One t) (omega arith))))
      (λ u.
      let e = eqb-false k (length (front (drop i f))) u in
      let m = front_inside (drop i f) k (omega (arith, g, e)) in
      rw (lt-ltb (i + k) (length f) (omega (arith, m.0, l)), u, ne_eqb (get_or f (i + k) 0) space (λ z. m.1 (b ∙ z))))

  -- what reading a number at i says of the part
  symbol_found : (n a e : ℕ) → number i (drop i f) ≡ Ok (a, e) →
      (k : ℕ) × (number 0 (front (drop i f)) ≡ Ok (a, k)) × (e ≡ i + k) × (k ≤ length (front (drop i f)))
  unfolding moved
  symbol_found n a e h =
      let p = front (drop i f) in
      let m : moved i (number 0 p) ≡ Ok (a, e) = sym (number_front i (drop i f)) ∙ h in
      numbers (number 0 p)
      (λ a' k q.
      let z = same_value (rw q at m) in
      (k, q ∙ ap (λ c. Ok (c, k)) z.0, sym z.1, (number_ends p 0 q).1))
      (λ k q. absurd (not_both (rw q at m)))

  pub symbol_bad : (n : ℕ) {e : ℕ} → number i (drop i f) ≡ Err e → read.Bad ≡ symbol_at n f i
  unfolding symbol_at moved symbol_token one front
  symbol_bad n {e} h =
      let p = front (drop i f) in
      let m : moved i (number 0 p) ≡ Err e = sym (number_front i (drop i f)) ∙ h in
      numbers (number 0 p)
      (λ a k q. absurd (not_both (sym (rw q at m))))
      (λ k q. rw q)

  pub symbol_over : (n : ℕ) {a e : ℕ} → number i (drop i f) ≡ Ok (a, e) → n ≤ a → read.Bad ≡ symbol_at n f i
  unfolding symbol_at symbol_token one front
  symbol_over n {a} {e} h g =
      let m = symbol_found n a e h in
      split (eqb m.0 (length (front (drop i f)))) (λ u. rw (m.1, u, le-ltb a n g)) (λ u. rw (m.1, u))

  pub symbol_read : (n : ℕ) {a e : ℕ} → number i (drop i f) ≡ Ok (a, e) → a < n → closed f (Symbol a) e ≡ symbol_at n f i
  unfolding symbol_at symbol_token one front
  symbol_read n {a} {e} h g =
      let m = symbol_found n a e h in
      let l = number_ends f i h in
      ap (closed f (Symbol a)) m.2 ∙ closed_part (Symbol a) m.0 (omega (arith, l.0, l.1)) m.3
      ∙ split (eqb m.0 (length (front (drop i f))))
      (λ u.
      let z = eqb-true m.0 (length (front (drop i f))) u in
      rw (m.1, u, lt-ltb a n g) (ap (λ k. read.One (Symbol a) (i + suc k)) z))
      (λ u. rw (m.1, u))

  pub token_none : (n : ℕ) → length f < i → read.None ≡ token_at n f i
  unfolding token_at
  token_none n h = rw (lt-ltb (length f) i h)

  pub token_end : (n : ℕ) → length f ≡ i → read.Bad ≡ token_at n f i
  unfolding token_at token_of sign_of or_else symbol_token number one parts first_part
  token_end n h = rw (le-ltb (length f) i (omega arith), drop_of_length-le f {i = i} (omega arith))

  pub token_sign : (n : ℕ) {b : ℕ} {t : Token} → i < length f → get_or f i 0 ≡ b → sign b ≡ some t → closed f t (i + 1) ≡ token_at n f i
  unfolding token_at front
  token_sign n {b} {t} h e s =
      let d = from f i h ∙ ap (λ c. c ∷ drop (i + 1) f) e in
      let p : front (drop i f) ≡ b ∷ front (drop (i + 1) f) = ap front d ∙ front_byte b (drop (i + 1) f) (sign_space b s) in
      closed_part t 1 (omega arith) (omega (arith, ap length p))
      ∙ ap (λ k. cond (eqb 1 k) (read.One t (i + 2)) read.Bad) (ap length p)
      ∙ sym (sign_part n i b (front (drop (i + 1) f)) s)
      ∙ rw (le-ltb (length f) i (omega arith)) (ap (λ q. one (token_of n q) (i + suc (length q))) (sym p))

  pub token_symbol : (n : ℕ) → i < length f → sign (get_or f i 0) ≡ none → symbol_at n f i ≡ token_at n f i
  unfolding token_at symbol_at token_of or_else front
  token_symbol n h s =
      let e : sign_of (front (drop i f)) ≡ none =
      ap (λ l. sign_of (front l)) (from f i h) ∙ front_no_sign (get_or f i 0) (drop (i + 1) f) s in
      rw (le-ltb (length f) i (omega arith), e)
