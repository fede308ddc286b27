-- The first part of a list between spaces, and that a number is read in it as it is read in the list. Assumes nothing.
use Prim.Native.Nat.{ℕ, zero, suc, ◌+◌, ◌*◌, ◌≤◌, ◌<◌}
use mathlib.Core.Path.{◌≡◌, refl, ap, sym, ◌∙◌}
use mathlib.Core.List.{List, [], ◌∷◌}
use mathlib.Core.Bool.{cond}
use native.Mathlib.Omega.{arith}
use native.Mathlib.Nat.{add-zero}
use lib.Dec.{ltb, leb, eqb}
use lib.ListN.{length, get_or, drop}
use borrow.Author.Tests.{lt-ltb, le-ltb, eqb-true, eqb-false, eq-eqb, ne_eqb, ltb-true, ltb-false}
use Rattle.lines.specs.Number.{most_number, digit, more, number}
use Rattle.lines.specs.Lines.{onto}
use Rattle.lines.specs.Number.{Number}
use Rattle.std.specs.Prelude.{Ok, Err}
use Rattle.lines.proofs.Tests.{split}
use Rattle.postfix.specs.Token.{space, parts, first_part}

-- the first part of a list
unfoldable pub front : List ℕ → List ℕ
front l = first_part (parts l)

front_onto : (b : ℕ) (ps : List (List ℕ)) → first_part (onto b ps) ≡ b ∷ first_part ps
unfolding first_part
front_onto b [] = refl
front_onto b (p ∷ ps) = refl

pub front_byte : (b : ℕ) (l : List ℕ) → (b ≡ space → ⊥) → front (b ∷ l) ≡ b ∷ front l
unfolding front parts
front_byte b l h = rw (ne_eqb b space h) (front_onto b (parts l))

pub front_space : (b : ℕ) (l : List ℕ) → b ≡ space → front (b ∷ l) ≡ []
unfolding front parts first_part
front_space b l h = rw (eq-eqb b space h)

-- it has no space, ends where the list has one or ends, and is no longer than the list
pub front_inside : (l : List ℕ) (k : ℕ) → k < length (front l) → (k < length l) × (get_or l k 0 ≡ space → ⊥)
unfolding front parts first_part
front_inside [] k h = absurd (omega arith)
front_inside (b ∷ l) k h =
    split (eqb b space)
    (λ t. absurd (let z = ap length (front_space b l (eqb-true b space t)) in omega (arith, z)))
    (λ t. let z = ap length (front_byte b l (eqb-false b space t)) in at k (eqb-false b space t) (omega (arith, z)) (front_inside l))
  where
    at : (k : ℕ) → (b ≡ space → ⊥) → k < suc (length (front l)) →
        ((j : ℕ) → j < length (front l) → (j < length l) × (get_or l j 0 ≡ space → ⊥)) →
        (k < length (b ∷ l)) × (get_or (b ∷ l) k 0 ≡ space → ⊥)
    at zero n g ih = (omega arith, n)
    at (suc k) n g ih = let m = ih k (omega arith) in (omega (arith, m.0), m.1)

pub front_end : (l : List ℕ) → length (front l) < length l → get_or l (length (front l)) 0 ≡ space
unfolding front parts first_part
front_end [] h = absurd (omega arith)
front_end (b ∷ l) h =
    split (eqb b space)
    (λ t. let z = ap length (front_space b l (eqb-true b space t)) in ap (λ k. get_or (b ∷ l) k 0) z ∙ eqb-true b space t)
    (λ t.
    let z = ap length (front_byte b l (eqb-false b space t)) in
    ap (λ k. get_or (b ∷ l) k 0) z ∙ front_end l (omega (arith, z)))

pub front_short : (l : List ℕ) → length (front l) ≤ length l
unfolding front parts first_part
front_short [] = omega arith
front_short (b ∷ l) =
    split (eqb b space)
    (λ t. let z = ap length (front_space b l (eqb-true b space t)) in omega (arith, z))
    (λ t. let z = ap length (front_byte b l (eqb-false b space t)) in omega (arith, z, front_short l))

-- the parts are the first part and those behind it and a space, if the list does not end there
unfoldable pub behind : List ℕ → ℕ → List (List ℕ)
behind l k = cond (ltb k (length l)) (parts (drop (suc k) l)) []

onto_parts : (b : ℕ) (l : List ℕ) → parts l ≡ front l ∷ behind l (length (front l)) →
    onto b (parts l) ≡ (b ∷ front l) ∷ behind l (length (front l))
onto_parts b l e = ap (onto b) e

behind_suc : (b : ℕ) (l : List ℕ) (k : ℕ) → behind l k ≡ behind (b ∷ l) (suc k)
unfolding behind
behind_suc b l k =
    split (ltb k (length l))
    (λ t. rw (t, lt-ltb (suc k) (suc (length l)) (omega (arith, ltb-true k (length l) t))))
    (λ t. rw (t, le-ltb (suc k) (suc (length l)) (omega (arith, ltb-false k (length l) t))))

pub parts_cut : (l : List ℕ) → parts l ≡ front l ∷ behind l (length (front l))
unfolding front parts first_part behind
parts_cut [] = refl
parts_cut (b ∷ l) =
    split (eqb b space)
    (λ t. rw (t, lt-ltb 0 (suc (length l)) (omega arith)))
    (λ t.
    let z = front_byte b l (eqb-false b space t) in
    let y : parts (b ∷ l) ≡ onto b (parts l) = rw t in
    y ∙ onto_parts b l (parts_cut l) ∙ ap (λ q. (b ∷ front l) ∷ q) (behind_suc b l (length (front l)))
    ∙ ap (λ p. p ∷ behind (b ∷ l) (length p)) (sym z))

-- a number read somewhere else
unfoldable pub moved : ℕ → Number → Number
moved d (Ok (a, i)) = Ok (a, d + i)
moved d (Err i) = Err (d + i)

space_ends : digit space ≡ 10
unfolding digit
space_ends = refl

more_front : (d v i : ℕ) (l : List ℕ) → more v (d + i) l ≡ moved d (more v i (front l))
unfolding more moved front parts first_part
more_front d v i [] = refl
more_front d v i (b ∷ l) =
    split (eqb b space)
    (λ t.
    let s = eqb-true b space t in
    let z : digit b ≡ 10 = ap digit s ∙ space_ends in
    rw (front_space b l s, z))
    (λ t.
    split (ltb (digit b) 10)
    (λ u. split (eqb v 0)
    (λ z. rw (front_byte b l (eqb-false b space t), u, z))
    (λ z. split (leb (v * 10 + digit b) most_number)
    (λ g.
    rw (front_byte b l (eqb-false b space t), u, z, g)
    (ap (λ j. more (v * 10 + digit b) j l) (omega arith) ∙ more_front d (v * 10 + digit b) (i + 1) l))
    (λ g. rw (front_byte b l (eqb-false b space t), u, z, g))))
    (λ u. rw (front_byte b l (eqb-false b space t), u)))

pub number_front : (d : ℕ) (l : List ℕ) → number d l ≡ moved d (number 0 (front l))
unfolding number moved front parts first_part
number_front d [] = ap Err (sym (add-zero d))
number_front d (b ∷ l) =
    split (eqb b space)
    (λ t.
    let s = eqb-true b space t in
    let z : digit b ≡ 10 = ap digit s ∙ space_ends in
    rw (front_space b l s, z) (ap Err (sym (add-zero d))))
    (λ t.
    split (ltb (digit b) 10)
    (λ u. rw (front_byte b l (eqb-false b space t), u) (more_front d (digit b) 1 l))
    (λ u. rw (front_byte b l (eqb-false b space t), u) (ap Err (sym (add-zero d)))))
