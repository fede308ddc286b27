-- Reading what was written gives the number, and writing what was read gives the bytes.
use Prim.Native.Nat.{ℕ, zero, suc, ◌+◌, ◌-◌, ◌*◌, ◌/◌, ◌%◌, ◌^◌, ◌≤◌, ◌<◌}
use mathlib.Core.Path.{◌≡◌, ap, sym, ◌∙◌}
use mathlib.Core.List.{List, [], ◌∷◌, ◌++◌, append_assoc}
use native.Mathlib.Omega.{arith}
use lib.Dec.{ltb, leb, eqb}
use lib.ListN.{length, drop, length-append}
use lib.Seq.{drop-drop}
use borrow.Author.Tests.{lt-ltb, le-ltb, le-leb, ne_eqb, ltb-true, ltb-false, leb-true, eqb-false}
use Rattle.lines.specs.Number.{Number, most_number, digit, more, number, digits, decimal}
use Rattle.std.specs.Prelude.{Ok, Err}
use Rattle.lines.proofs.Tests.{split}

-- a digit and its byte
pub digit_byte : (d : ℕ) → d < 10 → digit (d + 48) ≡ d
unfolding digit
digit_byte d h = rw (le-ltb (d + 48) 48 (omega arith), le-ltb 57 (d + 48) (omega arith)) (omega arith)

pub byte_digit : (b : ℕ) → digit b < 10 → b ≡ digit b + 48
unfolding digit
byte_digit b h =
    split (ltb b 48)
    (λ e. let k = simp e at h in omega arith)
    (λ e. split (ltb 57 b) (λ f. let k = simp (e, f) at h in omega arith) (λ f. rw (e, f) (omega (arith, ltb-false b 48 e))))

-- what k + 1 digits can hold
bound : ℕ → ℕ
bound zero = 10
bound (suc k) = bound k * 10

-- reading what was written: the digits, and then what follows them
read_digits : (k n i : ℕ) (l : List ℕ) → n < bound k → n ≤ most_number → number i (digits k n ++ l) ≡ more n (i + length (digits k n)) l
unfolding bound digits number more
read_digits zero n i l h g = rw (digit_byte n h, lt-ltb n 10 h)
read_digits (suc k) n i l h g =
    split (ltb n 10)
    (λ e. rw (e, digit_byte n (ltb-true _ _ e), e))
    (λ e. let q : n / 10 * 10 + n % 10 ≡ n = omega arith in
    rw (
      e,
      append_assoc,
      read_digits k (n / 10) i ((n % 10 + 48) ∷ l) (omega arith) (omega arith),
      digit_byte (n % 10) (omega arith),
      lt-ltb (n % 10) 10 (omega arith),
      ne_eqb (n / 10) 0 (λ z. omega (arith, ltb-false n 10 e)),
      q,
      le-leb n most_number g,
      length-append,
    )
    (ap (λ j. more n j l) (omega arith)))

pub read_decimal : (n i : ℕ) (l : List ℕ) → n ≤ most_number → number i (decimal n ++ l) ≡ more n (i + length (decimal n)) l
unfolding bound decimal
read_decimal n i l h = read_digits 19 n i l (omega arith) h

-- ... where no digit follows: the number
pub read_written : (n i b : ℕ) (l : List ℕ) → n ≤ most_number → 10 ≤ digit b → number i (decimal n ++ (b ∷ l)) ≡ Ok (n, (i + length (decimal n)))
unfolding more
read_written n i b l h g = rw (read_decimal n i (b ∷ l) h, le-ltb (digit b) 10 g)

-- more digits than needed change nothing
digits_more : (k n : ℕ) → n < bound k → digits (suc k) n ≡ digits k n
unfolding bound digits
digits_more zero n h = rw (lt-ltb n 10 h)
digits_more (suc k) n h = rw (digits_more k (n / 10) (omega arith))

-- one digit more is written behind the others
pub decimal_more : (v d : ℕ) → 0 < v → d < 10 → v * 10 + d < 2 ^ 64 → decimal (v * 10 + d) ≡ decimal v ++ ((d + 48) ∷ [])
unfolding bound decimal digits
decimal_more v d z h g =
    let q : (v * 10 + d) / 10 ≡ v = omega arith in
    let r : (v * 10 + d) % 10 ≡ d = omega arith in
    rw (le-ltb (v * 10 + d) 10 (omega arith), q, r, ← digits_more 18 v (omega arith))

pub not_both : {i w j : ℕ} → ◌≡◌ {A = Number} (Err i) (Ok (w, j)) → ⊥
not_both e = let z : ◌≡◌ {A = ℕ} 0 1 = cc in omega arith

-- a number that is read is known by its value and its end
pub same_value : {v i w j : ℕ} → ◌≡◌ {A = Number} (Ok (v, i)) (Ok (w, j)) → (v ≡ w) × (i ≡ j)
same_value {v} {i} {w} {j} e =
    let p : ◌≡◌ {A = ℕ × ℕ} (v, i) (w, j) = cc in
    (ap (λ (x : ℕ × ℕ). x.0) p, ap (λ (x : ℕ × ℕ). x.1) p)

-- writing what was read: the bytes up to where the number ends
abbrev Written : ℕ → ℕ → ℕ → ℕ → List ℕ → Type 0
Written v i w j l = (i ≤ j) × (w ≤ most_number) × (decimal v ++ l ≡ decimal w ++ drop (j - i) l)

more_ends : {v i w j : ℕ} (l : List ℕ) → v ≤ most_number → ◌≡◌ {A = Number} (Ok (v, i)) (Ok (w, j)) → Written v i w j l
more_ends {v} {i} {w} {j} l h e =
    let m = same_value e in
    let p : v ≡ w = m.0 in
    let q : i ≡ j = m.1 in
    let z : j - i ≡ 0 = omega arith in
    (omega arith, omega arith, rw (z, p))

more_written : (v i w j : ℕ) (l : List ℕ) → v ≤ most_number → more v i l ≡ Ok (w, j) → Written v i w j l
unfolding more
more_written v i w j [] h e = more_ends [] h e
more_written v i w j (b ∷ l) h e =
    split (ltb (digit b) 10)
    (λ t. split (eqb v 0)
    (λ z. absurd (not_both (rw (t, z) at e)))
    (λ z. split (leb (v * 10 + digit b) most_number)
    (λ g.
    let ih = more_written (v * 10 + digit b) (i + 1) w j l (leb-true _ _ g) (rw (t, z, g) at e) in
    let s : j - i ≡ suc (j - (i + 1)) = omega (arith, ih.0) in
    let d = ltb-true (digit b) 10 t in (
      omega (arith, ih.0),
      ih.1,
      rw s
          (ap (λ x. decimal v ++ (x ∷ l)) (byte_digit b d)
          ∙ sym (append_assoc (decimal v) ((digit b + 48) ∷ []) l)
          ∙ ap (λ x. x ++ l) (sym (decimal_more v (digit b) (omega (arith, eqb-false v 0 z)) d (omega (arith, leb-true (v * 10 + digit b) most_number g))))
          ∙ ih.2),
    ))
    (λ g. absurd (not_both (rw (t, z, g) at e)))))
    (λ t. more_ends (b ∷ l) h (rw t at e))

pub decimal_one : (d : ℕ) → d < 10 → decimal d ≡ (d + 48) ∷ []
unfolding decimal digits
decimal_one d h = rw (lt-ltb d 10 h)

pub number_written : (i w j : ℕ) (l : List ℕ) → number i l ≡ Ok (w, j) → (i ≤ j) × (w ≤ most_number) × (l ≡ decimal w ++ drop (j - i) l)
unfolding number
number_written i w j [] e = absurd (not_both e)
number_written i w j (b ∷ l) e =
    split (ltb (digit b) 10)
    (λ t.
    let d = ltb-true (digit b) 10 t in
    let m = more_written (digit b) (i + 1) w j l (omega arith) (rw t at e) in
    let s : j - i ≡ suc (j - (i + 1)) = omega (arith, m.0) in (
      omega (arith, m.0),
      m.1,
      rw s (ap (λ x. x ∷ l) (byte_digit b d) ∙ ap (λ x. x ++ l) (sym (decimal_one (digit b) d)) ∙ m.2),
    ))
    (λ t. absurd (not_both (rw t at e)))

-- the same at a place of a list
pub number_shown : (s : List ℕ) (i w j : ℕ) → number i (drop i s) ≡ Ok (w, j) → (i ≤ j) × (w ≤ most_number) × (drop i s ≡ decimal w ++ drop j s)
number_shown s i w j e =
    let m = number_written i w j (drop i s) e in
    let q : i + (j - i) ≡ j = omega (arith, m.0) in
    (m.0, m.1, m.2 ∙ ap (λ x. decimal w ++ x) (drop-drop (j - i) i s ∙ ap (λ k. drop k s) q))

-- the writer's step: all digits but the last, and the last
pub decimal_last : (n : ℕ) → 10 ≤ n → n < 2 ^ 64 → decimal n ≡ decimal (n / 10) ++ ((n % 10 + 48) ∷ [])
decimal_last n h g =
    let q : n / 10 * 10 + n % 10 ≡ n = omega arith in
    ap decimal (sym q) ∙ decimal_more (n / 10) (n % 10) (omega arith) (omega arith) (omega arith)

-- how many bytes a number is written with
room : (k n : ℕ) → length (digits k n) ≤ suc k
unfolding digits
room zero n = omega arith
room (suc k) n =
    split (ltb n 10) (λ e. rw e (omega arith)) (λ e. rw (e, length-append) (omega (arith, room k (n / 10))))

room_below : (j k n : ℕ) → n < bound k → length (digits j n) ≤ suc k
unfolding digits bound
room_below zero k n h = omega arith
room_below (suc j) zero n h = rw (lt-ltb n 10 h) (omega arith)
room_below (suc j) (suc k) n h =
    split
    (ltb n 10)
    (λ e. rw e (omega arith))
    (λ e. rw (e, length-append) (omega (arith, room_below j k (n / 10) (omega arith))))

some : (k n : ℕ) → 1 ≤ length (digits k n)
unfolding digits
some zero n = omega arith
some (suc k) n =
    split (ltb n 10) (λ e. rw e (omega arith)) (λ e. rw (e, length-append) (omega (arith, some k (n / 10))))

pub decimal_some : (n : ℕ) → 1 ≤ length (decimal n)
unfolding decimal
decimal_some n = some 19 n

pub decimal_room : (n : ℕ) → length (decimal n) ≤ 20
unfolding decimal
decimal_room n = room 19 n

pub decimal_two : (n : ℕ) → n < 100 → length (decimal n) ≤ 2
unfolding decimal bound
decimal_two n h = room_below 19 1 n h

pub length_one : (d : ℕ) → d < 10 → length (decimal d) ≡ 1
length_one d h = ap length (decimal_one d h)

pub length_last : (n : ℕ) → 10 ≤ n → n < 2 ^ 64 → length (decimal n) ≡ length (decimal (n / 10)) + 1
length_last n h g = ap length (decimal_last n h g) ∙ length-append (decimal (n / 10)) ((n % 10 + 48) ∷ [])
