-- A text tells the first fault that `fault_at` finds, and 1 is told exactly without room; a told table has no fault. Assumes nothing.
use Prim.Native.Nat.{ℕ, ◌+◌, ◌/◌, ◌≤◌}
use mathlib.Core.Path.{◌≡◌, refl, sym, ◌∙◌}
use mathlib.Core.Logic.{⊎_elim, ◌↔◌, if_pos, if_neg, by_cases}
use mathlib.Core.List.{List}
use native.Mathlib.Omega.{arith}
use lib.ListN.{length}
use Rattle.paper.specs.Limits.{Limits}
use Rattle.paper.specs.Told.{refused, holds}
use Rattle.paper.specs.First.{First, Clear}
use Rattle.paper.proofs.FirstLaws.{first_clear, first_fault, first_or_clear}
use Rattle.rule_read.specs.Text.{said_by, marks_of, rules_of, symbols_of, fault_at, TooSoon, text_told}
use Rattle.rule_read.specs.Text.{too_soon?, read_told}
use Rattle.table.specs.Room.{NoRoom, no_room?}
use Rattle.rule_read.proofs.Verdict.{fault_numbered}

pub refused_not_holds : {n d p y m r : ℕ} → refused n d p ≡ holds y m r → ⊥
refused_not_holds e = let z : ◌≡◌ {A = ℕ} 0 1 = cc in omega arith

-- the first fault that is found, or a text that ends too soon
pub data FirstFound (L : Limits) (s : List ℕ) : ℕ → ℕ → ℕ → Type 0 where
  at_line_of : {n k : ℕ} → First (fault_at L (said_by s)) (length (said_by s)) n k → FirstFound L s n 0 (k + 1)
  too_soon : Clear (fault_at L (said_by s)) (length (said_by s)) → TooSoon (said_by s) → FirstFound L s 3 0 (length (said_by s) + 1)

module _ (L : Limits) (s : List ℕ) where
  pub text_fault : {n k : ℕ} → First (fault_at L (said_by s)) (length (said_by s)) n k → text_told L s ≡ refused n 0 (k + 1)
  unfolding text_told
  text_fault {n} {k} h = first_fault (fault_at L (said_by s)) (length (said_by s)) n k _ h

  module _ (c : Clear (fault_at L (said_by s)) (length (said_by s))) where
    pub text_short : TooSoon (said_by s) → text_told L s ≡ refused 3 0 (length (said_by s) + 1)
    unfolding text_told
    text_short h =
        first_clear (fault_at L (said_by s)) (length (said_by s)) _ c
        ∙ if_pos (too_soon? (said_by s)) h _ _

    pub text_table : ¬ TooSoon (said_by s)
        → text_told L s ≡ holds (symbols_of (said_by s)) (length (marks_of (said_by s))) (length (rules_of (said_by s)) / L.width)
    unfolding text_told
    text_table h =
        first_clear (fault_at L (said_by s)) (length (said_by s)) _ c
        ∙ if_neg (too_soon? (said_by s)) h _ _

  pub of_refused : {n d p : ℕ} → FirstFound L s n d p → text_told L s ≡ refused n d p
  of_refused (at_line_of h) = text_fault h
  of_refused (too_soon c h) = text_short c h

  -- a text without a fault
  pub record Sound : Type 0 where
    pub clear : Clear (fault_at L (said_by s)) (length (said_by s))
    pub whole : ¬ TooSoon (said_by s)

  pub data TextVerdict : Type 0 where
    is_refused : {n d p : ℕ} → FirstFound L s n d p → TextVerdict
    is_sound : Sound → TextVerdict

  -- every text is refused or sound
  pub text_verdict : TextVerdict
  text_verdict = ⊎_elim
      (λ (n, k, h). is_refused (at_line_of h))
      (λ c. by_cases (too_soon? (said_by s))
      (λ h. is_refused (too_soon c h))
      (λ h. is_sound (record { clear = c; whole = h })))
      (first_or_clear (fault_at L (said_by s)) (length (said_by s)))

  pub text_found_exactly : (n d p : ℕ) → (text_told L s ≡ refused n d p) ↔ FirstFound L s n d p
  text_found_exactly n d p = (back text_verdict, of_refused)
    where
      back : TextVerdict → text_told L s ≡ refused n d p → FirstFound L s n d p
      back (is_refused {n = n'} {d = d'} {p = p'} r) e =
          let q : refused n' d' p' ≡ refused n d p = sym (of_refused r) ∙ e in
          let a : n' ≡ n = cc in
          let b : d' ≡ d = cc in
          let c : p' ≡ p = cc in
          rw (a, b, c) at r
      back (is_sound w) e = absurd (refused_not_holds (sym e ∙ text_table w.clear w.whole))

  -- a told table is that of a text without a fault, a mark for each state that the head says
  pub record Holds (y n r : ℕ) : Type 0 where
    pub clear : Clear (fault_at L (said_by s)) (length (said_by s))
    pub whole : ¬ TooSoon (said_by s)
    pub symbols : y ≡ symbols_of (said_by s)
    pub marks : n ≡ length (marks_of (said_by s))
    pub rules : r ≡ length (rules_of (said_by s)) / L.width

  pub text_holds : (y n r : ℕ) → text_told L s ≡ holds y n r → Holds y n r
  text_holds y n r e = go text_verdict
    where
      go : TextVerdict → Holds y n r
      go (is_refused x) = absurd (refused_not_holds (sym (of_refused x) ∙ e))
      go (is_sound w) =
          let q : holds y n r ≡ holds (symbols_of (said_by s)) (length (marks_of (said_by s))) (length (rules_of (said_by s)) / L.width) =
          sym e ∙ text_table w.clear w.whole in
          record { clear = w.clear; whole = w.whole; symbols = cc; marks = cc; rules = cc }

  -- refusals are 2 to 6, at a line counted from 1
  numbered : {n d p : ℕ} → FirstFound L s n d p → (2 ≤ n) × ((n ≤ 6) × ((d ≡ 0) × (1 ≤ p)))
  numbered (too_soon c h) = (omega arith, (omega arith, (refl, omega arith)))
  numbered (at_line_of {n} {k} h) =
      ⊎_elim
      (λ z. absurd (h.fault (sym h.here ∙ z)))
      (λ z. (omega (arith, z.0, h.here), (omega (arith, z.1, h.here), (refl, omega arith))))
      (fault_numbered L (said_by s) k)

  pub text_numbered : (n d p : ℕ) → text_told L s ≡ refused n d p → (2 ≤ n) × ((n ≤ 6) × ((d ≡ 0) × (1 ≤ p)))
  text_numbered n d p e = numbered ((text_found_exactly n d p).0 e)

  module _ (M W : List ℕ) where
    pub read_short : NoRoom L M W → read_told L s M W ≡ refused 1 0 0
    unfolding read_told
    read_short h = if_pos (no_room? L M W) h _ _

    pub read_on : ¬ NoRoom L M W → read_told L s M W ≡ text_told L s
    unfolding read_told
    read_on h = if_neg (no_room? L M W) h _ _

    -- 1 is told exactly if a slice is too short, and then of the whole
    pub room : (d p : ℕ) → (read_told L s M W ≡ refused 1 d p) ↔ (NoRoom L M W × ((d ≡ 0) × (p ≡ 0)))
    room d p = (
      λ e. by_cases (no_room? L M W)
          (λ h. let q : refused 1 0 0 ≡ refused 1 d p = sym (read_short h) ∙ e in (h, (cc, cc)))
          (λ h. let z = (text_numbered 1 d p (sym (read_on h) ∙ e)).0 in absurd (omega (arith, z))),
      λ (h, (a, b)). read_short h ∙ rw (a, b) refl,
    )
