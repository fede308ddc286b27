-- A line that was written is read as what it says, what was read of a line is written as that line, and a written line is one line
-- of a text. Assumes nothing.
use Prim.Native.Nat.{ℕ, ◌≤◌}
use mathlib.Core.Path.{◌≡◌, refl, sym, ◌∙◌}
use mathlib.Core.Logic.{◌≢◌}
use mathlib.Core.List.{List, [], ◌∷◌, ◌++◌}
use native.Mathlib.Omega.{arith}
use lib.Dec.{eqb}
use lib.ListN.{get_or}
use borrow.Author.Tests.{ne_eqb, eqb-true, eqb-false}
use Rattle.lines.specs.Number.{most_number}
use Rattle.lines.specs.Lines.{lines}
use Rattle.lines.specs.Fields.{Fields, fields, letters}
use Rattle.put.specs.Put.{Wrote}
use Rattle.std.specs.Prelude.{Ok, Err}
use Rattle.lines.proofs.Tests.{split}
use Rattle.put.proofs.PutLaws.{put_none}
use Rattle.lines.proofs.FieldLaws.{letters_two, letters_three, letters_shown, lines_letters}
use Rattle.rule_line.specs.Line.{letter_t, letter_s, letter_l, letter_p, letter_e, rule_of, count, says, line, rule_text, line_text}
use Rattle.rule_line.specs.declared.Line.{Line}
use Rattle.rule_line.specs.declared.Line.TheVariants.{Head, State, Rule, Faulty}

-- what a line can say: numbers that can be written, and a rule of one of the three kinds, in which a number that must be 0 is
abbrev pub Sayable : Line → Type 0
Sayable (Head a b) = (a ≤ most_number) × (b ≤ most_number)
Sayable (State a b c) = (a ≤ most_number) × (b ≤ most_number) × (c ≤ most_number)
Sayable (Rule r) = (r.kind ≤ 2) × (r.left ≤ most_number) × (r.right ≤ most_number) × (r.to ≤ most_number) × (r.kind ≢ 1 → r.right ≡ 0)
Sayable (Faulty i) = ⊥

-- the text of a rule of each kind
module _ {k : ℕ} (a b q : ℕ) where
  pub rule_leaf : k ≡ 0 → letters letter_l 2 a q 0 ≡ rule_text k a b q
  unfolding rule_text
  rule_leaf e = rw e

  pub rule_join : k ≡ 1 → letters letter_p 3 a b q ≡ rule_text k a b q
  unfolding rule_text
  rule_join e = rw e

  pub rule_step : k ≢ 0 → k ≢ 1 → letters letter_e 2 a q 0 ≡ rule_text k a b q
  unfolding rule_text
  rule_step d e = rw (ne_eqb k 0 d, ne_eqb k 1 e)

-- a written line of two or three numbers is read as what its letter says
line_two : (t a b : ℕ) → count t ≡ 2 → a ≤ most_number → b ≤ most_number → line (letters t 2 a b 0) ≡ says t a b 0
unfolding line letters
line_two t a b e ha hb = rw (e, letters_two t a b 0 ha hb (omega arith))

line_three : (t a b c : ℕ) → count t ≡ 3 → a ≤ most_number → b ≤ most_number → c ≤ most_number → line (letters t 3 a b c) ≡ says t a b c
unfolding line letters
line_three t a b c e ha hb hc = rw (e, letters_three t a b c ha hb hc)

same_rule : {k m a b d q : ℕ} → k ≡ m → b ≡ d → rule_of k a b q ≡ rule_of m a d q
same_rule p q = rw (p, q)

pub line_written : (l : Line) → Sayable l → line (line_text l) ≡ l
unfolding line_text count says rule_text
line_written (Head a b) h = line_two letter_t a b refl h.0 h.1
line_written (State a b c) h = line_three letter_s a b c refl h.0 h.1 h.2
line_written (Rule r) h =
    split (eqb r.kind 0)
    (λ t. rw t (line_two letter_l r.left r.to refl h.1 h.3 ∙ same_rule (sym (eqb-true r.kind 0 t)) (sym (h.4 (λ o. let z = eqb-true r.kind 0 t in omega arith)))))
    (λ t. split (eqb r.kind 1)
    (λ u. rw (t, u) (line_three letter_p r.left r.right r.to refl h.1 h.2 h.3 ∙ same_rule (sym (eqb-true r.kind 1 u)) refl))
    (λ u.
    let n₀ = eqb-false r.kind 0 t in
    let n₁ = eqb-false r.kind 1 u in
    rw (t, u) (line_two letter_e r.left r.to refl h.1 h.3 ∙ same_rule (omega arith) (sym (h.4 n₁)))))
line_written (Faulty i) h = absurd h

fieldses : (v : Fields) {P : Type 0} → ((a b c : ℕ) → v ≡ Ok (a, b, c) → P) → ((i : ℕ) → v ≡ Err i → P) → P
fieldses (Ok (a, b, c)) f g = f a b c refl
fieldses (Err i) f g = g i refl

-- what a letter says of its numbers is written with that letter, and can be said
record Spoken (t a b c : ℕ) : Type 0 where
  text : line_text (says t a b c) ≡ letters t (count t) a b c
  sayable : Sayable (says t a b c)

module _ (t a b c : ℕ) (ha : a ≤ most_number) (hb : b ≤ most_number) (hc : c ≤ most_number) (z : count t ≢ 0) (n : count t ≢ 3 → c ≡ 0) where
  spoken : Spoken t a b c
  unfolding line_text says count rule_text
  spoken =
      split (eqb t letter_t)
      (λ p.
      let e = n (rw p (λ o. omega arith)) in
      record { text = rw (p, eqb-true t letter_t p, e); sayable = rw p (ha, hb) })
      (λ p. split (eqb t letter_s)
      (λ q. record { text = rw (p, q, eqb-true t letter_s q); sayable = rw (p, q) (ha, hb, hc) })
      (λ q. split (eqb t letter_l)
      (λ r.
      let e = n (rw (p, q, r) (λ o. omega arith)) in
      record { text = rw (p, q, r, eqb-true t letter_l r, e); sayable = rw (p, q, r) (omega arith, ha, omega arith, hb, λ _. refl) })
      (λ r. split (eqb t letter_p)
      (λ s. record { text = rw (p, q, r, s, eqb-true t letter_p s); sayable = rw (p, q, r, s) (omega arith, ha, hb, hc, λ o. absurd (o refl)) })
      (λ s. split (eqb t letter_e)
      (λ u.
      let e = n (rw (p, q, r, s, u) (λ o. omega arith)) in
      record { text = rw (p, q, r, s, eqb-true t letter_e u, e); sayable = rw (p, q, r, s) (omega arith, ha, omega arith, hb, λ _. refl) })
      (λ u. absurd (z (rw (p, q, r, s, u))))))))

-- what was read of a line that has a shape is written as that line, and can be said
pub record Known (x : List ℕ) : Type 0 where
  pub text : line_text (line x) ≡ x
  pub sayable : Sayable (line x)

pub line_known : (x : List ℕ) → ((i : ℕ) → line x ≢ Faulty i) → Known x
unfolding line
line_known x h =
    split (eqb (count (get_or x 0 0)) 0)
    (λ t. absurd (h 0 (rw t)))
    (λ t. fieldses (fields (count (get_or x 0 0)) x)
    (λ a b c e.
    let m = letters_shown _ a b c x e in
    let s = spoken (get_or x 0 0) a b c m.first m.second m.third (eqb-false _ 0 t) m.none in
    record { text = rw (t, e) (s.text ∙ sym m.line); sayable = rw (t, e) s.sayable })
    (λ i e. absurd (h i (rw (t, e)))))

-- a line that can be said and is written is one line in front of any text
pub lines_written : (l : Line) (s : List ℕ) → Sayable l → lines (line_text l ++ s) ≡ line_text l ∷ lines s
unfolding line_text rule_text
lines_written (Head a b) s h = lines_letters letter_t 2 a b 0 s (λ e. omega arith)
lines_written (State a b c) s h = lines_letters letter_s 3 a b c s (λ e. omega arith)
lines_written (Rule r) s h =
    split (eqb r.kind 0)
    (λ t. rw t (lines_letters letter_l 2 r.left r.to 0 s (λ e. omega arith)))
    (λ t. split (eqb r.kind 1)
    (λ u. rw (t, u) (lines_letters letter_p 3 r.left r.right r.to s (λ e. omega arith)))
    (λ u. rw (t, u) (lines_letters letter_e 2 r.left r.to 0 s (λ e. omega arith))))
lines_written (Faulty i) s h = absurd h

-- writing nothing
pub wrote_nothing : (o : List ℕ) (at : ℕ) → Wrote o at [] at o
wrote_nothing o at = record { fits = λ h. put_none o at; lacks = λ h. (refl, refl) }
