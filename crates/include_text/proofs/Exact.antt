-- What the bytes of an answer tell: "included" exactly if every tree that the sender's table accepts the receiver's table accepts, and
-- nothing is refused; and two answers are equal but for the witness. Assumes nothing.
use Prim.Native.Nat.{ℕ, ◌≤◌}
use mathlib.Core.Path.{◌≡◌, refl, ap, sym, ◌∙◌}
use mathlib.Core.Logic.{◌↔◌, ◌⊎◌, inl, inr, ⊎_elim}
use mathlib.Core.List.{List, ◌++◌}
use native.Mathlib.Omega.{arith}
use lib.ListN.{length, drop}
use Rattle.paper.specs.Limits.{Limits, at}
use Rattle.paper.specs.Told.{Told, refused, written}
use Rattle.rule_read.specs.Text.{TextRefused}
use Rattle.rule_read.proofs.Wrong.{text_refused_exactly}
use Rattle.inclusion.specs.Inclusion.{Includes, Comparable, Witnessed}
use Rattle.inclusion.proofs.Exact.{refused_not, refused_unique}
use Rattle.answers.proofs.WrittenLaws.{refused_not_written, front_inside}
use Rattle.answers.specs.Lines.{refused_line_of, included_line, witness_line, witness_text}
use Rattle.include_text.specs.Answer.{Right, table_of, witness_room_of, AnswerTo, IncludeText, sender_refused, compared, receiver_refused, is_refused, is_included, is_witness, Answers, no_room, answered}

-- the first byte tells which kind of answer it is
refused_first : (d n p : ℕ) → at (refused_line_of d n p) 0 ≡ 114
unfolding refused_line_of
refused_first d n p = refl

included_first : at included_line 0 ≡ 105
unfolding included_line
included_first = refl

witness_first : (ws : List ℕ) (k : ℕ) → at (witness_text ws k) 0 ≡ 119
unfolding witness_text witness_line
witness_first ws k = refl

not_refused : (d n p : ℕ) → refused_line_of d n p ≡ included_line → ⊥
not_refused d n p e = omega (arith, ap (λ x. at x 0) e, refused_first d n p, included_first)

not_witness : (ws : List ℕ) (k : ℕ) → witness_text ws k ≡ included_line → ⊥
not_witness ws k e = omega (arith, ap (λ x. at x 0) e, witness_first ws k, included_first)

-- nothing is refused of two texts
pub record Comparing (L : Limits) (s t : List ℕ) : Type 0 where
  pub sender : Right L s
  pub receiver : Right L t
  pub tables : Comparable L (table_of s) (table_of t) (witness_room_of L)

-- an answer that hands out a witness
pub record IsWitness (L : Limits) (s t bs : List ℕ) : Type 0 where
  pub nodes : List ℕ
  pub count : ℕ
  pub witnessed : Witnessed L (table_of s) (table_of t) nodes nodes count
  pub text : bs ≡ witness_text nodes count

-- so it is told and stands in the slice O, which is then O'
pub record TellsWitness (L : Limits) (s t O : List ℕ) (x : Told) (O' : List ℕ) : Type 0 where
  pub bytes : List ℕ
  pub witness : IsWitness L s t bytes
  pub tells : x ≡ written (length bytes)
  pub holds : O' ≡ bytes ++ drop (length bytes) O

-- the refusal of a text is one
fault_unique : (L : Limits) (s : List ℕ) {n d p n' d' p' : ℕ} (side : ℕ) → TextRefused L s n d p → TextRefused L s n' d' p'
    → refused_line_of side n p ≡ refused_line_of side n' p'
fault_unique L s {n} {d} {p} {n'} {d'} {p'} side x y =
    let e : refused n d p ≡ refused n' d' p' = sym ((text_refused_exactly L s n d p).1 x) ∙ (text_refused_exactly L s n' d' p').1 y in
    let a : n ≡ n' = cc in
    let b : p ≡ p' = cc in
    rw (a, b) refl

line_unique : {n d p n' d' p' : ℕ} → refused n d p ≡ refused n' d' p' → refused_line_of d n p ≡ refused_line_of d' n' p'
line_unique {n} {d} {p} {n'} {d'} {p'} e =
    let a : n ≡ n' = cc in
    let b : d ≡ d' = cc in
    let c : p ≡ p' = cc in
    rw (a, b, c) refl

module _ (L : Limits) (s t : List ℕ) where
  -- demand 2, in bytes: the answer is "included" exactly if nothing is refused and the sender's language is included in the receiver's
  pub included_text_exactly : (bs : List ℕ) → IncludeText L s t bs
      → (bs ≡ included_line) ↔ (Comparing L s t × Includes L (table_of s) (table_of t))
  included_text_exactly bs a = (to a, back a)
    where
      to : {bs : List ℕ} → IncludeText L s t bs → bs ≡ included_line → Comparing L s t × Includes L (table_of s) (table_of t)
      to (sender_refused {n} {d} {p} r) e = absurd (not_refused 1 n p e)
      to (compared r (receiver_refused {n} {d} {p} q)) e = absurd (not_refused 2 n p e)
      to (compared r (is_refused {n} {d} {p} q i)) e = absurd (not_refused d n p e)
      to (compared r (is_included q c i)) e = (record { sender = r; receiver = q; tables = c }, i)
      to (compared r (is_witness {k} {ws} q c w)) e = absurd (not_witness ws k e)

      back : {bs : List ℕ} → IncludeText L s t bs → Comparing L s t × Includes L (table_of s) (table_of t) → bs ≡ included_line
      back (sender_refused r) (c, i) = absurd (c.sender _ _ _ r)
      back (compared r (receiver_refused q)) (c, i) = absurd (c.receiver _ _ _ q)
      back (compared r (is_refused q x)) (c, i) = absurd (refused_not L (table_of s) (table_of t) (witness_room_of L) x c.tables)
      back (compared r (is_included q d j)) (c, i) = refl
      back (compared r (is_witness q d w)) (c, i) = absurd (w.rejected (i _ w.accepted))

  -- two answers are one, but for the witness
  pub bytes_unique_but_witness : {bs cs : List ℕ} → IncludeText L s t bs → IncludeText L s t cs → (bs ≡ cs) ⊎ (IsWitness L s t bs × IsWitness L s t cs)
  bytes_unique_but_witness (sender_refused x) (sender_refused y) = inl (fault_unique L s 1 x y)
  bytes_unique_but_witness (sender_refused x) (compared r y) = absurd (r _ _ _ x)
  bytes_unique_but_witness (compared r x) (sender_refused y) = absurd (r _ _ _ y)
  bytes_unique_but_witness (compared r x) (compared _ y) = go x y
    where
      go : {bs cs : List ℕ} → AnswerTo L (table_of s) t bs → AnswerTo L (table_of s) t cs → (bs ≡ cs) ⊎ (IsWitness L s t bs × IsWitness L s t cs)
      go (receiver_refused x) (receiver_refused y) = inl (fault_unique L t 2 x y)
      go (receiver_refused x) (is_refused q y) = absurd (q _ _ _ x)
      go (receiver_refused x) (is_included q c i) = absurd (q _ _ _ x)
      go (receiver_refused x) (is_witness q c w) = absurd (q _ _ _ x)
      go (is_refused q x) (receiver_refused y) = absurd (q _ _ _ y)
      go (is_refused q x) (is_refused _ y) = inl (line_unique (refused_unique L (table_of s) (table_of t) (witness_room_of L) x y))
      go (is_refused q x) (is_included _ c i) = absurd (refused_not L (table_of s) (table_of t) (witness_room_of L) x c)
      go (is_refused q x) (is_witness _ c w) = absurd (refused_not L (table_of s) (table_of t) (witness_room_of L) x c)
      go (is_included q c i) (receiver_refused y) = absurd (q _ _ _ y)
      go (is_included q c i) (is_refused _ y) = absurd (refused_not L (table_of s) (table_of t) (witness_room_of L) y c)
      go (is_included q c i) (is_included _ d j) = inl refl
      go (is_included q c i) (is_witness _ d w) = absurd (w.rejected (i _ w.accepted))
      go (is_witness q c w) (receiver_refused y) = absurd (q _ _ _ y)
      go (is_witness q c w) (is_refused _ y) = absurd (refused_not L (table_of s) (table_of t) (witness_room_of L) y c)
      go (is_witness q c w) (is_included _ d i) = absurd (w.rejected (i _ w.accepted))
      go (is_witness {k} {ws} q c w) (is_witness {k = j} {ws = vs} _ d v) = inr
          (record { nodes = ws; count = k; witnessed = w; text = refl }, record { nodes = vs; count = j; witnessed = v; text = refl })

  -- and so are what is told and what the slice then holds
  pub include_text_unique : {O O₁ O₂ : List ℕ} {x y : Told} → Answers L s t O x O₁ → Answers L s t O y O₂
      → ((x ≡ y) × (O₁ ≡ O₂)) ⊎ (TellsWitness L s t O x O₁ × TellsWitness L s t O y O₂)
  include_text_unique (no_room h) (no_room g) = inl (refl, refl)
  include_text_unique (no_room h) (answered g b) = absurd (omega arith)
  include_text_unique (answered h a) (no_room g) = absurd (omega arith)
  include_text_unique {O} (answered {bs} h a) (answered {bs = cs} g b) =
      ⊎_elim
      (λ (e : bs ≡ cs). inl (ap (λ z. written (length z)) e, ap (λ z. z ++ drop (length z) O) e))
      (λ (w : IsWitness L s t bs × IsWitness L s t cs).
      inr (record { bytes = bs; witness = w.0; tells = refl; holds = refl }, record { bytes = cs; witness = w.1; tells = refl; holds = refl }))
      (bytes_unique_but_witness a b)

  -- as many bytes as are told stand in the slice
  pub answer_inside : {O O' : List ℕ} {x : Told} {n : ℕ} → Answers L s t O x O' → x ≡ written n → n ≤ length O'
  answer_inside (no_room h) e = absurd (refused_not_written e)
  answer_inside {O} (answered {bs} h a) e = front_inside bs O e
