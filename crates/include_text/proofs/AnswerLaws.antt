-- The answer to two texts, from what reading them and comparing their tables tell. Assumes nothing.
use Prim.Native.Nat.{ℕ, ◌*◌, ◌≤◌}
use mathlib.Core.Path.{◌≡◌, refl, ap, sym, ◌∙◌}
use mathlib.Core.Logic.{inl, inr}
use mathlib.Core.List.{List, ◌++◌}
use native.Mathlib.Omega.{arith}
use lib.ListN.{length, take, length-take}
use Rattle.paper.specs.Limits.{limits}
use Rattle.paper.specs.Told.{Told, written, holds}
use Rattle.paper.specs.declared.Refusal.{Refusal}
use Rattle.table.specs.Room.{NoRoom}
use Rattle.table.proofs.Range.{states_few, symbols_few}
use Rattle.std.specs.Prelude.{Ok, Err, None, Some}
use Rattle.table.specs.declared.Sizes.{Sizes}
use Rattle.rule_read.specs.Text.{Reading, text_told, TextRefused, Reads, told}
use Rattle.rule_read.proofs.Exact.{refused_not_holds, text_holds, read_on}
use Rattle.rule_read.proofs.Wrong.{text_refused_exactly}
use Rattle.rule_read.proofs.Said.{wide_limits}
use Rattle.rule_write.proofs.Trips.{read_back}
use Rattle.inclusion.specs.Inclusion as inclusion
use Rattle.inclusion.specs.Inclusion.{Answer, Lent, lent, most_nodes, Comparable, Answered}
use Rattle.inclusion.proofs.EntryLaws.{product_small}
use Rattle.put.specs.Put.{Put, Fit, Wrote}
use Rattle.answers.specs.Lines.{refused_line_of, included_line, witness_line, node_lines, witness_text}
use Rattle.answers.proofs.Sizes.{refused_room}
use Rattle.answers.proofs.WrittenLaws.{put_front}
use Rattle.include_text.specs.Answer.{Right, table_of, answer_size, IncludeText, sender_refused, compared, receiver_refused, Answers, answered}
use Rattle.include_text.specs.Answer as answer
use Rattle.include_text.specs.Work.{answer_text, Enough, Meets}
use Rattle.include_text.proofs.NodeLaws.{witness_text_size}

-- a text that was read, with room
module _ {s M W M' W' : List ℕ} {r : Reading} (x : Reads limits s M W r M' W') (m : length M ≡ limits.states) (w : length W ≡ limits.rules * limits.width) where
  room : ¬ NoRoom limits M W
  room (inl h) = omega arith
  room (inr h) = omega arith

  told_text : told r ≡ text_told limits s
  told_text = x.answer ∙ read_on limits s M W room

  pub text_refused : {f : Refusal} → r ≡ Err f → TextRefused limits s f.number f.side f.place
  text_refused {f} q = (text_refused_exactly limits s f.number f.side f.place).0 (sym told_text ∙ ap told q)

  module _ {z : Sizes} (q : r ≡ Ok z) where
    tells : text_told limits s ≡ holds z.symbols z.states z.rules
    tells = sym told_text ∙ ap told q

    pub text_right : Right limits s
    text_right a d p h = refused_not_holds (sym ((text_refused_exactly limits s a d p).1 h) ∙ tells)

    pub states_inside : z.states ≤ length M'
    states_inside =
        let b = read_back limits wide_limits s M W M' W' z.symbols z.states z.rules (rw q at x) in
        let h = text_holds limits s z.symbols z.states z.rules tells in
        omega (arith, ap length b.marks, length-take z.states M', h.marks)

    pub rules_inside : z.rules * 4 ≤ length W'
    rules_inside =
        let b = read_back limits wide_limits s M W M' W' z.symbols z.states z.rules (rw q at x) in
        let h = text_holds limits s z.symbols z.states z.rules tells in
        omega (arith, ap length b.rules, length-take (z.rules * 4) W', h.rules)

    pub table_read : lent z.symbols (take z.states M') (take (z.rules * 4) W') ≡ table_of s
    table_read =
        let b = read_back limits wide_limits s M W M' W' z.symbols z.states z.rules (rw q at x) in
        let h = text_holds limits s z.symbols z.states z.rules tells in
        rw (h.symbols, b.marks, b.rules) refl

-- a refusal's line fits
pub meets_refused : {A : Lent} {t O O' : List ℕ} {n d p e : ℕ} → TextRefused limits t n d p → answer_size limits ≤ length O
    → Wrote O 0 (refused_line_of 2 n p) e O' → Meets limits A t O e O'
meets_refused {n = n} {p = p} r h w =
    let l = refused_room 2 n p in
    record { bytes = _; answer = receiver_refused r; fits = omega arith; put = w.fits (omega arith) }

-- what is written for each case of the answer
module _ {a : Answer} (ws : List ℕ) where
  pub text_included : a ≡ Ok None → answer_text (inclusion.told a) ws ≡ included_line
  unfolding answer_text
  text_included e = rw e refl

  pub text_refusal : {f : Refusal} → a ≡ Err f → answer_text (inclusion.told a) ws ≡ refused_line_of f.side f.number f.place
  unfolding answer_text
  text_refusal e = rw e refl

  pub text_witness : {k : ℕ} → a ≡ Ok (Some k) → answer_text (inclusion.told a) ws ≡ witness_line k ++ node_lines ws k
  unfolding answer_text witness_text
  text_witness e = rw e refl

  pub told_enough : {k : ℕ} → a ≡ Ok (Some k) → Enough (inclusion.told a) ws → 2 * k ≤ length ws
  told_enough e h = rw e at h

-- the witness slice has the nodes that are told
pub enough : {A B : Lent} {ws ws' : List ℕ} {t : Told} → Answered limits A B ws ws' t → Enough t ws'
enough (inclusion.is_refused r e) = tt
enough (inclusion.is_included c i e) = tt
enough (inclusion.is_witness c w) = w.inside

-- so many states and symbols has a table without a fault, so its witness has at most the most nodes
most : {A B : Lent} {n : ℕ} → Comparable limits A B n → (most_nodes A B ≤ 3660) × (A.symbols ≤ 40)
most c = (product_small _ _ (states_few limits c.sender) (states_few limits c.receiver.0), symbols_few limits c.sender)

module _ {A B : Lent} {t O O' ws ws' : List ℕ} (right : Right limits t) (same : B ≡ table_of t) (many : length ws ≡ answer.witness_room_of limits)
    (h : answer_size limits ≤ length O) where
  pub meets : {a : Told} {e : ℕ} → Answered limits A B ws ws' a → Fit O 0 (answer_text a ws') e O' → Meets limits A t O e O'
  unfolding answer_text included_line
  meets (inclusion.is_refused {n} {s} {p} r q) f =
      let l = refused_room s n p in
      record {
        bytes = _;
        answer = answer.is_refused {n = n} {d = s} {p = p} right (rw (same, many) at r);
        fits = omega arith;
        put = f (omega arith);
      }
  meets (inclusion.is_included c i q) f =
      record { bytes = _; answer = answer.is_included right (rw (same, many) at c) (rw same at i); fits = omega arith; put = f (omega arith) }
  meets (inclusion.is_witness {k} c w) f =
      let m = most c in
      let l = witness_text_size A.symbols ws' k m.1 (omega (arith, w.few, m.0)) w.inside w.tree in
      record {
        bytes = _;
        answer = answer.is_witness {ws = ws'} right (rw (same, many) at c)
            (record {
              few = rw same at w.few;
              inside = w.inside;
              size = refl;
              rest = refl;
              tree = w.tree;
              children = w.children;
              accepted = w.accepted;
              rejected = rw same at w.rejected;
            });
        fits = l;
        put = f (omega arith);
      }

-- the whole: bytes put at the front of the slice, which is long enough, are an answer
answers_put : {s t O O' bs : List ℕ} {e : ℕ} → answer_size limits ≤ length O → IncludeText limits s t bs → length bs ≤ length O
    → Put O 0 bs e O' → Answers limits s t O (written e) O'
answers_put {s} {t} {O} {O'} {bs} {e} h a l p =
    let (x, y) = put_front bs O l p in
    rw (x, y) (answered h a)

module _ {s t O O' : List ℕ} (h : answer_size limits ≤ length O) where
  pub answers_refused : {n d p e : ℕ} → TextRefused limits s n d p → Wrote O 0 (refused_line_of 1 n p) e O' → Answers limits s t O (written e) O'
  answers_refused {n} {d} {p} {e} r w =
      let l = refused_room 1 n p in
      answers_put h (sender_refused r) (omega arith) (w.fits (omega arith))

  pub answers_met : {A : Lent} {e : ℕ} → Right limits s → A ≡ table_of s → Meets limits A t O e O' → Answers limits s t O (written e) O'
  answers_met right same m = answers_put h (compared right (rw same at m.answer)) (omega (arith, m.fits)) m.put
