-- A line says a header or a symbol and its model exactly if it has the shape of one. Assumes nothing.
use Prim.Native.Nat.{ℕ, ◌+◌, ◌-◌, ◌≤◌, ◌<◌}
use mathlib.Core.Path.{◌≡◌, refl, ap, sym, ◌∙◌}
use mathlib.Core.Logic.{◌↔◌}
use mathlib.Core.List.{List, [], ◌∷◌, ◌++◌, append_assoc}
use mathlib.Core.Option.{some}
use native.Mathlib.Omega.{arith}
use lib.ListN.{length, take, drop, length-append, take-append-drop, drop_of_length-le}
use lib.Seq.{drop-drop, get_or-append_seam, take_at}
use Rattle.paper.specs.Limits.{Limits, at}
use Rattle.lines.specs.Number.{most_number}
use Rattle.lines.specs.Lines.{tab, lf}
use Rattle.lines.specs.Fields.{entry, letters}
use Rattle.lines.proofs.Places.{here, from}
use Rattle.lines.proofs.FieldLaws.{field_read, field_shown, letters_two, letters_shown, tab_ends}
use Rattle.model.specs.Model.{Model}
use Rattle.postfix.specs.Field.{model_in}
use Rattle.model_line.specs.Line.{head, content, letter_d, letter_m, split_of, token_field, head_said_of, content_said, model_said, says, model_line_of}
use Rattle.std.specs.Prelude.{Some}
use Rattle.model_line.proofs.SplitLaws.{split_found, split_shown}
use Rattle.model_line.proofs.Known.{says_head, says_content}

-- the header: its numbers are no larger than can be written, and the line is its letter and its numbers
module _ (L : Limits) (n : ℕ) (x : List ℕ) where
  pub head_small : {y s : ℕ} → says L n x ≡ head y s → (y ≤ most_number) × (s ≤ most_number)
  head_small {y} {s} e =
      let h = says_head L n x e in
      let m = letters_shown 2 y s h.third x h.numbers in
      (m.first, m.second)

  pub head_shaped : {y s : ℕ} → says L n x ≡ head y s → x ≡ letters letter_d 2 y s 0
  head_shaped {y} {s} e =
      let h = says_head L n x e in
      let m = letters_shown 2 y s h.third x h.numbers in
      m.line ∙ ap (λ t. letters t 2 y s h.third) h.letter ∙ ap (letters letter_d 2 y s) (m.none (λ z. omega arith))

letters_head : (L : Limits) (n y s : ℕ) → y ≤ most_number → s ≤ most_number → says L n (letters letter_d 2 y s 0) ≡ head y s
unfolding says head_said_of letters
letters_head L n y s hy hs = ap head_said_of (letters_two letter_d y s 0 hy hs (omega arith))

-- a line from a place on, by what stands there
on_from : (x : List ℕ) (i : ℕ) {b : ℕ} → i < length x → at x i ≡ b → drop i x ≡ b ∷ drop (i + 1) x
on_from x i h e = from x i h ∙ ap (λ b. b ∷ drop (i + 1) x) e

-- the token field of a line and its LF are the line's end
last_alone : (x : List ℕ) → 1 ≤ length x → at x (length x - 1) ≡ lf → drop (length x - 1) x ≡ lf ∷ []
last_alone x h l =
    let z = drop_of_length-le x {i = length x - 1 + 1} (omega arith) in
    on_from x (length x - 1) (omega arith) l ∙ ap (λ y. lf ∷ y) z

field_ended : (x : List ℕ) (i : ℕ) → i < length x → at x (length x - 1) ≡ lf → drop i x ≡ token_field x i ++ (lf ∷ [])
unfolding token_field
field_ended x i h l =
    let k = length x - 1 - i in
    let q : i + k ≡ length x - 1 = omega arith in
    let e = drop-drop k i x ∙ ap (λ j. drop j x) q ∙ last_alone x (omega arith) l in
    sym (take-append-drop k (drop i x)) ∙ ap (λ y. take k (drop i x) ++ y) e

-- an M line is its letter, its symbol and its token field
module _ (x : List ℕ) {a i : ℕ} (h : split_of x ≡ Some (a, i)) where
  split_shaped : x ≡ model_line_of a (token_field x i)
  unfolding model_line_of
  split_shaped =
      let s = split_shown x h in
      let f = ap (λ j. drop j x) (sym s.from) ∙ field_ended x i s.room s.last in
      let t = on_from x s.end (omega (arith, s.room, s.from)) s.parted ∙ ap (λ y. tab ∷ y) f in
      let e = (field_shown x 1 s.number).1 ∙ ap (λ y. entry a ++ y) t in
      on_from x 0 (omega (arith, s.room)) s.letter ∙ ap (λ y. letter_m ∷ y) e

-- the line of a symbol and a token field comes apart into them
module _ (a : ℕ) (f : List ℕ) where
  line_last : at (model_line_of a f) (length (model_line_of a f) - 1) ≡ lf
  unfolding model_line_of
  line_last =
      let p = letter_m ∷ (entry a ++ (tab ∷ f)) in
      let q : model_line_of a f ≡ p ++ (lf ∷ []) = ap (λ y. letter_m ∷ y) (sym (append_assoc (entry a) (tab ∷ f) (lf ∷ []))) in
      let k : length (model_line_of a f) - 1 ≡ length p = omega (arith, ap length q, length-append p (lf ∷ [])) in
      ap (at (model_line_of a f)) k ∙ ap (λ y. at y (length p)) q ∙ get_or-append_seam p lf [] 0

  line_rest : drop 1 (model_line_of a f) ≡ entry a ++ (tab ∷ (f ++ (lf ∷ [])))
  unfolding model_line_of
  line_rest = refl

  line_letter : at (model_line_of a f) 0 ≡ letter_m
  unfolding model_line_of
  line_letter = refl

  line_length : length (model_line_of a f) ≡ 1 + length (entry a) + 1 + length f + 1
  unfolding model_line_of
  line_length = omega (arith, length-append (entry a) (tab ∷ (f ++ (lf ∷ []))), length-append f (lf ∷ []))

  module _ (h : a ≤ most_number) where
    line_split : Some (a, 1 + length (entry a) + 1) ≡ split_of (model_line_of a f)
    line_split =
        let x = model_line_of a f in
        let r = field_read x 1 a h tab_ends line_rest in
        split_found x line_letter line_last r.0 (here x (1 + length (entry a)) r.1).0

    line_field : token_field (model_line_of a f) (1 + length (entry a) + 1) ≡ f
    unfolding token_field
    line_field =
        let x = model_line_of a f in
        let i = 1 + length (entry a) in
        let e = (here x i (field_read x 1 a h tab_ends line_rest).1).1 in
        let k : length f ≡ length x - 1 - (i + 1) = omega (arith, line_length) in
        ap (take (length x - 1 - (i + 1))) e ∙ take_at f (lf ∷ []) (length x - 1 - (i + 1)) k

    line_content : (L : Limits) (n : ℕ) (m : Model) → model_in L n f ≡ some m → says L n (model_line_of a f) ≡ content a m
    unfolding says model_said content_said
    line_content L n m e = rw (line_letter, ← line_split, line_field, e)

module _ (L : Limits) (n : ℕ) (x : List ℕ) where
  -- a line says a header exactly if it is one: `D¦symbols¦start`
  pub head_shape : (y s : ℕ) → y ≤ most_number → s ≤ most_number → says L n x ≡ head y s ↔ x ≡ letters letter_d 2 y s 0
  head_shape y s hy hs = (head_shaped L n x, λ e. ap (says L n) e ∙ letters_head L n y s hy hs)

  pub content_shaped : {a : ℕ} {m : Model} → says L n x ≡ content a m →
      (f : List ℕ) × (x ≡ model_line_of a f) × (model_in L n f ≡ some m)
  content_shaped e =
      let c = says_content L n x e in (token_field x c.from, split_shaped x c.cut, c.model)

  -- a line says a symbol and its model exactly if it is the symbol and a token field that writes the model: `M¦symbol¦tokens`
  pub content_shape : (a : ℕ) (m : Model) → a ≤ most_number →
      says L n x ≡ content a m ↔ (f : List ℕ) × (x ≡ model_line_of a f) × (model_in L n f ≡ some m)
  content_shape a m h = (content_shaped, λ w. ap (says L n) w.1 ∙ line_content a w.0 h L n m w.2)
