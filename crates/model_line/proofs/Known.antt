-- What is known of a line that says something: what it is made of, and how long it is. Assumes nothing.
use Prim.Native.Nat.{ℕ, ◌+◌, ◌-◌, ◌*◌, ◌≤◌, ◌<◌}
use mathlib.Core.Path.{◌≡◌, refl, ap, ◌∙◌}
use mathlib.Core.List.{List}
use mathlib.Core.Option.{Option, none, some}
use native.Mathlib.Omega.{arith}
use lib.Dec.{eqb}
use lib.ListN.{length, drop, length-drop}
use lib.Seq.{length-take-le}
use borrow.Author.Tests.{eqb-true}
use Rattle.paper.specs.Limits.{Limits, at}
use Rattle.lines.specs.Number.{decimal}
use Rattle.lines.specs.Lines.{tab}
use Rattle.lines.specs.Fields.{Fields, field, fields}
use Rattle.std.specs.Prelude.{Some, None, Ok, Err}
use Rattle.lines.proofs.Tests.{split}
use Rattle.lines.proofs.NumberLaws.{decimal_two, not_both}
use Rattle.lines.proofs.FieldLaws.{letters_shown, length_two}
use Rattle.lines.proofs.Within.{number_ends}
use Rattle.model.specs.Model.{Model}
use Rattle.postfix.specs.Field.{model_in}
use Rattle.postfix.proofs.Written.{model_tokens}
use Rattle.model_line.specs.Line.{Said, Cut, head, content, misshapen, letter_d, split_of, token_field, head_said_of, content_said, model_said, says}
use Rattle.model_line.proofs.SplitLaws.{split_shown}

-- the line x is a header
pub record Header (x : List ℕ) (y s : ℕ) : Type 0 where
  pub letter : at x 0 ≡ letter_d
  pub third : ℕ
  pub numbers : fields 2 x ≡ Ok (y, s, third)

-- the line x is an M line with the symbol a, whose token field writes m
pub record Content (L : Limits) (n : ℕ) (x : List ℕ) (a : ℕ) (m : Model) : Type 0 where
  pub from : ℕ
  pub cut : split_of x ≡ Some (a, from)
  pub model : model_in L n (token_field x from) ≡ some m

-- what the line x says, it is
abbrev Shown : Limits → ℕ → List ℕ → Said → Type 0
Shown L n x (head y s) = Header x y s
Shown L n x (content a m) = Content L n x a m
Shown L n x misshapen = Unit

module _ (L : Limits) (n : ℕ) (x : List ℕ) where
  shown_head : at x 0 ≡ letter_d → (f : Fields) → fields 2 x ≡ f → Shown L n x (head_said_of f)
  unfolding head_said_of
  shown_head h (Ok (y, s, c)) e = record { letter = h; third = c; numbers = e }
  shown_head h (Err i) e = tt

  shown_model : (a i : ℕ) → split_of x ≡ Some (a, i) → (o : Option Model) → model_in L n (token_field x i) ≡ o →
      Shown L n x (content_said a o)
  unfolding content_said
  shown_model a i e none q = tt
  shown_model a i e (some m) q = record { from = i; cut = e; model = q }

  shown_split : (c : Cut) → split_of x ≡ c → Shown L n x (model_said L n x c)
  unfolding model_said
  shown_split (Some (a, i)) e = shown_model a i e (model_in L n (token_field x i)) refl
  shown_split None e = tt

  shown : Shown L n x (says L n x)
  unfolding says
  shown =
      split (eqb (at x 0) letter_d)
      (λ t. rw t (shown_head (eqb-true (at x 0) letter_d t) (fields 2 x) refl))
      (λ t. rw t (shown_split (split_of x) refl))

  pub says_head : {y s : ℕ} → says L n x ≡ head y s → Header x y s
  says_head {y} {s} e = rw e at shown

  pub says_content : {a : ℕ} {m : Model} → says L n x ≡ content a m → Content L n x a m
  says_content {a} {m} e = rw e at shown

-- how long a header is
pub head_size : (L : Limits) (n : ℕ) (x : List ℕ) {y s : ℕ} → says L n x ≡ head y s → y < 100 → s < 100 → length x ≤ 8
head_size L n x {y} {s} e hy hs =
    let h = says_head L n x e in
    let m = letters_shown 2 y s h.third x h.numbers in
    let l = ap length m.line ∙ length_two (at x 0) 2 y s h.third (λ z. omega arith) in
    omega (arith, l, decimal_two y hy, decimal_two s hs)

-- where the number of an M line ends
field_end : (x : List ℕ) {a e : ℕ} → field x 1 ≡ Ok (a, e) → e ≡ 2 + length (decimal a)
unfolding field
field_end x {a} {e} h =
    split (eqb (at x 1) tab)
    (λ t. (number_ends x 2 (rw t at h)).0)
    (λ t. absurd (not_both (rw t at h)))

-- how long an M line is
pub line_size : (L : Limits) (n : ℕ) (x : List ℕ) {a : ℕ} {m : Model} → says L n x ≡ content a m → n ≤ 100 → a < 100 →
    length x ≤ 3 * L.tokens + 5
unfolding token_field
line_size L n x {a} {m} e hn ha =
    let c = says_content L n x e in
    let s = split_shown x c.cut in
    let t = model_tokens L n (token_field x c.from) m c.model hn in
    let k : length x - 1 - c.from ≤ length (drop c.from x) = omega (arith, length-drop c.from x) in
    let l = length-take-le (length x - 1 - c.from) (drop c.from x) k in
    omega (arith, t, l, s.from, s.room, field_end x s.number, decimal_two a ha)
