-- What a line says: the code's steps, and what the answer tells. Assumes nothing.
use Prim.Native.Nat.{ℕ}
use mathlib.Core.Path.{◌≡◌, refl, ap, sym}
use mathlib.Core.List.{List}
use mathlib.Core.Option.{Option, none, some}
use native.Mathlib.Omega.{arith}
use lib.ListN.{length, get_or-eq_default}
use borrow.Author.Tests.{eq-eqb, ne_eqb}
use Rattle.paper.specs.Limits.{Limits, at}
use Rattle.lines.specs.Fields.{fields}
use Rattle.std.specs.Prelude.{Some, None, Ok, Err}
use Rattle.model.specs.Model.{Model, places}
use Rattle.postfix.specs.Field.{model_in, content_of}
use Rattle.model_line.specs.Line.{Said, head, content, misshapen, letter_d, split_of, token_field, head_said_of, content_said, model_said, says, line_of}
use Rattle.model_line.specs.declared.Line.TheVariants as line
use Rattle.model_line.proofs.SplitLaws.{split_empty}

-- the steps of reading an M line
content_places : (a : ℕ) (o : Option Model) {k : ℕ} → content_of o ≡ Some k → Some (line.Model a k) ≡ line_of (content_said a o)
unfolding content_of content_said line_of
content_places a none {k} e = absurd (let z : ◌≡◌ {A = ℕ} 0 1 = cc in omega arith)
content_places a (some m) {k} e = let z : places m ≡ k = cc in ap (λ j. Some (line.Model a j)) (sym z)

content_bad : (a : ℕ) (o : Option Model) → content_of o ≡ None → None ≡ line_of (content_said a o)
unfolding content_of content_said line_of
content_bad a none e = refl
content_bad a (some m) e = absurd (let z : ◌≡◌ {A = ℕ} 0 1 = cc in omega arith)

module _ (L : Limits) (n : ℕ) (x : List ℕ) where
  pub model_none : split_of x ≡ None → None ≡ line_of (model_said L n x (split_of x))
  unfolding model_said line_of
  model_none e = rw e

  module _ {a i : ℕ} (e : split_of x ≡ Some (a, i)) where
    pub model_read_lem : {k : ℕ} → content_of (model_in L n (token_field x i)) ≡ Some k →
        Some (line.Model a k) ≡ line_of (model_said L n x (split_of x))
    unfolding model_said
    model_read_lem {k} h = rw e (content_places a (model_in L n (token_field x i)) h)

    pub model_bad : content_of (model_in L n (token_field x i)) ≡ None → None ≡ line_of (model_said L n x (split_of x))
    unfolding model_said
    model_bad h = rw e (content_bad a (model_in L n (token_field x i)) h)

  -- the steps of reading a line
  pub line_empty : length x ≡ 0 → None ≡ line_of (says L n x)
  unfolding says
  line_empty h =
      let e : at x 0 ≡ 0 = get_or-eq_default x 0 {n = 0} (omega arith) in
      rw e (model_none (sym (split_empty x h)))

  pub line_other : (at x 0 ≡ letter_d → ⊥) → line_of (model_said L n x (split_of x)) ≡ line_of (says L n x)
  unfolding says
  line_other h = rw (ne_eqb (at x 0) letter_d h)

  module _ (h : at x 0 ≡ letter_d) where
    pub line_head : {y s c : ℕ} → fields 2 x ≡ Ok (y, s, c) → Some (line.Head y s) ≡ line_of (says L n x)
    unfolding says head_said_of line_of
    line_head {y} {s} {c} e = rw (eq-eqb (at x 0) letter_d h, e)

    pub line_wrong : {i : ℕ} → fields 2 x ≡ Err i → None ≡ line_of (says L n x)
    unfolding says head_said_of line_of
    line_wrong {i} e = rw (eq-eqb (at x 0) letter_d h, e)

-- the answer tells what the line says
pub known_head : (s : Said) {y t : ℕ} → line_of s ≡ Some (line.Head y t) → s ≡ head y t
unfolding line_of
known_head (head b c) {y} {t} e = let p : b ≡ y = cc in let q : c ≡ t = cc in rw (p, q)
known_head (content a m) {y} {t} e = absurd (let z : ◌≡◌ {A = ℕ} 0 1 = cc in omega arith)
known_head misshapen {y} {t} e = absurd (let z : ◌≡◌ {A = ℕ} 0 1 = cc in omega arith)

pub known_content : (s : Said) {a k : ℕ} → line_of s ≡ Some (line.Model a k) → (m : Model) × (s ≡ content a m) × (places m ≡ k)
unfolding line_of
known_content (head b c) {a} {k} e = absurd (let z : ◌≡◌ {A = ℕ} 0 1 = cc in omega arith)
known_content (content b m) {a} {k} e = let p : b ≡ a = cc in let q : places m ≡ k = cc in (m, rw p, q)
known_content misshapen {a} {k} e = absurd (let z : ◌≡◌ {A = ℕ} 0 1 = cc in omega arith)

pub known_misshapen : (s : Said) → line_of s ≡ None → s ≡ misshapen
unfolding line_of
known_misshapen (head b c) e = absurd (let z : ◌≡◌ {A = ℕ} 0 1 = cc in omega arith)
known_misshapen (content b m) e = absurd (let z : ◌≡◌ {A = ℕ} 0 1 = cc in omega arith)
known_misshapen misshapen e = refl
