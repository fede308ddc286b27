-- What a text's writer tells and leaves, case by case, and that it is one thing. Assumes nothing.
use Prim.Native.Nat.{ℕ, ◌+◌, ◌≤◌, ◌<◌}
use mathlib.Core.Path.{◌≡◌, refl, ap, sym, ◌∙◌}
use mathlib.Core.Logic.{by_cases, if_pos, if_neg}
use mathlib.Core.List.{List, ◌++◌}
use native.Mathlib.Omega.{arith}
use native.Mathlib.Decide.{dec_lt}
use lib.ListN.{length, drop, length-append}
use lib.Seq.{sets-eq}
use Rattle.paper.specs.Told.{Told, refused, written, is_refusal, filled}
use Rattle.put.specs.Put.{Put}
use Rattle.answers.specs.Written.{writing_told, WritesText}

pub writing_unique : {size : ℕ} {bs O O₁ O₂ : List ℕ} {t₁ t₂ : Told} → WritesText size bs O t₁ O₁ → WritesText size bs O t₂ O₂
    → (t₁ ≡ t₂) × (O₁ ≡ O₂)
writing_unique v w = (v.answer ∙ sym w.answer, v.text ∙ sym w.text)

-- bytes put at the front of a slice
pub put_front : {e : ℕ} {O' : List ℕ} (bs O : List ℕ) → length bs ≤ length O → Put O 0 bs e O' → (e ≡ length bs) × (O' ≡ bs ++ drop (length bs) O)
put_front bs O l p =
    let z : 0 + length bs ≡ length bs = omega arith in
    (p.ends ∙ z, p.holds ∙ sets-eq bs O 0 (omega arith) ∙ ap (λ k. bs ++ drop k O) z)

pub refused_not_written : {n d p k : ℕ} → refused n d p ≡ written k → ⊥
refused_not_written e = let z : ◌≡◌ {A = ℕ} 0 1 = cc in omega arith

-- the bytes that are told stand in the slice
pub front_inside : {n : ℕ} (bs O : List ℕ) → written (length bs) ≡ written n → n ≤ length (bs ++ drop (length bs) O)
front_inside {n} bs O e =
    let q : length bs ≡ n = cc in
    omega (arith, q, length-append bs (drop (length bs) O))

module _ (size : ℕ) (bs O : List ℕ) where
  told_short : length O < size → writing_told size bs O ≡ refused 1 0 0
  unfolding writing_told
  told_short h = if_pos (dec_lt (length O) size) h _ _

  told_long : size ≤ length O → writing_told size bs O ≡ written (length bs)
  unfolding writing_told
  told_long h = if_neg (dec_lt (length O) size) (λ l. omega arith) _ _

  pub writes_short : length O < size → WritesText size bs O (refused 1 0 0) O
  unfolding filled is_refusal
  writes_short h = record { answer = sym (told_short h); text = rw (told_short h) refl }

  -- told as written, and the bytes at the front
  pub writes_text : {t : Told} {O' : List ℕ} → size ≤ length O → t ≡ written (length bs) → O' ≡ bs ++ drop (length bs) O → WritesText size bs O t O'
  unfolding filled is_refusal
  writes_text h e q = record { answer = e ∙ sym (told_long h); text = rw (told_long h) q }

  pub writes_put : {e : ℕ} {O' : List ℕ} → size ≤ length O → length bs ≤ length O → Put O 0 bs e O' → WritesText size bs O (written e) O'
  writes_put h l p = let (x, y) = put_front bs O l p in writes_text h (ap written x) y

  -- which of the two is told
  pub writes_fits : {t : Told} {O' : List ℕ} → size ≤ length O → WritesText size bs O t O' → (t ≡ written (length bs)) × (O' ≡ bs ++ drop (length bs) O)
  unfolding filled is_refusal
  writes_fits h w = (w.answer ∙ told_long h, w.text ∙ rw (told_long h) refl)

  pub writes_lacks : {t : Told} {O' : List ℕ} → length O < size → WritesText size bs O t O' → (t ≡ refused 1 0 0) × (O' ≡ O)
  unfolding filled is_refusal
  writes_lacks h w = (w.answer ∙ told_short h, w.text ∙ rw (told_short h) refl)

  -- as many bytes as are told stand in the slice
  pub text_inside : {t : Told} {O' : List ℕ} {n : ℕ} → WritesText size bs O t O' → t ≡ written n → n ≤ length O'
  text_inside w e = by_cases (dec_lt (length O) size)
      (λ h. absurd (refused_not_written (sym (writes_lacks h w).0 ∙ e)))
      (λ h. let f = writes_fits (omega arith) w in rw f.1 (front_inside bs O (sym f.0 ∙ e)))
