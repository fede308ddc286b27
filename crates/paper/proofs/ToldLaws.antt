-- A refusal is told apart from every other, and a test has one answer. Assumes nothing.
use Prim.Native.Nat.{ℕ}
use mathlib.Core.Path.{◌≡◌, refl, sym, ap, ◌∙◌}
use native.Mathlib.Omega.{arith}
use mathlib.Core.Bool.{Bool, true, false}
use Rattle.std.specs.Prelude.{Ok, Err}
use Rattle.paper.specs.Told.{Told, refused, passes, refusal, Checked, check_told, Tells}
use Rattle.paper.specs.declared.Refusal.{Refusal}

pub tells_unique : {P : Type 0} (a b : Bool) → Tells a P → Tells b P → a ≡ b
tells_unique true true x y = refl
tells_unique true false x y = absurd (y.no refl (x.yes refl))
tells_unique false true x y = absurd (x.no refl (y.yes refl))
tells_unique false false x y = refl

pub refused_not_passes : {n s p : ℕ} → refused n s p ≡ passes → ⊥
refused_not_passes e = let z : ◌≡◌ {A = ℕ} 0 1 = cc in omega arith

abbrev with : ℕ → ℕ → ℕ → Refusal
with n m k = record { number = n; side = m; place = k }

-- a refusal is known by its number, side and place
pub refusal_unique : (r s : Refusal) → refusal r ≡ refusal s → r ≡ s
refusal_unique r s e =
    let a : r.number ≡ s.number = cc in
    let b : r.side ≡ s.side = cc in
    let c : r.place ≡ s.place = cc in
    ap (λ (n : ℕ). with n r.side r.place) a ∙ ap (λ (n : ℕ). with s.number n r.place) b ∙ ap (λ (n : ℕ). with s.number s.side n) c

-- the answer of a check is known by what it tells, so that two answers which a check's contract allows are equal
told_unique : (a b : Checked) → check_told a ≡ check_told b → a ≡ b
told_unique (Ok x) (Ok y) e = refl
told_unique (Ok x) (Err s) e = absurd (refused_not_passes (sym e))
told_unique (Err r) (Ok y) e = absurd (refused_not_passes e)
told_unique (Err r) (Err s) e = ap Err (refusal_unique r s e)

pub check_unique : (t : Told) (a b : Checked) → check_told a ≡ t → check_told b ≡ t → a ≡ b
check_unique t a b x y = told_unique a b (x ∙ sym y)

-- a refusal's three numbers are known from what it tells
same_number : {n d p n' d' p' : ℕ} → refused n d p ≡ refused n' d' p' → n ≡ n'
same_number e = cc

same_side : {n d p n' d' p' : ℕ} → refused n d p ≡ refused n' d' p' → d ≡ d'
same_side e = cc

same_place : {n d p n' d' p' : ℕ} → refused n d p ≡ refused n' d' p' → p ≡ p'
same_place e = cc

pub refused_as : (R : ℕ → ℕ → ℕ → Type 0) {n d p n' d' p' : ℕ} → refused n d p ≡ refused n' d' p' → R n d p → R n' d' p'
refused_as R e r = rw (sym (same_number e), sym (same_side e), sym (same_place e)) r
