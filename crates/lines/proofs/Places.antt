-- What stands at a place of a list, by what the list is from there on.
use Prim.Native.Nat.{ℕ, ◌+◌, ◌<◌}
use mathlib.Core.Path.{◌≡◌, ap, sym, ◌∙◌}
use mathlib.Core.List.{List, ◌∷◌, ◌++◌}
use native.Mathlib.Omega.{arith}
use native.Mathlib.Nat.{add-zero}
use native.Mathlib.Numerals.{add-one}
use lib.ListN.{length, get_or, drop, get_or-eq_default}
use lib.Seq.{drop-cons, drop-drop, get_or-drop, drop-append_seam}
use lib.Dec.{ltb}
use borrow.Author.Tests.{ltb-true, ltb-false}
use Rattle.lines.proofs.Tests.{split}

module _ (x : List ℕ) (i : ℕ) where
  pub here : {b : ℕ} {l : List ℕ} → drop i x ≡ b ∷ l → (get_or x i 0 ≡ b) × (drop (i + 1) x ≡ l)
  here {b} {l} e = (
    ap (λ k. get_or x k 0) (sym (add-zero i)) ∙ sym (get_or-drop i x 0 0) ∙ ap (λ y. get_or y 0 0) e,
    sym (drop-drop 1 i x) ∙ ap (drop 1) e,
  )

  pub beyond : (p : List ℕ) {l : List ℕ} → drop i x ≡ p ++ l → drop (i + length p) x ≡ l
  beyond p {l} e = sym (drop-drop (length p) i x) ∙ ap (drop (length p)) e ∙ drop-append_seam p l

  -- a byte that is not 0 stands within the list
  pub within : 0 < get_or x i 0 → i < length x
  within h = split (ltb i (length x)) (ltb-true _ _) (λ f. let z = get_or-eq_default x 0 {n = i} (ltb-false _ _ f) in omega arith)

  pub from : i < length x → drop i x ≡ get_or x i 0 ∷ drop (i + 1) x
  from h = rw (add-one, drop-cons x i 0)
