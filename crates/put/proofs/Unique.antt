-- What a writer's contract says determines its answer and the slice that it leaves.
use Prim.Native.Nat.{ℕ, ◌+◌}
use mathlib.Core.Path.{◌≡◌, sym, ◌∙◌}
use mathlib.Core.List.{List}
use lib.Dec.{leb}
use lib.ListN.{length}
use borrow.Author.Tests.{leb-true, leb-false}
use Rattle.put.specs.Put.{Put, Wrote}
use Rattle.lines.proofs.Tests.{split}

pub put_unique : {o o' o₂' : List ℕ} {at r r₂ : ℕ} {bs : List ℕ} → Put o at bs r o' → Put o at bs r₂ o₂' → (r ≡ r₂) × (o' ≡ o₂')
put_unique p q = (p.ends ∙ sym q.ends, p.holds ∙ sym q.holds)

pub wrote_unique : {o o' o₂' : List ℕ} {at r r₂ : ℕ} {bs : List ℕ} → Wrote o at bs r o' → Wrote o at bs r₂ o₂' → (r ≡ r₂) × (o' ≡ o₂')
wrote_unique {o} {o'} {o₂'} {at} {r} {r₂} {bs} v w =
    split (leb (at + length bs) (length o))
    (λ t. put_unique (v.fits (leb-true _ _ t)) (w.fits (leb-true _ _ t)))
    (λ t.
    let l = leb-false _ _ t in
    ((v.lacks l).0 ∙ sym (w.lacks l).0, (v.lacks l).1 ∙ sym (w.lacks l).1))
