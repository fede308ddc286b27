-- Writing piece by piece, and what is left as it was where there is no room.
use Prim.Native.Nat.{ℕ, ◌+◌, ◌≤◌, ◌<◌}
use mathlib.Core.Path.{◌≡◌, refl, ap, sym, ◌∙◌}
use mathlib.Core.List.{List, [], ◌++◌}
use mathlib.Core.Bool.{Bool, true, false}
use native.Mathlib.Omega.{arith}
use lib.Dec.{leb}
use lib.ListN.{length, length-append}
use lib.Seq.{sets, length-sets, sets-eq, take-length}
use borrow.Rule.Slice.PartMut.{put_mid}
use Rattle.std.proofs.lemmas.Slice.{put_mid-paste}
use borrow.Author.Tests.{leb-true, leb-false}
use Rattle.put.specs.Put.{Put, Fit, Wrote}
use Rattle.put.proofs.Bytes.{sets_then}
use Rattle.lines.proofs.Tests.{split}

pub put_none : (o : List ℕ) (at : ℕ) → Put o at [] at o
put_none o at = record { ends = omega arith; holds = refl }

pub put_then : {o o₁ o₂ : List ℕ} {at e r : ℕ} {bs cs : List ℕ} → Put o at bs e o₁ → Put o₁ e cs r o₂ → Put o at (bs ++ cs) r o₂
put_then {o} {o₁} {o₂} {at} {e} {r} {bs} {cs} p q =
    record {
      ends = omega (arith, p.ends, q.ends, length-append bs cs);
      holds = q.holds ∙ ap (λ x. sets x e cs) p.holds ∙ sets_then o at bs cs p.ends;
    }

pub put_as : {o o' : List ℕ} {at r : ℕ} {bs cs : List ℕ} → bs ≡ cs → Put o at bs r o' → Put o at cs r o'
put_as e p = rw e at p

pub put_length : {o o' : List ℕ} {at r : ℕ} {bs : List ℕ} → Put o at bs r o' → length o' ≡ length o
put_length {o} {o'} {at} {r} {bs} p = ap length p.holds ∙ length-sets o at bs

-- the bytes of a slice, copied over a part of another
pub put_part : {o ys bs : List ℕ} {at k : ℕ} → ys ≡ bs → k ≡ length bs → Fit o at bs (at + length bs) (put_mid at k o ys)
put_part {o} {ys} {bs} {at} {k} e q h =
    record {
      ends = refl;
      holds = put_mid-paste at k o ys bs (length bs) e (sym q) refl ∙ rw take-length (sym (sets-eq bs o at h));
    }

-- pieces that fit together
pub fit_then : {o o₁ o₂ : List ℕ} {at e r : ℕ} {bs cs : List ℕ} → Fit o at bs e o₁ → Fit o₁ e cs r o₂ → Fit o at (bs ++ cs) r o₂
fit_then {o} {o₁} {o₂} {at} {e} {r} {bs} {cs} f g h =
    let l = length-append bs cs in
    let p = f (omega arith) in
    put_then p (g (omega (arith, p.ends, put_length p)))

pub fit_as : {o o' : List ℕ} {at r : ℕ} {bs cs : List ℕ} → bs ≡ cs → Fit o at bs r o' → Fit o at cs r o'
fit_as e f h = put_as e (f (rw e h))

-- a writer that looks for room first
pub wrote_put : {o o' : List ℕ} {at r : ℕ} {bs : List ℕ} → at + length bs ≤ length o → Fit o at bs r o' → Wrote o at bs r o'
wrote_put h f = record { fits = f; lacks = λ l. absurd (omega arith) }

pub wrote_none : {o : List ℕ} {at : ℕ} {bs : List ℕ} → length o < at + length bs → Wrote o at bs at o
wrote_none h = record { fits = λ l. absurd (omega arith); lacks = λ l. (refl, refl) }

module _ {o : List ℕ} {at size : ℕ} {bs : List ℕ} {t : Bool} (q : t ≡ leb (at + size) (length o)) (s : size ≡ length bs) where
  pub wrote_room : {o' : List ℕ} {r : ℕ} → t ≡ true → Fit o at bs r o' → Wrote o at bs r o'
  wrote_room h f = let l = leb-true (at + size) (length o) (sym q ∙ h) in wrote_put (omega arith) f

  pub wrote_lack : t ≡ false → Wrote o at bs at o
  wrote_lack h = let l = leb-false (at + size) (length o) (sym q ∙ h) in wrote_none (omega arith)

pub wrote_length : {o o' : List ℕ} {at r : ℕ} {bs : List ℕ} → Wrote o at bs r o' → length o' ≡ length o
wrote_length {o} {o'} {at} {r} {bs} w =
    split (leb (at + length bs) (length o))
    (λ t. put_length (w.fits (leb-true _ _ t)))
    (λ t. ap length (w.lacks (leb-false _ _ t)).1)

-- a slice that was lent to an `Out` is at last as the `Out` left it
pub fit_kept : {o o₁ o₂ : List ℕ} {at r : ℕ} {bs : List ℕ} → o₂ ≡ o₁ → Fit o at bs r o₁ → Fit o at bs r o₂
fit_kept e f = rw e f

pub wrote_kept : {o o₁ o₂ : List ℕ} {at r : ℕ} {bs : List ℕ} → o₂ ≡ o₁ → Wrote o at bs r o₁ → Wrote o at bs r o₂
wrote_kept e w = rw e w
