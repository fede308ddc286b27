-- Two results that a public function allows are equal. Assumes nothing.
use Prim.Native.Nat.{ℕ, ◌+◌, ◌*◌, ◌≤◌, ◌<◌}
use mathlib.Core.Path.{◌≡◌, refl, sym, ◌∙◌}
use mathlib.Core.Logic.Dec
use mathlib.Core.Logic.{by_cases}
use mathlib.Core.List.{List}
use native.Mathlib.Decide.{dec_le, dec_lt, map_dec}
use lib.ListN.{length}
use Rattle.pairs.specs.declared.Pair.{Pair}
use Rattle.paper.specs.declared.RuleRow.{RuleRow}
use Rattle.pairs.specs.declared.Sizes.{Sizes}
use Rattle.pairs.specs.Memory.{end_at}
use Rattle.pairs.specs.State.{code, eps_mark}
use Rattle.pairs.specs.Work.{RowRead, HasNumber, PlaceIn, PlaceRead, TakeRead, Added, new, old}

pub row_unique : {w : ℕ} {xs : List ℕ} {i : ℕ} {r s : RuleRow} → RowRead w xs i r → RowRead w xs i s → r ≡ s
row_unique {w} {xs} {i} x y = by_cases (dec_le (i * w + w) (length xs))
    (λ h.
    let a = x.inside h in
    let b = y.inside h in
    rw (a.kind ∙ sym b.kind, a.left ∙ sym b.left, a.right ∙ sym b.right, a.to ∙ sym b.to) refl)
    (λ h. x.outside h ∙ sym (y.outside h))

pub number_unique : (n c : ℕ) {r s : Pair} → HasNumber n c r → HasNumber n c s → r ≡ s
number_unique n c (a, b) (d, e) = rw (a ∙ sym d, b ∙ sym e) refl

place? : (z : Sizes) (size i : ℕ) → Dec (PlaceIn z size i)
place? z size i = map_dec {A = (z.pairs < eps_mark) × ((end_at z.base z.pairs ≤ size) × (i < z.pairs))}
    (λ x. (record { few = x.0; long = x.1.0 }, x.1.1)) (λ x. (x.0.few, (x.0.long, x.1)))
    (Dec.and (dec_lt _ _) (Dec.and (dec_le _ _) (dec_lt _ _)))

module _ {z : Sizes} {ws : List ℕ} where
  pub place_unique : {i : ℕ} {r s : Pair} → PlaceRead z ws i r → PlaceRead z ws i s → r ≡ s
  place_unique {i} x y = by_cases (place? z (length ws) i)
      (λ h. number_unique z.receivers _ (x.inside h) (y.inside h))
      (λ h. number_unique z.receivers 0 (x.outside h) (y.outside h))

  pub take_unique : {i : ℕ} {us vs : List ℕ} {r s : Pair} → TakeRead z ws i us r → TakeRead z ws i vs s → (us ≡ vs) × (r ≡ s)
  take_unique {i} {us} {vs} {r} {s} x y = (same e y, e)
    where
      e : r ≡ s
      e = place_unique x.read y.read

      same : {t : Pair} → r ≡ t → TakeRead z ws i vs t → us ≡ vs
      same q y = by_cases (place? z (length ws) (code z.receivers r.p.0 r.q.0))
          (λ h. x.inside h ∙ rw q (sym (y.inside (rw q at h))))
          (λ h. x.outside h ∙ sym (y.outside (rw q at h)))

  pub added_unique : {k c a b : ℕ} {us vs : List ℕ} {d e : ℕ} → Added z ws k c a b us d → Added z ws k c a b vs e → (us ≡ vs) × (d ≡ e)
  added_unique (new f g) (new h i) = (refl, refl)
  added_unique (new f g) (old n) = absurd (n (f, g))
  added_unique (old n) (new f g) = absurd (n (f, g))
  added_unique (old n) (old m) = (refl, refl)
