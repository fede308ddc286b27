-- Filling a stretch number by number, and that what is then held is known. Assumes nothing.
use Prim.Native.Nat.{ℕ, ◌≤◌, ◌<◌, ◌-◌, min}
use native.Mathlib.Omega.{arith}
use native.Mathlib.Decide.{dec_le, dec_lt}
use mathlib.Core.Path.{◌≡◌, refl, sym, ◌∙◌}
use mathlib.Core.Logic.{inl, inr, by_cases}
use mathlib.Core.List.{List}
use lib.ListN.{length, replicate, length-replicate}
use borrow.Rule.Slice.PartMut.{put_mid}
use Rattle.std.proofs.Common.{rules}
use Rattle.std.proofs.lemmas.Slice.{overwrites}
use Rattle.std.proofs.lemmas.List.{places}
use lib.Seq.{ext_get_or}
use Rattle.paper.specs.Limits.{at}
use Rattle.rows.specs.Fill.{Filled}

-- nothing to fill
pub fill_short : {o : List ℕ} {a b v : ℕ} → min b (length o) ≤ a → Filled o a b v o
fill_short h = record { size = refl; inside = λ i p q r. absurd (omega arith); outside = λ i p. refl }

-- the stretch from a on, k long, as far as the slice goes, holds v alone
pub fill_part : {o ys : List ℕ} {a b k m v : ℕ} → a < min b (length o) → k ≡ min b (length o) - a → m ≡ k → ys ≡ replicate m v
    → Filled o a b v (put_mid a k o ys)
fill_part {o} {ys} {a} {b} {k} {m} {v} h e l s = record {
  size = search (rules, overwrites, length-replicate);
  inside = λ i p q r. search (rules, places);
  outside = λ i p. search (rules, places);
}

pub filled_unique : {o s t : List ℕ} {a b v : ℕ} → Filled o a b v s → Filled o a b v t → s ≡ t
filled_unique {o} {s} {t} {a} {b} f g = ext_get_or 0 s t (f.size ∙ sym g.size) (λ i h. one i (omega (arith, f.size)))
  where
    one : (i : ℕ) → i < length o → at s i ≡ at t i
    one i h =
        by_cases (dec_lt i a) (λ p. f.outside i (inl p) ∙ sym (g.outside i (inl p)))
        (λ p. by_cases (dec_le b i) (λ q. f.outside i (inr q) ∙ sym (g.outside i (inr q)))
        (λ q. f.inside i (omega arith) (omega arith) h ∙ sym (g.inside i (omega arith) (omega arith) h)))
