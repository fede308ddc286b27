-- 14 is found exactly at a line with an ambiguous model. Assumes nothing.
use Prim.Native.Nat.{ℕ, ◌<◌}
use mathlib.Core.Path.{◌≡◌, refl, sym, ◌∙◌}
use mathlib.Core.Logic.{◌↔◌, inl, inr, by_cases}
use mathlib.Core.Bool.{Bool, true, false, cond}
use mathlib.Core.List.{List}
use native.Mathlib.Decide.{dec_lt}
use native.Mathlib.Omega.{arith}
use lib.ListN.{length, get_or-eq_default}
use lib.Dec.{T}
use Rattle.paper.proofs.VerdictLaws.{Verdict}
use Rattle.model.specs.Model.{Model, Ambiguous}
use Rattle.model.specs.Sets.{ambiguous}
use Rattle.model.proofs.Positions.{ambiguous_exactly}
use Rattle.model_line.specs.Line.{Said, head, content, misshapen}
use Rattle.model_read.specs.Text.{said_at}
use Rattle.model_fill.specs.Ambiguity.{ambiguity_of, ambiguity_at, AmbiguousAt}

pub head_content : {y s a : ℕ} {m : Model} → head y s ≡ content a m → ⊥
head_content e = let z : ◌≡◌ {A = ℕ} 0 1 = cc in omega arith

pub misshapen_content : {a : ℕ} {m : Model} → misshapen ≡ content a m → ⊥
misshapen_content e = let z : ◌≡◌ {A = ℕ} 0 1 = cc in omega arith

pub content_model : {a b : ℕ} {m m' : Model} → content a m ≡ content b m' → m ≡ m'
content_model e = cc

said_verdict : (ls : List Said) (k : ℕ) (x : Said) → said_at ls k ≡ x → Verdict 14 (ambiguity_of x) (AmbiguousAt ls k)
unfolding ambiguity_of
said_verdict ls k (head y s) e = inr (refl, λ w. head_content (sym e ∙ w.says))
said_verdict ls k (content a m) e = go (ambiguous m) (ambiguous_exactly m)
  where
    go : (b : Bool) → T b ↔ Ambiguous m → Verdict 14 (cond b 14 0) (AmbiguousAt ls k)
    go true i = inl (refl, record { symbol = a; model = m; says = e; ambiguous = i.0 tt })
    go false i = inr (refl, λ w. i.1 (let z : w.model ≡ m = content_model (sym w.says ∙ e) in rw z at w.ambiguous))
said_verdict ls k misshapen e = inr (refl, λ w. misshapen_content (sym e ∙ w.says))

pub ambiguity_verdict : (ls : List Said) (k : ℕ) → Verdict 14 (ambiguity_at ls k) (AmbiguousAt ls k)
unfolding ambiguity_at
ambiguity_verdict ls k = said_verdict ls k (said_at ls k) refl

pub ambiguous_inside : (ls : List Said) (k : ℕ) → AmbiguousAt ls k → k < length ls
ambiguous_inside ls k w = by_cases (dec_lt k (length ls)) (λ h. h)
    (λ h. absurd (misshapen_content (sym (get_or-eq_default ls misshapen {n = k} (omega arith)) ∙ w.says)))
