-- What one rule gives a node before any ε step: nothing, or its target. Assumes nothing.
use Prim.Native.Nat.{ℕ, ◌+◌, ◌*◌}
use mathlib.Core.Path.{◌≡◌, refl, sym, ◌∙◌}
use mathlib.Core.Logic.{inl, inr, by_cases}
use mathlib.Core.List.{List}
use native.Mathlib.Decide.{ℕ_discrete}
use Rattle.paper.specs.Limits.{at}
use Rattle.accept.specs.Work.{Added, Fits, Gathered}
use Rattle.accept.proofs.SetLaws.{grown_added}

module _ (b w : ℕ) (xs ns : List ℕ) (i : ℕ) where
  pub gathered_one : (k : ℕ) (s t : List ℕ) → Fits b w xs k ns i s → Added b s i (at xs (k * w + 3)) t → Gathered b w xs (λ j. j ≡ k) ns i s t
  gathered_one k s t f a = record {
    grown = grown_added b a;
    all = λ j e _. rw e a.here;
    only = λ p h x. by_cases (ℕ_discrete p (at xs (k * w + 3))) (λ e. inr (k, refl, f, sym e)) (λ d. inl (sym (a.states p h d) ∙ x));
  }
