-- Where one number c is told of whatever is wrong: `first` refuses exactly the first thing that is wrong. Assumes nothing.
use Prim.Native.Nat.{ℕ, ◌+◌}
use mathlib.Core.Path.{◌≡◌, sym, ◌∙◌}
use mathlib.Core.Logic.{◌≢◌, ◌⊎◌, inl, inr, ⊎_elim}
use Rattle.paper.specs.Told.{Told, refused}
use Rattle.paper.specs.First.{First, Clear, first, FirstWrong, NoneWrong}
use Rattle.paper.proofs.FirstLaws.{first_clear, first_fault, first_or_clear}

-- c where something is wrong, else 0
abbrev pub Verdict : ℕ → ℕ → Type 0 → Type 0
Verdict c f W = ((f ≡ c) × W) ⊎ ((f ≡ 0) × ¬ W)

pub wrong_of : {c f : ℕ} {W : Type 0} → Verdict c f W → W → f ≡ c
wrong_of (inl x) w = x.0
wrong_of (inr x) w = absurd (x.1 w)

pub clear_of : {c f : ℕ} {W : Type 0} → Verdict c f W → ¬ W → f ≡ 0
clear_of (inl x) n = absurd (n x.1)
clear_of (inr x) n = x.0

pub right_of : {c f : ℕ} {W : Type 0} → c ≢ 0 → Verdict c f W → f ≡ 0 → ¬ W
right_of d (inl x) e w = d (sym x.0 ∙ e)
right_of d (inr x) e w = x.1 w

pub fault_of : {c f : ℕ} {W : Type 0} → Verdict c f W → f ≢ 0 → W
fault_of (inl x) d = x.1
fault_of (inr x) d = absurd (d x.0)

module _ (c : ℕ) (f : ℕ → ℕ) (W : ℕ → Type 0) (d : c ≢ 0) (v : (k : ℕ) → Verdict c (f k) (W k)) where
  pub first_wrong : (n k : ℕ) (z : Told) → FirstWrong W n k → first f n z ≡ refused c 0 (k + 1)
  first_wrong n k z h =
      first_fault f n c k z
      (record { inside = h.inside; here = wrong_of (v k) h.wrong; fault = d; before = λ j l. clear_of (v j) (h.before j l) })

  pub first_none : (n : ℕ) (z : Told) → NoneWrong W n → first f n z ≡ z
  first_none n z h = first_clear f n z (λ j l. clear_of (v j) (h j l))

  pub wrong_or_none : (n : ℕ) → ((k : ℕ) × FirstWrong W n k) ⊎ NoneWrong W n
  wrong_or_none n = ⊎_elim one none (first_or_clear f n)
    where
      one : (k i : ℕ) × First f n k i → ((k : ℕ) × FirstWrong W n k) ⊎ NoneWrong W n
      one (k, i, h) =
          inl (
            i,
            record {
              inside = h.inside;
              wrong = fault_of (v i) (λ e. h.fault (sym h.here ∙ e));
              before = λ j l. right_of d (v j) (h.before j l);
            },
          )

      none : Clear f n → ((k : ℕ) × FirstWrong W n k) ⊎ NoneWrong W n
      none h = inr (λ j l. right_of d (v j) (h j l))
