-- Tests of the forms that refusals have: a choice of two, and a search below a bound. What they test stands in their types.
use Rattle.std.specs.Prelude.{ℕ, zero, suc, ◌<◌, ◌⊎◌}
use Rattle.std.proofs.Common.{inl, inr, ⊎_elim, arith}
use Rattle.std.proofs.Math.Logic.{by_cases}
use Rattle.std.proofs.Math.Decide.{ℕ_discrete}

-- a choice of two tests is a test
abbrev pub dec_or : {A B : Type 0} → Dec A → Dec B → Dec (A ⊎ B)
dec_or (yes a) e = yes (inl a)
dec_or (no d) (yes b) = yes (inr b)
dec_or (no d) (no e) = no (⊎_elim d e)

-- a search below n is a test
unfoldable pub dec_below : (P : ℕ → Type 0) → ((i : ℕ) → Dec (P i)) → (n : ℕ) → Dec ((i : ℕ) × (i < n) × P i)
dec_below P d zero = no (λ x. let h = x.1 in omega arith)
dec_below P d (suc n) = go (d n) (dec_below P d n)
  where
    go : Dec (P n) → Dec ((i : ℕ) × (i < n) × P i) → Dec ((i : ℕ) × (i < suc n) × P i)
    go (yes p) e = yes (n, omega arith, p)
    go (no p) (yes x) = yes (x.0, let h = x.1 in omega arith, x.2)
    go (no p) (no e) = no (λ x. let h = x.1 in by_cases (ℕ_discrete x.0 n) (λ i. p (rw i at x.2)) (λ i. e (x.0, omega arith, x.2)))
