-- The first fault in a row of things: f i is the number that is wrong with thing i, 0 where nothing is wrong with it.
use Rattle.std.specs.Prelude.{ℕ, zero, suc, ◌+◌, ◌<◌, ◌≡◌, ◌≢◌, Option, Some, None}
use Rattle.std.proofs.Math.Logic.{ite}
use Rattle.std.proofs.Math.Decide.{ℕ_discrete}
use Rattle.paper.specs.Told.{Told, refused}

-- thing i of the first n has the fault k, and none before it has a fault
pub record First (f : ℕ → ℕ) (n k i : ℕ) : Type 0 where
  pub inside : i < n
  pub here : f i ≡ k
  pub fault : k ≢ 0
  pub before : (j : ℕ) → j < i → f j ≡ 0

-- none of the first n things has a fault
abbrev pub Clear : (ℕ → ℕ) → ℕ → Type 0
Clear f n = (j : ℕ) → j < n → f j ≡ 0

-- the refusal of the first fault among the first n things, of side 0, its place counted from 1; or else what follows
unfoldable pub first : (ℕ → ℕ) → ℕ → Told → Told
first f zero z = z
first f (suc n) z = first f n (ite (ℕ_discrete (f n) 0) z (refused (f n) 0 (n + 1)))

-- of what is wrong with a thing, W: thing k of the first n is wrong, and none before it
pub record FirstWrong (W : ℕ → Type 0) (n k : ℕ) : Type 0 where
  pub inside : k < n
  pub wrong : W k
  pub before : (j : ℕ) → j < k → ¬ W j

-- none of the first n things is wrong
abbrev pub NoneWrong : (ℕ → Type 0) → ℕ → Type 0
NoneWrong W n = (j : ℕ) → j < n → ¬ W j

-- a search among the first n things tells the first that is wrong, if one is
abbrev pub FindsWrong : (ℕ → Type 0) → ℕ → Option ℕ → Type 0
FindsWrong W n None = NoneWrong W n
FindsWrong W n (Some k) = FirstWrong W n k
