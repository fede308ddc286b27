-- States behind those so far: what is kept of each of them. Assumes nothing.
use Prim.Native.Nat.{ℕ, zero, suc, ◌+◌, ◌≤◌, ◌<◌}
use native.Mathlib.Omega.{arith}
use mathlib.Core.Path.{◌≡◌, refl, ap, ◌∙◌}
use mathlib.Core.Bool.{false}
use mathlib.Core.List.{List, ◌++◌}
use lib.ListN.{length, length-append, get_or-eq_default}
use borrow.Author.Tests.{eq-eqb, ne_eqb}
use Rattle.model.specs.Model.{Model, places}
use Rattle.model.specs.Sets.{comes}
use Rattle.compiled.specs.States.{State, element, inside, insides, the_state_at, goes_on_of}
use Rattle.model.specs.Documents.{Line}
use Rattle.compiled.proofs.Numbers.{length_insides, state_first, state_behind, state_insides}
use Rattle.model_fill.specs.Kept.{belongs_to}

-- no state
pub state_none : (S : List State) (q : ℕ) → length S ≤ q → the_state_at S q ≡ element 0
unfolding the_state_at
state_none S q h = get_or-eq_default S (element 0) h

pub goes_none : (s : State) (b : ℕ) → goes_on_of s (element b) ≡ false
unfolding goes_on_of
goes_none (element a) b = refl
goes_none (inside a m i) b = refl

pub goes_initial : (s : State) (b : ℕ) (m : Model) → goes_on_of s (inside b m 0) ≡ false
unfolding goes_on_of
goes_initial (element a) b m = refl
goes_initial (inside a n i) b m = refl

-- states of two models do not go on in each other

pub goes_apart : (s t : State) → (belongs_to s ≡ belongs_to t → ⊥) → goes_on_of s t ≡ false
unfolding goes_on_of belongs_to
goes_apart (element a) t d = refl
goes_apart (inside a m i) (element b) d = refl
goes_apart (inside a m i) (inside b n zero) d = refl
goes_apart (inside a m i) (inside b n (suc y)) d = rw (ne_eqb a b d) refl

pub goes_within : (a : ℕ) (m : Model) (i y : ℕ) → goes_on_of (inside a m i) (inside a m (suc y)) ≡ comes m i y
unfolding goes_on_of
goes_within a m i y = rw (eq-eqb a a refl) refl

module _ (S : List State) (ln : Line) where
  -- the new states, and none behind them
  pub new_state : (i : ℕ) → i < suc (places ln.model) → the_state_at (S ++ insides ln) (length S + i) ≡ inside ln.of ln.model i
  new_state i h = state_behind S (insides ln) i ∙ state_insides ln i h

  pub old_state : (q : ℕ) → q < length S → the_state_at (S ++ insides ln) q ≡ the_state_at S q
  old_state q h = state_first S (insides ln) q h

  pub new_length : length (S ++ insides ln) ≡ length S + suc (places ln.model)
  new_length = length-append S (insides ln) ∙ ap (λ n. length S + n) (length_insides ln)

  pub no_state : (q : ℕ) → length S + suc (places ln.model) ≤ q → the_state_at (S ++ insides ln) q ≡ element 0
  no_state q h = state_none (S ++ insides ln) q (omega (arith, new_length))
