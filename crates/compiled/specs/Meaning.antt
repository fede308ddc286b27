-- The rules of the models' table in words, states by their numbers.
use Rattle.std.specs.Prelude.{ℕ, suc, ◌<◌, ◌≡◌, List, length}
use Rattle.table.specs.Rules.{Rule, leaf_rule, join_rule, eps_rule}
use Rattle.model.specs.Model.{Model, bears, ComesNext, MayEnd}
use Rattle.compiled.specs.States.{State, element, inside, states, the_state_at}
use Rattle.model.specs.Documents.{Line}

-- q is a number of the state s
pub record Numbered (n : ℕ) (ls : List Line) (q : ℕ) (s : State) : Type 0 where
  pub below : q < length (states n ls)
  pub is : the_state_at (states n ls) q ≡ s

-- a leaf rule goes from each modelled symbol to its initial state; an ε rule from each state at which a word of its model may end to
-- its element; a join rule from a state with an element to each place that bears the element's symbol and can come next
pub data RuleOf (n : ℕ) (ls : List Line) : Rule → Type 0 where
  leaf_of : {a q : ℕ} {m : Model} → Numbered n ls q (inside a m 0) → RuleOf n ls (leaf_rule a q)
  the_eps_of : {a i q e : ℕ} {m : Model} → Numbered n ls q (inside a m i) → MayEnd m i → Numbered n ls e (element a)
      → RuleOf n ls (eps_rule q e)
  join_of : {a i y q e p : ℕ} {m : Model} → Numbered n ls q (inside a m i) → ComesNext m i y
      → Numbered n ls e (element (bears m y)) → Numbered n ls p (inside a m (suc y)) → RuleOf n ls (join_rule q e p)
