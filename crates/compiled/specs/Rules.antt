-- The rules of the models' table, in their order, and the numbers that stand for them.
use Rattle.std.specs.Prelude.{ℕ, Bool, true, false, ◌&&◌, List, [], ◌∷◌, ◌++◌, length}
use Rattle.paper.specs.Limits.{leaf_kind, join_kind, eps_kind}
use Rattle.table.specs.Rules.{Rule, leaf_rule, join_rule, eps_rule}
use Rattle.compiled.specs.States.{State, each, states, the_state_at, initial_of, owner, may_end, bearing, goes_on_of}
use Rattle.model.specs.Documents.{Line}

-- a rule, if a test holds
unfoldable pub only : Bool → Rule → List Rule
only true r = r ∷ []
only false r = []

-- leaf rules: each modelled symbol to its initial state, rising by symbol
unfoldable pub leaf_rules : ℕ → List State → List Rule
leaf_rules n S = each n (λ a. each (length S) (λ q. only (initial_of a (the_state_at S q)) (leaf_rule a q)))

-- ε rules: each state at which a word of its model may end, to its element, rising
unfoldable pub eps_rules : List State → List Rule
eps_rules S = each (length S) (λ q. only (may_end (the_state_at S q)) (eps_rule q (owner (the_state_at S q))))

-- join rules: from state q with element a to place y, if y bears a and can come next after q; rising by left, then right
unfoldable pub join_rules : ℕ → List State → List Rule
join_rules n S =
    each (length S) (λ q. each n (λ a. each (length S) (λ y.
    only (goes_on_of (the_state_at S q) (the_state_at S y) && bearing a (the_state_at S y)) (join_rule q a y))))

-- all rules: the leaf rules, behind them the ε rules, then the join rules
unfoldable pub rules : ℕ → List Line → List Rule
rules n ls = let S = states n ls in leaf_rules n S ++ (eps_rules S ++ join_rules n S)

-- the four numbers of a rule (the width of a rule, as the laws ask)
unfoldable pub numbers_of : Rule → List ℕ
numbers_of (leaf_rule a q) = leaf_kind ∷ a ∷ 0 ∷ q ∷ []
numbers_of (join_rule l r q) = join_kind ∷ l ∷ r ∷ q ∷ []
numbers_of (eps_rule p q) = eps_kind ∷ p ∷ 0 ∷ q ∷ []

-- the numbers of rules, one behind the other
unfoldable pub numbers : List Rule → List ℕ
numbers [] = []
numbers (r ∷ rs) = numbers_of r ++ numbers rs
