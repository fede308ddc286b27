-- Rules, the states that a tree has under a set of rules, and acceptance: the published evaluation of stepwise tree automata. A set of
-- rules is any predicate on rules; a table's rules are those whose numbers stand in one of its rows. Sorts play no part in this.
use Rattle.std.specs.Prelude.{ℕ, ◌+◌, ◌*◌, ◌/◌, ◌%◌, ◌≤◌, ◌≡◌, List, length, Option, Some, None}
use Rattle.paper.specs.declared.RuleRow.{RuleRow}
use Rattle.paper.specs.Limits.{at, leaf_kind, join_kind, eps_kind}
use Rattle.tree.specs.Tree.{Tree, leaf, join}

pub data Rule : Type 0 where
  leaf_rule : (symbol state : ℕ) → Rule
  join_rule : (left right state : ℕ) → Rule
  eps_rule : (from to : ℕ) → Rule

-- row i of a list of rows of w numbers is there, and begins with the numbers k a b q
pub record Row (w : ℕ) (xs : List ℕ) (i k a b q : ℕ) : Type 0 where
  pub inside : i * w + w ≤ length xs
  pub kind : at xs (i * w) ≡ k
  pub left : at xs (i * w + 1) ≡ a
  pub right : at xs (i * w + 2) ≡ b
  pub target : at xs (i * w + 3) ≡ q

-- the numbers of row i, if it is whole inside the list
abbrev pub RowAt : ℕ → List ℕ → ℕ → Option RuleRow → Type 0
RowAt w xs i None = length xs / w ≤ i
RowAt w xs i (Some r) = Row w xs i r.kind r.left r.right r.to

-- row i is this rule
abbrev pub RowRule : ℕ → List ℕ → ℕ → Rule → Type 0
RowRule w xs i (leaf_rule a q) = Row w xs i leaf_kind a 0 q
RowRule w xs i (join_rule l r q) = Row w xs i join_kind l r q
RowRule w xs i (eps_rule p q) = Row w xs i eps_kind p 0 q

-- the rules of a table
abbrev pub RulesOf : ℕ → List ℕ → Rule → Type 0
RulesOf w xs r = (i : ℕ) × RowRule w xs i r

-- q is reached from p by zero or more ε steps
pub data Reach (R : Rule → Type 0) (p : ℕ) : ℕ → Type 0 where
  here : Reach R p p
  step : {q r : ℕ} → Reach R p q → R (eps_rule q r) → Reach R p r

-- the tree has the state: a leaf has the targets of its leaf rules, a join the targets of the join rules whose left state the left
-- tree has and whose right state the right tree has, and each all that ε steps reach
pub data Has (R : Rule → Type 0) : Tree → ℕ → Type 0 where
  at_leaf : {a q : ℕ} → R (leaf_rule a q) → Has R (leaf a) q
  at_join : {s t : Tree} {l r q : ℕ} → Has R s l → Has R t r → R (join_rule l r q) → Has R (join s t) q
  at_eps : {t : Tree} {p q : ℕ} → Has R t p → R (eps_rule p q) → Has R t q

-- the sorts: 1 may stand left of a join, 2 right, 3 both; the greatest sort, and the greatest value of final
abbrev pub left_sort : ℕ
left_sort = 1

abbrev pub right_sort : ℕ
right_sort = 2

abbrev pub both_sort : ℕ
both_sort = 3

abbrev pub most_sort : ℕ
most_sort = both_sort

abbrev pub most_final : ℕ
most_final = 1

-- a state mark is 2 × sort + final
abbrev pub mark_for : ℕ → ℕ → ℕ
mark_for sort final = 2 * sort + final

abbrev pub sort_of : ℕ → ℕ
sort_of m = m / 2

abbrev pub final_of : ℕ → ℕ
final_of m = m % 2

abbrev pub Final : List ℕ → ℕ → Type 0
Final ms q = final_of (at ms q) ≡ 1

-- a tree is accepted if it has a final state
pub record Accepts (R : Rule → Type 0) (ms : List ℕ) (t : Tree) : Type 0 where
  pub state : ℕ
  pub final : Final ms state
  pub has : Has R t state
