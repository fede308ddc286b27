-- The worked examples marked * in the paper, as a single list of claims with their answers.
use Rattle.std.specs.Prelude.{ℕ, ◌≡◌, Bool, true, false, List, [], ◌∷◌}
use Rattle.std.proofs.Math.Option.{some}
use Rattle.paper.specs.Limits.{limits}
use Rattle.tree.specs.Tree.{Tree, leaf, join}
use Rattle.table.specs.Rules.{RulesOf, Accepts}
use Rattle.model.specs.Model.{Model, symbol, empty, star, maybe, Ambiguous}
use Rattle.model.specs.Postfix.{parse}
use Rattle.model.specs.declared.Token.{Token}
use Rattle.model.specs.declared.Token.TheVariants.{Symbol, Comma, Bar, Star, Query}
use Rattle.compiled.specs.States.{marks}
use Rattle.model.specs.Documents.{Line}
use Rattle.compiled.specs.Rules.{rules, numbers}

-- the models of K: three symbols, the start 0, and the lines `1 *` for 0, `2 ?` for 1 and `e` for 2
abbrev pub k_symbols : ℕ
k_symbols = 3

abbrev pub k_start : ℕ
k_start = 0

abbrev pub k_lines_of : List Line
k_lines_of =
    record { of = 0; model = star (symbol 1) }
    ∷ record { of = 1; model = maybe (symbol 2) }
    ∷ record { of = 2; model = empty }
    ∷ []

-- K as it stands in the paper: the marks of its eight states, and its eleven rules
abbrev pub k_marks_of : List ℕ
k_marks_of = 5 ∷ 4 ∷ 4 ∷ 2 ∷ 2 ∷ 2 ∷ 2 ∷ 2 ∷ []

abbrev pub k_rules_of : List ℕ
k_rules_of =
    0 ∷ 0 ∷ 0 ∷ 3 ∷ 0 ∷ 1 ∷ 0 ∷ 5 ∷ 0 ∷ 2 ∷ 0 ∷ 7
    ∷ 2 ∷ 3 ∷ 0 ∷ 0 ∷ 2 ∷ 4 ∷ 0 ∷ 0 ∷ 2 ∷ 5 ∷ 0 ∷ 1 ∷ 2 ∷ 6 ∷ 0 ∷ 1 ∷ 2 ∷ 7 ∷ 0 ∷ 2
    ∷ 1 ∷ 3 ∷ 1 ∷ 4 ∷ 1 ∷ 4 ∷ 1 ∷ 4 ∷ 1 ∷ 5 ∷ 2 ∷ 6 ∷ []

-- K accepts a tree; tokens write an ambiguous model
pub data Claim : Type 0 where
  k_accepts : Tree → Claim
  ambiguous_model : List Token → Claim

-- a claim with its answer
pub record Example : Type 0 where
  pub claim : Claim
  pub answer : Bool

-- what a claim says, if its answer is yes and if it is no
abbrev pub Holds : Bool → Type 0 → Type 0
Holds true P = P
Holds false P = ¬ P

abbrev pub Says : Claim → Bool → Type 0
Says (k_accepts t) b = Holds b (Accepts (RulesOf limits.width (numbers (rules k_symbols k_lines_of))) (marks k_start k_symbols k_lines_of) t)
Says (ambiguous_model ts) b = (m : Model) × (parse ts ≡ some m) × Holds b (Ambiguous m)

-- every example of a list holds
pub data All : List Example → Type 0 where
  none_left : All []
  and_then : {e : Example} {l : List Example} → Says e.claim e.answer → All l → All (e ∷ l)

abbrev pub examples : List Example
examples =
    record { claim = k_accepts (leaf 0); answer = true }
    ∷ record { claim = k_accepts (join (leaf 0) (leaf 1)); answer = true }
    ∷ record { claim = k_accepts (join (leaf 0) (join (leaf 1) (leaf 2))); answer = true }
    ∷ record { claim = k_accepts (leaf 1); answer = false }
    ∷ record { claim = k_accepts (join (leaf 0) (leaf 2)); answer = false }
    ∷ record { claim = k_accepts (join (join (leaf 0) (leaf 1)) (leaf 2)); answer = false }
    ∷ record { claim = ambiguous_model (Symbol 0 ∷ Symbol 1 ∷ Comma ∷ Symbol 0 ∷ Symbol 2 ∷ Comma ∷ Bar ∷ []); answer = true }
    ∷ record { claim = ambiguous_model (Symbol 0 ∷ Star ∷ Symbol 0 ∷ Comma ∷ []); answer = true }
    ∷ record { claim = ambiguous_model (Symbol 0 ∷ Query ∷ Symbol 0 ∷ Query ∷ Comma ∷ []); answer = true }
    ∷ record { claim = ambiguous_model (Symbol 0 ∷ Symbol 0 ∷ Comma ∷ []); answer = false }
    ∷ record { claim = ambiguous_model (Symbol 0 ∷ Star ∷ Star ∷ []); answer = false }
    ∷ record { claim = ambiguous_model (Symbol 0 ∷ Symbol 1 ∷ Bar ∷ Star ∷ []); answer = false }
    ∷ []
