-- Every worked example holds, and K is the table of its models. Assumes nothing.
use Prim.Native.Nat.{ℕ, ◌<◌}
use native.Mathlib.Omega.{arith}
use mathlib.Core.Path.{◌≡◌, refl, subst, sym}
use mathlib.Core.Logic.{◌↔◌}
use mathlib.Core.Bool.{Bool, true, false, not, ◌&&◌}
use mathlib.Core.Option.{Option, none, some}
use mathlib.Core.List.{List, [], ◌∷◌}
use lib.ListN.{get_or}
use lib.Dec.{T, eqb, eqb→eq, lit<}
use Rattle.paper.specs.Limits.{limits}
use Rattle.tree.specs.Tree.{Tree}
use Rattle.table.specs.Rules.{RulesOf, Accepts}
use Rattle.model.specs.Model.{Model, symbol, empty, star, maybe, Ambiguous}
use Rattle.model.specs.Documents.{top, Derives}
use Rattle.model.specs.Sets.{ambiguous}
use Rattle.model.specs.Postfix.{parse}
use Rattle.model.specs.declared.Token.TheVariants.{Symbol, Empty, Star, Query}
use Rattle.model.proofs.Tests.{and_elim, and_both}
use Rattle.model.proofs.Positions.{ambiguous_exactly}
use Rattle.model.proofs.Binary.{derives_top}
use Rattle.model.specs.Documents.{snoc, add, doc}
use Rattle.model.proofs.Decided.{derives, derives_exactly}
use Rattle.compiled.specs.States.{each, insides, all_insides, states, mark_of, marks, the_state_at}
use Rattle.model.specs.Documents.{model_of}
use Rattle.compiled.specs.States.{initial_of, owner, may_end, bearing, goes_on_of}
use Rattle.compiled.specs.Rules.{only, leaf_rules, eps_rules, join_rules, rules, numbers_of, numbers}
use Rattle.compiled.specs.Valid.{GoodLines, no_line, one_more_of, Valid}
use Rattle.compiled.proofs.Accept.{accepts_tree}
use Rattle.worked.specs.Examples.{k_symbols, k_start, k_lines_of, k_marks_of, k_rules_of, Claim, k_accepts, ambiguous_model, Example}
use Rattle.worked.specs.Examples.{Holds, Says, All, none_left, and_then, examples}

-- K
pub k_marks : marks k_start k_symbols k_lines_of ≡ k_marks_of
unfolding marks mark_of states each insides all_insides
k_marks = refl

pub k_rules : numbers (rules k_symbols k_lines_of) ≡ k_rules_of
unfolding numbers numbers_of rules leaf_rules eps_rules join_rules only
    states each insides all_insides the_state_at initial_of owner may_end bearing goes_on_of
k_rules = refl

-- its models are those that its lines write
pub k_first : parse (Symbol 1 ∷ Star ∷ []) ≡ some (star (symbol 1))
k_first = refl

pub k_second : parse (Symbol 2 ∷ Query ∷ []) ≡ some (maybe (symbol 2))
k_second = refl

pub k_third : parse (Empty ∷ []) ≡ some empty
k_third = refl

-- the lines of K are good
one : (y : ℕ) → y < 1 → 0 ≡ y
one y h = omega arith

nothing : (y : ℕ) → y < 0 → ⊥
nothing y h = omega arith

k_lines : GoodLines k_symbols k_lines_of
unfolding model_of
k_lines =
    one_more_of {ls = record { of = 0; model = star (symbol 1) } ∷ record { of = 1; model = maybe (symbol 2) } ∷ []}
    (one_more_of {ls = record { of = 0; model = star (symbol 1) } ∷ []}
    (one_more_of {ls = []} no_line
    (record { below = lit< tt; new = refl; inner = λ y h. subst (λ y. get_or (1 ∷ []) y 0 < 3) (one y h) (lit< tt) }))
    (record { below = lit< tt; new = refl; inner = λ y h. subst (λ y. get_or (2 ∷ []) y 0 < 3) (one y h) (lit< tt) }))
    (record { below = lit< tt; new = refl; inner = λ y h. absurd (nothing y h) })

k_valid : Valid k_symbols k_start k_lines_of
k_valid = record { start_below = lit< tt; lines = k_lines }

-- a test for each claim
agrees : Bool → Bool → Bool
agrees true b = b
agrees false b = not b

agree_holds : {P : Type 0} (a b : Bool) → T b ↔ P → T (agrees a b) → Holds a P
unfolding agrees
agree_holds true b i t = i.0 t
agree_holds false true i t = absurd t
agree_holds false false i t = λ p. i.1 p

tells : Bool → Option Model → Bool
tells a none = false
tells a (some m) = agrees a (ambiguous m)

k_test_of : Tree → Bool
k_test_of t = eqb (top (doc t)) k_start && derives (model_of k_lines_of) (doc t)

test : Claim → Bool → Bool
test (k_accepts t) a = agrees a (k_test_of t)
test (ambiguous_model ts) a = tells a (parse ts)

k_test : (t : Tree)
    → T (k_test_of t) ↔ Accepts (RulesOf limits.width (numbers (rules k_symbols k_lines_of))) (marks k_start k_symbols k_lines_of) t
unfolding k_test_of
k_test t = (λ h. (accepts_tree limits refl k_valid t).1 (to h), λ a. back ((accepts_tree limits refl k_valid t).0 a))
  where
    to : T (eqb (top (doc t)) k_start && derives (model_of k_lines_of) (doc t)) → Derives (model_of k_lines_of) k_start (doc t)
    to = and_elim (eqb (top (doc t)) k_start) (derives (model_of k_lines_of) (doc t)) (λ p q.
        subst (λ a. Derives (model_of k_lines_of) a (doc t)) (eqb→eq _ _ p) ((derives_exactly (model_of k_lines_of) (doc t)).0 q))

    back : Derives (model_of k_lines_of) k_start (doc t) → T (eqb (top (doc t)) k_start && derives (model_of k_lines_of) (doc t))
    back d =
        let e : k_start ≡ top (doc t) = sym (derives_top d) in
        and_both (eqb (top (doc t)) k_start) (derives (model_of k_lines_of) (doc t)) (subst (λ a. T (eqb a k_start)) e tt)
        ((derives_exactly (model_of k_lines_of) (doc t)).1 (subst (λ a. Derives (model_of k_lines_of) a (doc t)) e d))

tells_says : (a : Bool) (o : Option Model) → T (tells a o) → (m : Model) × (o ≡ some m) × Holds a (Ambiguous m)
unfolding tells
tells_says a none t = absurd t
tells_says a (some m) t = (m, refl, agree_holds a (ambiguous m) (ambiguous_exactly m) t)

says : (c : Claim) (a : Bool) → T (test c a) → Says c a
unfolding test
says (k_accepts t) a h = agree_holds a (k_test_of t) (k_test t) h
says (ambiguous_model ts) a h = tells_says a (parse ts) h

tests : List Example → Bool
tests [] = true
tests (e ∷ l) = test e.claim e.answer && tests l

all_hold : (l : List Example) → T (tests l) → All l
unfolding tests
all_hold [] t = none_left
all_hold (e ∷ l) t =
    and_elim (test e.claim e.answer) (tests l) (λ p q. and_then (says e.claim e.answer p) (all_hold l q)) t

pub examples_hold : All examples
unfolding tests test tells agrees k_test_of doc add snoc model_of
examples_hold = all_hold examples tt
