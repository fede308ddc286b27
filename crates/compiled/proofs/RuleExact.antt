-- The rules of the models' table are exactly those that `RuleOf` says in words. Assumes nothing.
use Prim.Native.Nat.{ℕ, suc, ◌<◌}
use mathlib.Core.Path.{◌≡◌, refl, sym, ◌∙◌, ap, subst}
use mathlib.Core.Logic.{◌↔◌, ◌⊎◌, inl, inr}
use mathlib.Core.List.{List, ◌++◌}
use lib.Dec.{T}
use Rattle.paper.specs.Limits.{Limits}
use Rattle.table.specs.Rules.{Rule, leaf_rule, join_rule, eps_rule, RulesOf}
use Rattle.model.specs.Model.{Model, bears, ComesNext, MayEnd}
use Rattle.model.proofs.Positions.{test_comes, comes_to, comes_exactly, ends_exactly}
use Rattle.compiled.specs.States.{State, element, inside, states, the_state_at, initial_of, owner, may_end, bearing, goes_on_of}
use Rattle.model.specs.Documents.{Line}
use Rattle.compiled.specs.Rules.{leaf_rules, eps_rules, join_rules, rules, numbers}
use Rattle.compiled.specs.Valid.{GoodLines}
use Rattle.compiled.specs.Meaning.{Numbered, RuleOf, leaf_of, the_eps_of, join_of}
use Rattle.compiled.proofs.Member.{In, in_left, in_right, in_append}
use Rattle.compiled.proofs.Lines.{lines_below, lines_distinct}
use Rattle.compiled.proofs.Numbers.{number_element, element_number, inside_model, same_model}
use Rattle.compiled.proofs.Rows.{rules_of_exactly}
use Rattle.compiled.proofs.Parts.{initial_is, is_initial_lem, Ending, ending, ends_is, is_end, Going, going, goes_is, is_going}
use Rattle.compiled.proofs.Parts.{Bearing, bears_it, bearing_is, is_bearing}
use Rattle.compiled.proofs.Parts.{LeafIn, in_leafs, leafs_in, EpsIn, in_epses, epses_in, JoinIn, in_joins, joins_in}

module _ {n : ℕ} {ls : List Line} (g : GoodLines n ls) where
  abbrev S : List State
  S = states n ls

  -- from the list
  leaf_to : {r : Rule} → LeafIn n S r → RuleOf n ls r
  leaf_to h =
      let k = initial_is h.symbol (the_state_at S h.state) h.initial in
      subst (RuleOf n ls) (sym h.is) (leaf_of (record { below = h.state_below; is = k.1 }))

  eps_of : (q : ℕ) (s : State) → Numbered n ls q s → Ending s → RuleOf n ls (eps_rule q (owner s))
  unfolding owner
  eps_of q s h (ending {a = a} {i = i} {m = m} t) =
      the_eps_of h ((ends_exactly m i).0 t) (number_element a ((lines_below g).outer a m (inside_model (lines_distinct g) h)))

  eps_to : {r : Rule} → EpsIn n S r → RuleOf n ls r
  eps_to h =
      subst (RuleOf n ls) (sym h.is)
      (eps_of h.state (the_state_at S h.state) (record { below = h.state_below; is = refl }) (ends_is (the_state_at S h.state) h.end))

  join_of_lem : (q a y : ℕ) (s t : State) → a < n → Numbered n ls q s → Numbered n ls y t → Going s t → Bearing a t
      → RuleOf n ls (join_rule q a y)
  join_of_lem q a y s t l h k (going {a = b} {i = i} {y = z} {m = m} c) (bears_it {m = m'} e) =
      let w : m' ≡ m = same_model (lines_distinct g) k h in
      join_of h ((comes_exactly m i z).0 c)
      (subst (λ b. Numbered n ls a (element b)) (sym e ∙ ap (λ m. bears m z) w) (number_element a l))
      (subst (λ m. Numbered n ls y (inside b m (suc z))) w k)

  join_to : {r : Rule} → JoinIn n S r → RuleOf n ls r
  join_to h =
      subst (RuleOf n ls) (sym h.is)
      (join_of_lem h.from h.symbol h.to (the_state_at S h.from) (the_state_at S h.to) h.symbol_below_of
      (record { below = h.from_below_of; is = refl }) (record { below = h.to_below_of; is = refl })
      (goes_is (the_state_at S h.from) (the_state_at S h.to) h.goes) (bearing_is h.symbol (the_state_at S h.to) h.bears_it))

  in_rule : {r : Rule} → In r (rules n ls) → RuleOf n ls r
  unfolding rules
  in_rule {r} h = first (in_append (leaf_rules n S) (eps_rules S ++ join_rules n S) h)
    where
      second : In r (eps_rules S) ⊎ In r (join_rules n S) → RuleOf n ls r
      second (inl k) = eps_to (in_epses n S k)
      second (inr k) = join_to (in_joins n S k)

      first : In r (leaf_rules n S) ⊎ In r (eps_rules S ++ join_rules n S) → RuleOf n ls r
      first (inl k) = leaf_to (in_leafs n S k)
      first (inr k) = second (in_append (eps_rules S) (join_rules n S) k)

  -- into the list
  leaf_from : {a q : ℕ} {m : Model} → Numbered n ls q (inside a m 0) → In (leaf_rule a q) (leaf_rules n S)
  leaf_from {a} {q} {m} h =
      leafs_in n S a q ((lines_below g).outer a m (inside_model (lines_distinct g) h)) h.below
      (subst (λ s. T (initial_of a s)) (sym h.is) (is_initial_lem a m))

  owner_is : (q a : ℕ) (m : Model) (i : ℕ) → Numbered n ls q (inside a m i) → owner (the_state_at S q) ≡ a
  unfolding owner
  owner_is q a m i h = ap owner h.is

  eps_from : {a i q e : ℕ} {m : Model} → Numbered n ls q (inside a m i) → MayEnd m i → Numbered n ls e (element a)
      → In (eps_rule q e) (eps_rules S)
  eps_from {a} {i} {q} {e} {m} h l k =
      subst (λ b. In (eps_rule q b) (eps_rules S)) (owner_is q a m i h ∙ sym (element_number k))
      (epses_in n S q h.below (subst (λ s. T (may_end s)) (sym h.is) (is_end a m i ((ends_exactly m i).1 l))))

  join_from : {a i y q e p : ℕ} {m : Model} → Numbered n ls q (inside a m i) → ComesNext m i y → Numbered n ls e (element (bears m y))
      → Numbered n ls p (inside a m (suc y)) → In (join_rule q e p) (join_rules n S)
  join_from {a} {i} {y} {q} {e} {p} {m} h l k j =
      let c = (comes_exactly m i y).1 l in
      let b = (lines_below g).inner a m (inside_model (lines_distinct g) h) y (comes_to m i y (test_comes m i y c)) in
      subst (λ e. In (join_rule q e p) (join_rules n S)) (sym (element_number k))
      (joins_in n S q (bears m y) p h.below b j.below
      (subst (λ s. T (goes_on_of s (the_state_at S p))) (sym h.is)
      (subst (λ s. T (goes_on_of (inside a m i) s)) (sym j.is) (is_going a m m i y c)))
      (subst (λ s. T (bearing (bears m y) s)) (sym j.is) (is_bearing a m y)))

  rule_in : {r : Rule} → RuleOf n ls r → In r (rules n ls)
  unfolding rules
  rule_in (leaf_of h) = in_left (eps_rules S ++ join_rules n S) (leaf_from h)
  rule_in (the_eps_of h l k) = in_right (leaf_rules n S) (in_left (join_rules n S) (eps_from h l k))
  rule_in (join_of h l k j) = in_right (leaf_rules n S) (in_right (eps_rules S) (join_from h l k j))

  pub rules_exactly : (r : Rule) → In r (rules n ls) ↔ RuleOf n ls r
  rules_exactly r = (in_rule, rule_in)

  -- the rules of the table's numbers
  pub rule_exactly : (L : Limits) → L.width ≡ 4 → (r : Rule) → RulesOf L.width (numbers (rules n ls)) r ↔ RuleOf n ls r
  rule_exactly L w r = subst (λ w. RulesOf w (numbers (rules n ls)) r ↔ RuleOf n ls r) (sym w) four
    where
      four : RulesOf 4 (numbers (rules n ls)) r ↔ RuleOf n ls r
      four = let k = rules_of_exactly (rules n ls) r in (λ h. in_rule (k.0 h), λ h. k.1 (rule_in h))
