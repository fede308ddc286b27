-- What the tests of states say, and what stands in each of the three parts of the rules. Assumes nothing.
use Prim.Native.Nat.{ℕ, zero, suc, ◌<◌}
use mathlib.Core.Path.{◌≡◌, ap, subst}
use mathlib.Core.Bool.{Bool, ◌&&◌}
use mathlib.Core.List.{List}
use lib.ListN.{length}
use lib.Dec.{T, eqb, eqb→eq, eqb_refl}
use Rattle.table.specs.Rules.{Rule, leaf_rule, join_rule, eps_rule}
use Rattle.model.specs.Model.{Model, bears}
use Rattle.model.specs.Sets.{comes, ends}
use Rattle.model.proofs.Tests.{and_elim, and_both}
use Rattle.compiled.specs.States.{State, element, inside, each, the_state_at, initial_of, owner, may_end, bearing, goes_on_of}
use Rattle.compiled.specs.Rules.{only, leaf_rules, eps_rules, join_rules}
use Rattle.compiled.proofs.Member.{In, in_each, each_in, in_only, only_in}

-- the tests of states, by rules
pub initial_is : (a : ℕ) (s : State) → T (initial_of a s) → (m : Model) × (s ≡ inside a m 0)
unfolding initial_of
initial_is a (element b) t = absurd t
initial_is a (inside b m zero) t = (m, ap (λ c. inside c m 0) (eqb→eq b a t))
initial_is a (inside b m (suc y)) t = absurd t

pub is_initial_lem : (a : ℕ) (m : Model) → T (initial_of a (inside a m 0))
unfolding initial_of
is_initial_lem a m = eqb_refl a

pub data Ending : State → Type 0 where
  ending : {a i : ℕ} {m : Model} → T (ends m i) → Ending (inside a m i)

pub ends_is : (s : State) → T (may_end s) → Ending s
unfolding may_end
ends_is (element a) t = absurd t
ends_is (inside a m i) t = ending t

pub is_end : (a : ℕ) (m : Model) (i : ℕ) → T (ends m i) → T (may_end (inside a m i))
unfolding may_end
is_end a m i t = t

pub data Going : State → State → Type 0 where
  going : {a i y : ℕ} {m m' : Model} → T (comes m i y) → Going (inside a m i) (inside a m' (suc y))

pub goes_is : (s t : State) → T (goes_on_of s t) → Going s t
unfolding goes_on_of
goes_is (element a) t h = absurd h
goes_is (inside a m i) (element b) h = absurd h
goes_is (inside a m i) (inside b m' zero) h = absurd h
goes_is (inside a m i) (inside b m' (suc y)) h =
    and_elim (eqb a b) (comes m i y) (λ e c. subst (λ b. Going (inside a m i) (inside b m' (suc y))) (eqb→eq a b e) (going c)) h

pub is_going : (a : ℕ) (m m' : Model) (i y : ℕ) → T (comes m i y) → T (goes_on_of (inside a m i) (inside a m' (suc y)))
unfolding goes_on_of
is_going a m m' i y t = and_both (eqb a a) (comes m i y) (eqb_refl a) t

pub data Bearing (a : ℕ) : State → Type 0 where
  bears_it : {b y : ℕ} {m : Model} → bears m y ≡ a → Bearing a (inside b m (suc y))

pub bearing_is : (a : ℕ) (s : State) → T (bearing a s) → Bearing a s
unfolding bearing
bearing_is a (element b) t = absurd t
bearing_is a (inside b m zero) t = absurd t
bearing_is a (inside b m (suc y)) t = bears_it (eqb→eq (bears m y) a t)

pub is_bearing : (b : ℕ) (m : Model) (y : ℕ) → T (bearing (bears m y) (inside b m (suc y)))
unfolding bearing
is_bearing b m y = eqb_refl (bears m y)

-- a rule of each part, if its test holds
abbrev pub leaf_at : List State → ℕ → ℕ → List Rule
leaf_at S a q = only (initial_of a (the_state_at S q)) (leaf_rule a q)

abbrev pub eps_at : List State → ℕ → List Rule
eps_at S q = only (may_end (the_state_at S q)) (eps_rule q (owner (the_state_at S q)))

abbrev pub join_test : List State → ℕ → ℕ → ℕ → Bool
join_test S q a y = goes_on_of (the_state_at S q) (the_state_at S y) && bearing a (the_state_at S y)

abbrev pub join_at : List State → ℕ → ℕ → ℕ → List Rule
join_at S q a y = only (join_test S q a y) (join_rule q a y)

-- members of the three parts, by number of state
module _ (n : ℕ) (S : List State) where
  pub record LeafIn (r : Rule) : Type 0 where
    pub symbol : ℕ
    pub state : ℕ
    pub symbol_below_of : symbol < n
    pub state_below : state < length S
    pub initial : T (initial_of symbol (the_state_at S state))
    pub is : r ≡ leaf_rule symbol state

  pub in_leafs : {r : Rule} → In r (leaf_rules n S) → LeafIn r
  unfolding leaf_rules
  in_leafs h =
      let a = in_each n (λ a. each (length S) (leaf_at S a)) h in
      let q = in_each (length S) (leaf_at S a.0) a.2 in
      let k = in_only (initial_of a.0 (the_state_at S q.0)) q.2 in
      record { symbol = a.0; state = q.0; symbol_below_of = a.1; state_below = q.1; initial = k.0; is = k.1 }

  pub leafs_in : (a q : ℕ) → a < n → q < length S → T (initial_of a (the_state_at S q)) → In (leaf_rule a q) (leaf_rules n S)
  unfolding leaf_rules
  leafs_in a q h l t =
      each_in n (λ a. each (length S) (leaf_at S a)) a h
      (each_in (length S) (leaf_at S a) q l
      (only_in (initial_of a (the_state_at S q)) (leaf_rule a q) t))

  pub record EpsIn (r : Rule) : Type 0 where
    pub state : ℕ
    pub state_below : state < length S
    pub end : T (may_end (the_state_at S state))
    pub is : r ≡ eps_rule state (owner (the_state_at S state))

  pub in_epses : {r : Rule} → In r (eps_rules S) → EpsIn r
  unfolding eps_rules
  in_epses h =
      let q = in_each (length S) (eps_at S) h in
      let k = in_only (may_end (the_state_at S q.0)) q.2 in
      record { state = q.0; state_below = q.1; end = k.0; is = k.1 }

  pub epses_in : (q : ℕ) → q < length S → T (may_end (the_state_at S q)) → In (eps_rule q (owner (the_state_at S q))) (eps_rules S)
  unfolding eps_rules
  epses_in q l t =
      each_in (length S) (eps_at S) q l
      (only_in (may_end (the_state_at S q)) (eps_rule q (owner (the_state_at S q))) t)

  pub record JoinIn (r : Rule) : Type 0 where
    pub from : ℕ
    pub symbol : ℕ
    pub to : ℕ
    pub from_below_of : from < length S
    pub symbol_below_of : symbol < n
    pub to_below_of : to < length S
    pub goes : T (goes_on_of (the_state_at S from) (the_state_at S to))
    pub bears_it : T (bearing symbol (the_state_at S to))
    pub is : r ≡ join_rule from symbol to

  pub in_joins : {r : Rule} → In r (join_rules n S) → JoinIn r
  unfolding join_rules
  in_joins h =
      let q = in_each (length S) (λ q. each n (λ a. each (length S) (join_at S q a))) h in
      let a = in_each n (λ a. each (length S) (join_at S q.0 a)) q.2 in
      let y = in_each (length S) (join_at S q.0 a.0) a.2 in
      let k = in_only (join_test S q.0 a.0 y.0) y.2 in
      and_elim (goes_on_of (the_state_at S q.0) (the_state_at S y.0)) (bearing a.0 (the_state_at S y.0)) (λ g b.
      record {
        from = q.0;
        symbol = a.0;
        to = y.0;
        from_below_of = q.1;
        symbol_below_of = a.1;
        to_below_of = y.1;
        goes = g;
        bears_it = b;
        is = k.1;
      }) k.0

  pub joins_in : (q a y : ℕ) → q < length S → a < n → y < length S → T (goes_on_of (the_state_at S q) (the_state_at S y))
      → T (bearing a (the_state_at S y)) → In (join_rule q a y) (join_rules n S)
  unfolding join_rules
  joins_in q a y h k l g b =
      each_in (length S) (λ q. each n (λ a. each (length S) (join_at S q a))) q h
      (each_in n (λ a. each (length S) (join_at S q a)) a k
      (each_in (length S) (join_at S q a) y l
      (only_in (join_test S q a y) (join_rule q a y)
      (and_both (goes_on_of (the_state_at S q) (the_state_at S y)) (bearing a (the_state_at S y)) g b))))
