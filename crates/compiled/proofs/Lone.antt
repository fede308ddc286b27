-- No two rules of the models' table have one left side, if no model is ambiguous. Assumes nothing.
use Prim.Native.Nat.{ℕ, zero, suc, ◌<◌}
use native.Mathlib.Omega.{arith}
use native.Mathlib.Decide.{ℕ_discrete}
use mathlib.Core.Path.{◌≡◌, refl, sym, ◌∙◌, ap, subst, subst₂}
use mathlib.Core.Logic.{◌⊎◌, inl, inr}
use mathlib.Core.Bool.{Bool, true, false}
use mathlib.Core.List.{List, [], ◌∷◌, ◌++◌}
use lib.ListN.{length}
use lib.Dec.{T}
use Rattle.table.specs.Rules.{Rule, leaf_rule, join_rule, eps_rule}
use Rattle.model.specs.Model.{Model, bears, Ambiguous}
use Rattle.model.proofs.Tests.{and_elim}
use Rattle.model.proofs.Positions.{Comes, test_comes, clash_at}
use Rattle.compiled.specs.States.{State, inside, each, states, the_state_at, initial_of, owner, may_end, bearing, goes_on_of}
use Rattle.model.specs.Documents.{Line}
use Rattle.compiled.specs.Rules.{only, leaf_rules, eps_rules, join_rules, rules}
use Rattle.compiled.specs.Valid.{GoodLines, Unambiguous}
use Rattle.compiled.specs.Meaning.{Numbered}
use Rattle.compiled.proofs.Member.{In, here, there, in_append, in_each, in_only, at_in}
use Rattle.compiled.proofs.Lines.{lines_distinct}
use Rattle.compiled.proofs.Numbers.{inside_one, inside_model, same_model}
use Rattle.compiled.proofs.Rows.{the_rule_at}
use Rattle.compiled.proofs.Parts.{initial_is, Going, going, goes_is, Bearing, bears_it, bearing_is, in_leafs, in_epses, in_joins}
use Rattle.compiled.proofs.Parts.{leaf_at, eps_at, join_test, join_at}

-- one left side; an ε rule is all left side
pub data Same : Rule → Rule → Type 0 where
  same_leaf : {a q q' : ℕ} → Same (leaf_rule a q) (leaf_rule a q')
  same_join : {l r q q' : ℕ} → Same (join_rule l r q) (join_rule l r q')
  same_eps : {p q : ℕ} → Same (eps_rule p q) (eps_rule p q)

-- no two of a list have one left side
pub data Lone : List Rule → Type 0 where
  lone_nil : Lone []
  lone_cons : {x : Rule} {l : List Rule} → ((y : Rule) → In y l → Same x y → ⊥) → Lone l → Lone (x ∷ l)

-- two lists, no rule of the first with one of the second
abbrev Free : List Rule → List Rule → Type 0
Free l k = (x y : Rule) → In x l → In y k → Same x y → ⊥

off : {x y : Rule} {l k : List Rule} → (In y l → Same x y → ⊥) → (In y k → Same x y → ⊥) → In y l ⊎ In y k → Same x y → ⊥
off p q (inl h) s = p h s
off p q (inr h) s = q h s

lone_append : {l : List Rule} (k : List Rule) → Lone l → Lone k → Free l k → Lone (l ++ k)
lone_append k lone_nil b f = b
lone_append k (lone_cons {x = x} {l = l} h a) b f =
    lone_cons (λ y i s. off (h y) (λ j. f x y here j) (in_append l k i) s) (lone_append k a b (λ x y i j. f x y (there i) j))

lone_only : (b : Bool) (x : Rule) → Lone (only b x)
unfolding only
lone_only true x = lone_cons {l = []} (λ y i s. elim i [ ]) lone_nil
lone_only false x = lone_nil

lone_each : (n : ℕ) (f : ℕ → List Rule) → ((i : ℕ) → i < n → Lone (f i)) → ((i j : ℕ) → i < j → j < n → Free (f i) (f j))
    → Lone (each n f)
unfolding each
lone_each zero f a c = lone_nil
lone_each (suc n) f a c =
    lone_append (f n) (lone_each n f (λ i h. a i (omega arith)) (λ i j h k. c i j h (omega arith))) (a n (omega arith))
    (λ x y i j s. let r = in_each n f i in c r.0 n r.1 (omega arith) x y r.2 j s)

-- what one left side says
leaf_same : {a a' q q' : ℕ} → Same (leaf_rule a q) (leaf_rule a' q') → a ≡ a'
leaf_same same_leaf = refl

eps_same : {p p' q q' : ℕ} → Same (eps_rule p q) (eps_rule p' q') → p ≡ p'
eps_same same_eps = refl

join_left : {l l' r r' q q' : ℕ} → Same (join_rule l r q) (join_rule l' r' q') → l ≡ l'
join_left same_join = refl

join_right : {l l' r r' q q' : ℕ} → Same (join_rule l r q) (join_rule l' r' q') → r ≡ r'
join_right same_join = refl

leaf_eps : {a q p r : ℕ} → Same (leaf_rule a q) (eps_rule p r) → ⊥
leaf_eps s = elim s [ ]

leaf_join : {a q l r p : ℕ} → Same (leaf_rule a q) (join_rule l r p) → ⊥
leaf_join s = elim s [ ]

eps_join : {p q l r o : ℕ} → Same (eps_rule p q) (join_rule l r o) → ⊥
eps_join s = elim s [ ]

-- two places with one symbol that can come next at one position are one
same_place : (m : Model) (i x y : ℕ) → ¬ Ambiguous m → bears m x ≡ bears m y → Comes m i x → Comes m i y → x ≡ y
same_place m i x y c s p q = go (ℕ_discrete x y)
  where
    go : Dec (x ≡ y) → x ≡ y
    go (yes e) = e
    go (no d) = absurd (c (clash_at m i x y d s p q))

module _ {n : ℕ} {ls : List Line} (g : GoodLines n ls) where
  abbrev S : List State
  S = states n ls

  -- leaf rules
  one_initial : (a q q' : ℕ) → q < length S → q' < length S → T (initial_of a (the_state_at S q)) → T (initial_of a (the_state_at S q')) → q ≡ q'
  one_initial a q q' h h' t t' =
      inside_one (lines_distinct g) (record { below = h; is = (initial_is a (the_state_at S q) t).1 })
      (record { below = h'; is = (initial_is a (the_state_at S q') t').1 })

  leaf_lone : Lone (leaf_rules n S)
  unfolding leaf_rules
  leaf_lone = lone_each n (λ a. each (length S) (leaf_at S a)) (λ a l. row a)
      (λ a b h k x y i j e.
      let r = in_each (length S) (leaf_at S a) i in
      let s = in_each (length S) (leaf_at S b) j in
      let o = (in_only (initial_of a (the_state_at S r.0)) r.2).1 in
      let p = (in_only (initial_of b (the_state_at S s.0)) s.2).1 in
      let z = leaf_same (subst₂ Same o p e) in
      omega arith)
    where
      row : (a : ℕ) → Lone (each (length S) (leaf_at S a))
      row a = lone_each (length S) (leaf_at S a)
          (λ q l. lone_only (initial_of a (the_state_at S q)) (leaf_rule a q))
          (λ q p h k x y i j e.
          let t = (in_only (initial_of a (the_state_at S q)) i).0 in
          let z = one_initial a q p (omega arith) k t (in_only (initial_of a (the_state_at S p)) j).0 in
          omega arith)

  -- ε rules
  eps_lone : Lone (eps_rules S)
  unfolding eps_rules
  eps_lone = lone_each (length S) (eps_at S)
      (λ q l. lone_only (may_end (the_state_at S q)) (eps_rule q (owner (the_state_at S q))))
      (λ q p h k x y i j e.
      let z = eps_same (subst₂ Same (in_only (may_end (the_state_at S q)) i).1 (in_only (may_end (the_state_at S p)) j).1 e) in
      omega arith)

  -- join rules: the place that a state goes on to with a symbol is one
  module _ (u : Unambiguous ls) where
    one_next : (q y y' a : ℕ) (s t t' : State) → Numbered n ls q s → Numbered n ls y t → Numbered n ls y' t' → Going s t → Going s t'
        → Bearing a t → Bearing a t' → y ≡ y'
    one_next q y y' a s t t' h k k' (going {a = b} {i = i} {y = z} {m = m} {m' = o} c) (going {y = z'} {m' = o'} c')
        (bears_it e) (bears_it e') =
        let v : o ≡ m = same_model (lines_distinct g) k h in
        let v' : o' ≡ m = same_model (lines_distinct g) k' h in
        let w : z ≡ z' = same_place m i z z' (u b m (inside_model (lines_distinct g) h))
        (ap (λ m. bears m z) (sym v) ∙ e ∙ sym e' ∙ ap (λ m. bears m z') v') (test_comes m i z c) (test_comes m i z' c') in
        inside_one (lines_distinct g) (subst (λ z. Numbered n ls y (inside b o (suc z))) w k) k'

    join_is : {x : Rule} (q a y : ℕ) → In x (join_at S q a y) → x ≡ join_rule q a y
    join_is q a y h = (in_only (join_test S q a y) h).1

    row_is : {x : Rule} (q a : ℕ) → In x (each (length S) (join_at S q a)) → (y : ℕ) × (x ≡ join_rule q a y)
    row_is q a h = let r = in_each (length S) (join_at S q a) h in (r.0, join_is q a r.0 r.2)

    rows_is : {x : Rule} (q : ℕ) → In x (each n (λ a. each (length S) (join_at S q a))) → (a : ℕ) × (y : ℕ) × (x ≡ join_rule q a y)
    rows_is q h = let r = in_each n (λ a. each (length S) (join_at S q a)) h in let k = row_is q r.0 r.2 in (r.0, k.0, k.1)

    next_one : {x x' : Rule} (q a y y' : ℕ) → q < length S → y < length S → y' < length S → In x (join_at S q a y)
        → In x' (join_at S q a y') → y ≡ y'
    next_one q a y y' h k k' i j =
        let t = (in_only (join_test S q a y) i).0 in
        let t' = (in_only (join_test S q a y') j).0 in
        and_elim (goes_on_of (the_state_at S q) (the_state_at S y)) (bearing a (the_state_at S y)) (λ c b.
        and_elim (goes_on_of (the_state_at S q) (the_state_at S y')) (bearing a (the_state_at S y')) (λ c' b'.
        one_next q y y' a (the_state_at S q) (the_state_at S y) (the_state_at S y') (record { below = h; is = refl }) (record { below = k; is = refl })
        (record { below = k'; is = refl }) (goes_is (the_state_at S q) (the_state_at S y) c) (goes_is (the_state_at S q) (the_state_at S y') c')
        (bearing_is a (the_state_at S y) b) (bearing_is a (the_state_at S y') b')) t') t

    row_lone : (q a : ℕ) → q < length S → Lone (each (length S) (join_at S q a))
    row_lone q a h = lone_each (length S) (join_at S q a)
        (λ y l. lone_only (join_test S q a y) (join_rule q a y))
        (λ y y' l k x x' i j e. let z = next_one q a y y' h (omega arith) k i j in omega arith)

    rows_lone : (q : ℕ) → q < length S → Lone (each n (λ a. each (length S) (join_at S q a)))
    rows_lone q h = lone_each n (λ a. each (length S) (join_at S q a)) (λ a l. row_lone q a h)
        (λ a b l k x y i j e. let z = join_right (subst₂ Same (row_is q a i).1 (row_is q b j).1 e) in omega arith)

    join_lone : Lone (join_rules n S)
    unfolding join_rules
    join_lone = lone_each (length S) (λ q. each n (λ a. each (length S) (join_at S q a))) rows_lone
        (λ q p l k x y i j e. let z = join_left (subst₂ Same (rows_is q i).2 (rows_is p j).2 e) in omega arith)

    -- the three kinds apart
    pub rules_lone : Lone (rules n ls)
    unfolding rules
    rules_lone =
        lone_append (eps_rules S ++ join_rules n S) leaf_lone
        (lone_append (join_rules n S) eps_lone join_lone
        (λ x y i j s. eps_join (subst₂ Same (in_epses n S i).is (in_joins n S j).is s)))
        (λ x y i j. off
        (λ k s. leaf_eps (subst₂ Same (in_leafs n S i).is (in_epses n S k).is s))
        (λ k s. leaf_join (subst₂ Same (in_leafs n S i).is (in_joins n S k).is s))
        (in_append (eps_rules S) (join_rules n S) j))

-- no two rows have one left side
pub lone_at : {rs : List Rule} → Lone rs → (i j : ℕ) → i < j → j < length rs → ¬ Same (the_rule_at rs i) (the_rule_at rs j)
lone_at lone_nil i j h k s = omega arith
lone_at (lone_cons {x = x} {l = l} f a) i j h k s = go i j h k s (lone_at a)
  where
    go : (i j : ℕ) → i < j → j < suc (length l) → Same (the_rule_at (x ∷ l) i) (the_rule_at (x ∷ l) j)
        → ((i j : ℕ) → i < j → j < length l → ¬ Same (the_rule_at l i) (the_rule_at l j)) → ⊥
    go zero zero h k s rec = omega arith
    go zero (suc j) h k s rec = f (the_rule_at l j) (at_in l j (eps_rule 0 0) (omega arith)) s
    go (suc i) zero h k s rec = omega arith
    go (suc i) (suc j) h k s rec = rec i j (omega arith) (omega arith) s
