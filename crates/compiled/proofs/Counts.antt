-- How many states and rules the models' table has. Assumes nothing.
use Prim.Native.Nat.{ℕ, zero, suc, ◌+◌, ◌<◌}
use native.Mathlib.Omega.{arith}
use native.Mathlib.Decide.{ℕ_discrete}
use mathlib.Core.Path.{◌≡◌, refl, sym, ◌∙◌, ap, ap₂, subst}
use mathlib.Core.Logic.{◌≢◌, by_cases}
use mathlib.Core.Bool.{Bool, true, false, cond, ◌&&◌}
use mathlib.Core.List.{List, [], ◌∷◌, ◌++◌, append-nil, append_assoc}
use lib.ListN.{length, length-append}
use lib.Dec.{T, eqb, eqb→eq, eqb_refl}
use Rattle.table.specs.Rules.{Rule, leaf_rule, join_rule, eps_rule}
use Rattle.model.specs.Model.{Model, bears, places}
use Rattle.compiled.specs.States.{State, element, inside, each, insides, all_insides, states, the_state_at}
use Rattle.model.specs.Documents.{Line}
use Rattle.compiled.specs.States.{initial_of, owner, may_end, bearing, goes_on_of}
use Rattle.compiled.specs.Rules.{only, leaf_rules, eps_rules, join_rules, rules}
use Rattle.compiled.specs.Counts.{sum, count}
use Rattle.compiled.specs.Valid.{GoodLines}
use Rattle.compiled.specs.Meaning.{Numbered}
use Rattle.compiled.proofs.Lines.{cond_yes, cond_no, lines_below, lines_distinct}
use Rattle.compiled.proofs.Numbers.{length_insides, length_states, element_below, inside_model, inside_within}
use Rattle.compiled.proofs.Parts.{leaf_at, eps_at, join_test, join_at, Going, going, goes_is}

-- sums
pub sum_same : (n : ℕ) (f g : ℕ → ℕ) → ((i : ℕ) → i < n → f i ≡ g i) → sum n f ≡ sum n g
unfolding sum
sum_same zero f g h = refl
sum_same (suc n) f g h = ap₂ ◌+◌ (sum_same n f g (λ i l. h i (omega arith))) (h n (omega arith))

pub sum_zero : (n : ℕ) → sum n (λ i. 0) ≡ 0
unfolding sum
sum_zero zero = refl
sum_zero (suc n) = let z = sum_zero n in omega arith

pub sum_plus : (n : ℕ) (f g : ℕ → ℕ) → sum n (λ i. f i + g i) ≡ sum n f + sum n g
unfolding sum
sum_plus zero f g = refl
sum_plus (suc n) f g = let z = sum_plus n f g in omega arith

pub sum_exchange : (n m : ℕ) (f : ℕ → ℕ → ℕ) → sum n (λ i. sum m (f i)) ≡ sum m (λ j. sum n (λ i. f i j))
unfolding sum
sum_exchange zero m f = sym (sum_zero m)
sum_exchange (suc n) m f = ap (λ k. k + sum m (f n)) (sum_exchange n m f) ∙ sym (sum_plus m (λ j. sum n (λ i. f i j)) (f n))

pub count_sum : (n : ℕ) (p : ℕ → Bool) → count n p ≡ sum n (λ i. cond (p i) 1 0)
unfolding sum count
count_sum zero p = refl
count_sum (suc n) p = ap (λ k. k + cond (p n) 1 0) (count_sum n p)

-- a list built by `each` is as long as its parts together
pub length_each : {A : Type 0} (n : ℕ) (f : ℕ → List A) → length (each n f) ≡ sum n (λ i. length (f i))
unfolding each sum
length_each zero f = refl
length_each (suc n) f = length-append (each n f) (f n) ∙ ap (λ k. k + length (f n)) (length_each n f)

pub length_only : (b : Bool) (r : Rule) → length (only b r) ≡ cond b 1 0
unfolding only
length_only true r = refl
length_only false r = refl

-- a sum with one part that is not 0
sum_one : (n : ℕ) (f : ℕ → ℕ) (k : ℕ) → ((i : ℕ) → i ≢ k → f i ≡ 0) → k < n → sum n f ≡ f k
unfolding sum
sum_one zero f k h l = absurd (omega arith)
sum_one (suc n) f k h l = by_cases (ℕ_discrete k n)
    (λ e. let z = sum_same n f (λ i. 0) (λ i j. h i (λ s. omega arith)) ∙ sum_zero n in let y = ap f e in omega arith)
    (λ d. let z = sum_one n f k h (omega arith) in let y = h n (λ s. d (sym s)) in omega arith)

-- a test that one number alone can pass
one_passes : (n : ℕ) (p : ℕ → Bool) (k : ℕ) → ((i : ℕ) → T (p i) → i ≡ k) → k < n → sum n (λ i. cond (p i) 1 0) ≡ cond (p k) 1 0
one_passes n p k h l = sum_one n (λ i. cond (p i) 1 0) k (λ i d. cond_no (p i) 1 0 (λ t. d (h i t))) l

initial_owner : (a : ℕ) (s : State) → T (initial_of a s) → a ≡ owner s
unfolding initial_of owner
initial_owner a (element b) t = absurd t
initial_owner a (inside b m zero) t = sym (eqb→eq b a t)
initial_owner a (inside b m (suc y)) t = absurd t

-- a place bears one symbol
bears_some : (n : ℕ) {s t : State} → Going s t → ((b y : ℕ) (m : Model) → t ≡ inside b m (suc y) → bears m y < n)
    → sum n (λ a. cond (bearing a t) 1 0) ≡ 1
unfolding bearing
bears_some n (going {a = b} {y = y} {m' = m} c) h =
    one_passes n (λ a. eqb (bears m y) a) (bears m y) (λ a t. sym (eqb→eq (bears m y) a t)) (h b y m refl)
    ∙ cond_yes (eqb (bears m y) (bears m y)) 1 0 (eqb_refl (bears m y))

bears_one : (n : ℕ) (s t : State) → ((b y : ℕ) (m : Model) → t ≡ inside b m (suc y) → bears m y < n)
    → sum n (λ a. cond (goes_on_of s t && bearing a t) 1 0) ≡ cond (goes_on_of s t) 1 0
bears_one n s t h = go (goes_on_of s t) refl
  where
    go : (g : Bool) → goes_on_of s t ≡ g → sum n (λ a. cond (g && bearing a t) 1 0) ≡ cond g 1 0
    go true e = bears_some n (goes_is s t (subst T (sym e) tt)) h
    go false e = sum_zero n

module _ (n : ℕ) (S : List State) where
  -- leaf rules: one for each initial state
  pub length_leafs : ((q : ℕ) → q < length S → owner (the_state_at S q) < n)
      → length (leaf_rules n S) ≡ count (length S) (λ q. initial_of (owner (the_state_at S q)) (the_state_at S q))
  unfolding leaf_rules
  length_leafs h =
      length_each n (λ a. each (length S) (leaf_at S a))
      ∙ sum_same n _ (λ a. sum (length S) (λ q. cond (initial_of a (the_state_at S q)) 1 0)) (λ a l. inner a)
      ∙ sum_exchange n (length S) (λ a q. cond (initial_of a (the_state_at S q)) 1 0)
      ∙ sum_same (length S) _ _ (λ q l. one_passes n (λ a. initial_of a (the_state_at S q)) (owner (the_state_at S q))
      (λ a t. initial_owner a (the_state_at S q) t) (h q l))
      ∙ sym (count_sum (length S) (λ q. initial_of (owner (the_state_at S q)) (the_state_at S q)))
    where
      inner : (a : ℕ) → length (each (length S) (leaf_at S a))
          ≡ sum (length S) (λ q. cond (initial_of a (the_state_at S q)) 1 0)
      inner a =
          length_each (length S) (leaf_at S a)
          ∙ sum_same (length S) _ _ (λ q l. length_only (initial_of a (the_state_at S q)) (leaf_rule a q))

  -- ε rules: one for each state at which a word may end
  pub length_epses : length (eps_rules S) ≡ count (length S) (λ q. may_end (the_state_at S q))
  unfolding eps_rules
  length_epses =
      length_each (length S) (eps_at S)
      ∙ sum_same (length S) _ _ (λ q l. length_only (may_end (the_state_at S q)) (eps_rule q (owner (the_state_at S q))))
      ∙ sym (count_sum (length S) (λ q. may_end (the_state_at S q)))

  -- join rules: one for each pair of states of which the second can come next after the first
  pub length_joins : ((y : ℕ) → y < length S → (b z : ℕ) (m : Model) → the_state_at S y ≡ inside b m (suc z) → bears m z < n)
      → length (join_rules n S) ≡ sum (length S) (λ q. count (length S) (λ y. goes_on_of (the_state_at S q) (the_state_at S y)))
  unfolding join_rules
  length_joins h =
      length_each (length S) (λ q. each n (λ a. each (length S) (join_at S q a)))
      ∙ sum_same (length S) _ _ (λ q l. row q)
    where
      cell : (q a : ℕ) → length (each (length S) (join_at S q a))
          ≡ sum (length S) (λ y. cond (join_test S q a y) 1 0)
      cell q a =
          length_each (length S) (join_at S q a)
          ∙ sum_same (length S) _ _ (λ y l. length_only (join_test S q a y) (join_rule q a y))

      row : (q : ℕ) → length (each n (λ a. each (length S) (join_at S q a)))
          ≡ count (length S) (λ y. goes_on_of (the_state_at S q) (the_state_at S y))
      row q =
          length_each n (λ a. each (length S) (join_at S q a))
          ∙ sum_same n _ _ (λ a l. cell q a)
          ∙ sum_exchange n (length S) (λ a y. cond (join_test S q a y) 1 0)
          ∙ sum_same (length S) _ _ (λ y l. bears_one n (the_state_at S q) (the_state_at S y) (h y l))
          ∙ sym (count_sum (length S) (λ y. goes_on_of (the_state_at S q) (the_state_at S y)))

-- the same of good lines
module _ {n : ℕ} {ls : List Line} (g : GoodLines n ls) where
  owner_below : (q : ℕ) (s : State) → Numbered n ls q s → owner s < n
  unfolding owner
  owner_below q (element a) h = element_below h
  owner_below q (inside a m i) h = (lines_below g).outer a m (inside_model (lines_distinct g) h)

  place_below : (y : ℕ) → y < length (states n ls) → (b z : ℕ) (m : Model) → the_state_at (states n ls) y ≡ inside b m (suc z)
      → bears m z < n
  place_below y l b z m e =
      let h : Numbered n ls y (inside b m (suc z)) = record { below = l; is = e } in
      (lines_below g).inner b m (inside_model (lines_distinct g) h) z (let w = inside_within h in omega arith)

  pub leafs_count : length (leaf_rules n (states n ls))
      ≡ count (length (states n ls)) (λ q. initial_of (owner (the_state_at (states n ls) q)) (the_state_at (states n ls) q))
  leafs_count = length_leafs n (states n ls) (λ q l. owner_below q (the_state_at (states n ls) q) (record { below = l; is = refl }))

  pub joins_count : length (join_rules n (states n ls))
      ≡ sum (length (states n ls)) (λ q. count (length (states n ls)) (λ y. goes_on_of (the_state_at (states n ls) q) (the_state_at (states n ls) y)))
  joins_count = length_joins n (states n ls) place_below

-- all rules
pub length_rules : (n : ℕ) (ls : List Line) → length (rules n ls)
    ≡ length (leaf_rules n (states n ls)) + (length (eps_rules (states n ls)) + length (join_rules n (states n ls)))
unfolding rules
length_rules n ls =
    length-append (leaf_rules n (states n ls)) (eps_rules (states n ls) ++ join_rules n (states n ls))
    ∙ ap (λ k. length (leaf_rules n (states n ls)) + k) (length-append (eps_rules (states n ls)) (join_rules n (states n ls)))

-- the states of one more line stand behind the others: one, and its places
pub insides_more : (ls : List Line) (ln : Line) → all_insides (ls ++ (ln ∷ [])) ≡ all_insides ls ++ insides ln
unfolding all_insides
insides_more [] ln = append-nil (insides ln)
insides_more (l ∷ ls) ln = ap (λ S. insides l ++ S) (insides_more ls ln) ∙ sym (append_assoc (insides l) (all_insides ls) (insides ln))

pub states_more : (n : ℕ) (ls : List Line) (ln : Line) → states n (ls ++ (ln ∷ [])) ≡ states n ls ++ insides ln
unfolding states
states_more n ls ln =
    ap (λ S. each n (λ a. element a ∷ []) ++ S) (insides_more ls ln)
    ∙ sym (append_assoc (each n (λ a. element a ∷ [])) (all_insides ls) (insides ln))

pub length_states_none : (n : ℕ) → length (states n []) ≡ n
unfolding all_insides
length_states_none n = let z = length_states n [] in omega arith

pub length_states_more : (n : ℕ) (ls : List Line) (ln : Line)
    → length (states n (ls ++ (ln ∷ []))) ≡ length (states n ls) + suc (places ln.model)
length_states_more n ls ln =
    ap length (states_more n ls ln) ∙ length-append (states n ls) (insides ln) ∙ ap (λ k. length (states n ls) + k) (length_insides ln)
