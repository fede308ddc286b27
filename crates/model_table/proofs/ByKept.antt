-- The rules, their number and the marks that slices give are those of the states that are kept in them. Assumes nothing.
use Prim.Native.Nat.{ℕ, zero, suc, ◌+◌, ◌*◌, ◌≤◌, ◌<◌}
use mathlib.Core.Path.{◌≡◌, refl, sym, ap, ap₂, ◌∙◌}
use mathlib.Core.Bool.{Bool, true, false, not, ◌&&◌}
use mathlib.Core.List.{List, [], ◌∷◌, ◌++◌, map}
use native.Mathlib.Omega.{arith}
use lib.ListN.{length, length-map}
use lib.Seq.{ext_get_or}
use lib.Dec.{eqb}
use borrow.Author.Tests.{eq-eqb, ne_eqb}
use Rattle.paper.specs.Limits.{at}
use Rattle.table.specs.Rules.{leaf_rule, join_rule, eps_rule}
use Rattle.model.specs.Model.{Model, bears}
use Rattle.model_sets.specs.Sets.{flag}
use Rattle.compiled.specs.States.{State, element, inside, each, states, the_state_at, mark_of, marks}
use Rattle.model.specs.Documents.{Line}
use Rattle.compiled.specs.States.{initial_of, owner, may_end, bearing, goes_on_of}
use Rattle.compiled.specs.Rules.{only, leaf_rules, eps_rules, join_rules, rules, numbers}
use Rattle.compiled.specs.Counts.{sum, count}
use Rattle.compiled.specs.Valid.{GoodLines}
use Rattle.compiled.specs.Meaning.{Numbered}
use Rattle.compiled.proofs.Lines.{lines_below, lines_distinct}
use Rattle.compiled.proofs.Numbers.{length_single, at_single, element_number, element_below, inside_sits, inside_model, inside_within}
use Rattle.compiled.proofs.Counts.{sum_same, sum_plus, count_sum, length_epses, leafs_count, joins_count, length_rules}
use Rattle.compiled.proofs.Rows.{numbers_append}
use Rattle.compiled.proofs.Marks.{at_map}
use Rattle.model_read.proofs.Few.{one}
use Rattle.model_fill.specs.Kept.{no_symbol_of, borne, belongs_to, Kept}
use Rattle.model_table.specs.Work.{is_set, initial_at, starts_at, leaf_with, the_leaves_by}
use Rattle.model_table.specs.Work.{the_eps_by, join_with, joins_from, the_joins_by, count_from, the_count_by, the_mark_at, marks_for}
use Rattle.model_table.proofs.WriteLaws.{and_false}
use Rattle.model_table.proofs.MarkLaws.{mark_inside, mark_element_at}

pub each_same : {A : Type 0} (n : ℕ) (f g : ℕ → List A) → ((i : ℕ) → i < n → f i ≡ g i) → each n f ≡ each n g
unfolding each
each_same zero f g h = refl
each_same (suc n) f g h = ap₂ ◌++◌ (each_same n f g (λ i l. h i (omega arith))) (h n (omega arith))

count_same : (n : ℕ) (f g : ℕ → Bool) → ((i : ℕ) → i < n → f i ≡ g i) → count n f ≡ count n g
unfolding count
count_same zero f g h = refl
count_same (suc n) f g h = ap₂ ◌+◌ (count_same n f g (λ i l. h i (omega arith))) (ap one (h n (omega arith)))

-- states of good lines: what is inside a model belongs to a symbol below n, and a place bears one
data Fine (n : ℕ) : State → Type 0 where
  fine_element : {a : ℕ} → Fine n (element a)
  fine_initial : {a : ℕ} {m : Model} → a < n → Fine n (inside a m 0)
  fine_place : {a y : ℕ} {m : Model} → a < n → bears m y < n → Fine n (inside a m (suc y))

fine_state : {n : ℕ} {ls : List Line} {q : ℕ} → GoodLines n ls → (s : State) → Numbered n ls q s → Fine n s
fine_state g (element a) h = fine_element
fine_state g (inside a m zero) h = fine_initial ((lines_below g).outer a m (inside_model (lines_distinct g) h))
fine_state g (inside a m (suc y)) h =
    let e = inside_model (lines_distinct g) h in
    fine_place ((lines_below g).outer a m e) ((lines_below g).inner a m e y (let w = inside_within h in omega arith))

-- the tests of slices are those of states
flag_is : (b : Bool) → not (eqb (flag b) 0) ≡ b
unfolding flag
flag_is true = refl
flag_is false = refl

and_true : (b : Bool) → (b && true) ≡ b
and_true true = refl
and_true false = refl

initial_is : {n : ℕ} {s : State} → n ≤ no_symbol_of → (a : ℕ) → a < n → Fine n s
    → (eqb (belongs_to s) a && eqb (borne s) no_symbol_of) ≡ initial_of a s
unfolding belongs_to borne initial_of
initial_is h a l fine_element = ap (λ t. t && eqb no_symbol_of no_symbol_of) (ne_eqb no_symbol_of a (λ e. omega arith))
initial_is h a l (fine_initial {a = b} k) = and_true (eqb b a)
initial_is h a l (fine_place {a = b} {y = y} {m = m} k i) =
    ap (λ t. eqb b a && t) (ne_eqb (bears m y) no_symbol_of (λ e. omega arith)) ∙ and_false (eqb b a)

starts_is : {n : ℕ} {s : State} → n ≤ no_symbol_of → Fine n s
    → (not (eqb (belongs_to s) no_symbol_of) && eqb (borne s) no_symbol_of) ≡ initial_of (owner s) s
unfolding belongs_to borne initial_of owner
starts_is h fine_element = refl
starts_is h (fine_initial {a = b} k) =
    ap (λ t. not t && eqb no_symbol_of no_symbol_of) (ne_eqb b no_symbol_of (λ e. omega arith)) ∙ sym (eq-eqb b b refl)
starts_is h (fine_place {a = b} {y = y} {m = m} k i) =
    ap (λ t. not (eqb b no_symbol_of) && t) (ne_eqb (bears m y) no_symbol_of (λ e. omega arith)) ∙ and_false (not (eqb b no_symbol_of))

bearing_is : (a : ℕ) (s : State) → a < no_symbol_of → eqb (borne s) a ≡ bearing a s
unfolding borne bearing
bearing_is a (element b) l = ne_eqb no_symbol_of a (λ e. omega arith)
bearing_is a (inside b m zero) l = ne_eqb no_symbol_of a (λ e. omega arith)
bearing_is a (inside b m (suc y)) l = refl

ends_is : (q : ℕ) (s : State) → only (may_end s) (eps_rule q (belongs_to s)) ≡ only (may_end s) (eps_rule q (owner s))
unfolding only may_end belongs_to owner
ends_is q (element a) = refl
ends_is q (inside a m i) = refl

module _ {stride n : ℕ} {ls : List Line} {B O E N : List ℕ} (g : GoodLines n ls) (b : n ≤ no_symbol_of)
    (few : length (states n ls) ≤ stride) (k : Kept stride (states n ls) B O E N) where
  abbrev S : List State
  S = states n ls

  fine : (q : ℕ) → q < length S → Fine n (the_state_at S q)
  fine q l = fine_state g (the_state_at S q) (record { below = l; is = refl })

  initial : (a q : ℕ) → a < n → q < length S → initial_at B O a q ≡ initial_of a (the_state_at S q)
  unfolding initial_at
  initial a q h l =
      ap₂ (λ x y. eqb x a && eqb y no_symbol_of) (k.owning q (omega arith)) (k.bearing q (omega arith)) ∙ initial_is b a h (fine q l)

  starts : (q : ℕ) → q < length S → starts_at B O q ≡ initial_of (owner (the_state_at S q)) (the_state_at S q)
  unfolding starts_at
  starts q l =
      ap₂ (λ x y. not (eqb x no_symbol_of) && eqb y no_symbol_of) (k.owning q (omega arith)) (k.bearing q (omega arith))
      ∙ starts_is b (fine q l)

  ends : (q : ℕ) → q < length S → is_set E q ≡ may_end (the_state_at S q)
  unfolding is_set
  ends q l = ap (λ x. not (eqb x 0)) (k.ending q (omega arith)) ∙ flag_is (may_end (the_state_at S q))

  comes : (q y : ℕ) → q < length S → y < length S → is_set N (q * stride + y) ≡ goes_on_of (the_state_at S q) (the_state_at S y)
  unfolding is_set
  comes q y l i =
      ap (λ x. not (eqb x 0)) (k.coming q y (omega arith) (omega arith)) ∙ flag_is (goes_on_of (the_state_at S q) (the_state_at S y))

  bears_it : (a y : ℕ) → a < n → y < length S → eqb (at B y) a ≡ bearing a (the_state_at S y)
  bears_it a y h l = ap (λ x. eqb x a) (k.bearing y (omega arith)) ∙ bearing_is a (the_state_at S y) (omega arith)

  -- the rules
  pub leaves_by : the_leaves_by n (length S) B O ≡ leaf_rules n S
  unfolding the_leaves_by leaf_with leaf_rules
  leaves_by =
      each_same n _ _ (λ a h. each_same (length S) _ _ (λ q l. ap (λ t. only t (leaf_rule a q)) (initial a q h l)))

  pub eps_by : the_eps_by (length S) E O ≡ eps_rules S
  unfolding the_eps_by eps_rules
  eps_by = each_same (length S) _ _ (λ q l.
      ap₂ (λ t x. only t (eps_rule q x)) (ends q l) (k.owning q (omega arith)) ∙ ends_is q (the_state_at S q))

  pub joins_by : the_joins_by stride n (length S) B N ≡ join_rules n S
  unfolding the_joins_by joins_from join_with join_rules
  joins_by =
      each_same (length S) _ _ (λ q l. each_same n _ _ (λ a h. each_same (length S) _ _ (λ y i.
      ap₂ (λ t u. only (t && u) (join_rule q a y)) (comes q y l i) (bears_it a y h i))))

  pub numbers_by : numbers (the_leaves_by n (length S) B O) ++ (numbers (the_eps_by (length S) E O) ++ numbers (the_joins_by stride n (length S) B N))
      ≡ numbers (rules n ls)
  unfolding rules
  numbers_by =
      ap₂ ◌++◌ (ap numbers leaves_by)
      (ap₂ ◌++◌ (ap numbers eps_by) (ap numbers joins_by) ∙ sym (numbers_append (eps_rules S) (join_rules n S)))
      ∙ sym (numbers_append (leaf_rules n S) (eps_rules S ++ join_rules n S))

  -- their number
  froms : sum (length S) (count_from stride (length S) N) ≡ length (join_rules n S)
  unfolding count_from
  froms =
      sum_same (length S) _ _ (λ q l. count_same (length S) _ _ (λ y i. comes q y l i)) ∙ sym (joins_count g)

  endings : sum (length S) (λ q. one (is_set E q)) ≡ length (eps_rules S)
  endings =
      sum_same (length S) _ _ (λ q l. ap one (ends q l)) ∙ sym (count_sum (length S) (λ q. may_end (the_state_at S q)))
      ∙ sym (length_epses n S)

  startings : sum (length S) (λ q. one (starts_at B O q)) ≡ length (leaf_rules n S)
  startings =
      sum_same (length S) _ _ (λ q l. ap one (starts q l))
      ∙ sym (count_sum (length S) (λ q. initial_of (owner (the_state_at S q)) (the_state_at S q))) ∙ sym (leafs_count g)

  pub count_by : the_count_by stride (length S) B O E N ≡ length (rules n ls)
  unfolding the_count_by
  count_by =
      let x = sum_plus (length S) (count_from stride (length S) N) (λ q. one (is_set E q) + one (starts_at B O q)) in
      let y = sum_plus (length S) (λ q. one (is_set E q)) (λ q. one (starts_at B O q)) in
      x ∙ omega (arith, y, froms, endings, startings, length_rules n ls)

-- the marks
mark_is : {n : ℕ} {ls : List Line} (start q : ℕ) (s : State) → Numbered n ls q s → the_mark_at n start q ≡ mark_of start s
unfolding mark_of
mark_is {n} start q (element a) h =
    let e = element_number h in
    sym (mark_element_at n start q (let l = element_below h in omega arith)) ∙ ap (λ i. mark_of start (element i)) e
mark_is {n} start q (inside a m i) h = sym (mark_inside n start q (inside_sits h).0)

mark_at : (n start : ℕ) (ls : List Line) (q : ℕ) → q < length (states n ls) → the_mark_at n start q ≡ at (map (mark_of start) (states n ls)) q
unfolding the_state_at
mark_at n start ls q h =
    mark_is start q (the_state_at (states n ls) q) (record { below = h; is = refl })
    ∙ sym (at_map (mark_of start) (states n ls) q (element 0) h)

pub marks_by : (n start : ℕ) (ls : List Line) → marks_for n start (length (states n ls)) ≡ marks start n ls
unfolding marks_for marks
marks_by n start ls =
    let S = states n ls in
    let e = length_single (length S) (the_mark_at n start) in
    ext_get_or 0 (each (length S) (λ q. the_mark_at n start q ∷ [])) (map (mark_of start) S) (e ∙ sym (length-map S (mark_of start)))
    (λ q h. at_single (length S) (the_mark_at n start) q 0 (omega arith) ∙ mark_at n start ls q (omega arith))
