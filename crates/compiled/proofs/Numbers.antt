-- Which number each state has. Assumes nothing.
use Prim.Native.Nat.{ℕ, zero, suc, ◌+◌, ◌-◌, ◌≤◌, ◌<◌}
use native.Mathlib.Omega.{arith}
use native.Mathlib.Decide.{ℕ_discrete, dec_lt}
use mathlib.Core.Path.{◌≡◌, refl, sym, ◌∙◌, ap, subst}
use mathlib.Core.Logic.{◌≢◌, by_cases}
use mathlib.Core.Option.{some}
use mathlib.Core.List.{List, [], ◌∷◌, ◌++◌}
use lib.ListN.{length, get_or, length-append, get_or-append}
use lib.Seq.{get_or-append-add}
use Rattle.model.specs.Model.{Model, places}
use Rattle.compiled.specs.States.{State, element, inside, each, insides, all_insides, states, the_state_at}
use Rattle.model.specs.Documents.{Line, model_of}
use Rattle.compiled.specs.Meaning.{Numbered}
use Rattle.compiled.proofs.Lines.{none_some, model_here, model_later, model_cases_lem, Distinct, and_line}

-- a list of n single things
pub length_single : {A : Type 0} (n : ℕ) (f : ℕ → A) → length (each n (λ i. f i ∷ [])) ≡ n
unfolding each
length_single zero f = refl
length_single (suc n) f = let z = length_single n f in let y = length-append (each n (λ i. f i ∷ [])) (f n ∷ []) in omega arith

pub at_single : {A : Type 0} (n : ℕ) (f : ℕ → A) (i : ℕ) (d : A) → i < n → get_or (each n (λ i. f i ∷ [])) i d ≡ f i
unfolding each
at_single zero f i d h = absurd (omega arith)
at_single {A} (suc n) f i d h = by_cases (ℕ_discrete i n) last (λ k. before k (at_single n f i d (omega arith)))
  where
    before : i ≢ n → get_or (each n (λ i. f i ∷ [])) i d ≡ f i → get_or (each n (λ i. f i ∷ []) ++ (f n ∷ [])) i d ≡ f i
    before k e = get_or-append (each n (λ i. f i ∷ [])) (f n ∷ []) d i (let z = length_single n f in omega arith) ∙ e

    last : i ≡ n → get_or (each n (λ i. f i ∷ []) ++ (f n ∷ [])) i d ≡ f i
    last e =
        ap (λ j. get_or (each n (λ i. f i ∷ []) ++ (f n ∷ [])) j d) (let z = length_single n f in omega arith)
        ∙ get_or-append-add (each n (λ i. f i ∷ [])) (f n ∷ []) 0 d ∙ ap f (sym e)

-- state k of an append: one of the first, or behind them one of the second
pub state_first : (S R : List State) (k : ℕ) → k < length S → the_state_at (S ++ R) k ≡ the_state_at S k
unfolding the_state_at
state_first S R k h = get_or-append S R (element 0) k h

pub state_behind : (S R : List State) (k : ℕ) → the_state_at (S ++ R) (length S + k) ≡ the_state_at R k
unfolding the_state_at
state_behind S R k = get_or-append-add S R k (element 0)

-- the states of a line
pub length_insides : (ln : Line) → length (insides ln) ≡ suc (places ln.model)
unfolding insides
length_insides ln = length_single (suc (places ln.model)) (inside ln.of ln.model)

pub state_insides : (ln : Line) (i : ℕ) → i < suc (places ln.model) → the_state_at (insides ln) i ≡ inside ln.of ln.model i
unfolding insides the_state_at
state_insides ln i h = at_single (suc (places ln.model)) (inside ln.of ln.model) i (element 0) h

-- the elements
pub length_elements : (n : ℕ) → length (each n (λ a. element a ∷ [])) ≡ n
length_elements n = length_single n element

pub length_states : (n : ℕ) (ls : List Line) → length (states n ls) ≡ n + length (all_insides ls)
unfolding states
length_states n ls =
    length-append (each n (λ a. element a ∷ [])) (all_insides ls) ∙ ap (λ k. k + length (all_insides ls)) (length_elements n)

pub state_element : (n : ℕ) (ls : List Line) (a : ℕ) → a < n → the_state_at (states n ls) a ≡ element a
unfolding states the_state_at
state_element n ls a h =
    get_or-append (each n (λ a. element a ∷ [])) (all_insides ls) (element 0) a (let z = length_elements n in omega arith)
    ∙ at_single n element a (element 0) h

pub state_inside : (n : ℕ) (ls : List Line) (k : ℕ) → the_state_at (states n ls) (n + k) ≡ the_state_at (all_insides ls) k
unfolding states
state_inside n ls k =
    ap (λ j. the_state_at (each n (λ a. element a ∷ []) ++ all_insides ls) (j + k)) (sym (length_elements n))
    ∙ state_behind (each n (λ a. element a ∷ [])) (all_insides ls) k

-- state k of the lines' states, by rules
pub data Sits : List Line → ℕ → State → Type 0 where
  this_line : {ln : Line} {ls : List Line} {i : ℕ} → i < suc (places ln.model) → Sits (ln ∷ ls) i (inside ln.of ln.model i)
  later_line : {ln : Line} {ls : List Line} {k : ℕ} {s : State} → Sits ls k s → Sits (ln ∷ ls) (suc (places ln.model) + k) s

pub record Sat (ls : List Line) (k : ℕ) (s : State) : Type 0 where
  pub below : k < length (all_insides ls)
  pub is : the_state_at (all_insides ls) k ≡ s

pub sits_at : {ls : List Line} {k : ℕ} {s : State} → Sits ls k s → Sat ls k s
unfolding all_insides
sits_at (this_line {ln = ln} {ls = ls} {i = i} h) =
    let z = length_insides ln in
    let y = length-append (insides ln) (all_insides ls) in
    record {
      below = omega arith;
      is = state_first (insides ln) (all_insides ls) i (omega arith) ∙ state_insides ln i h;
    }
sits_at (later_line {ln = ln} {ls = ls} {k = k} {s = s} h) =
    let r = sits_at h in
    let z = length_insides ln in
    let y = length-append (insides ln) (all_insides ls) in
    record {
      below = let b = r.below in omega arith;
      is = ap (λ j. the_state_at (insides ln ++ all_insides ls) (j + k)) (sym z) ∙ state_behind (insides ln) (all_insides ls) k ∙ r.is;
    }

pub at_sits : (ls : List Line) (k : ℕ) → k < length (all_insides ls) → Sits ls k (the_state_at (all_insides ls) k)
unfolding all_insides
at_sits [] k h = absurd (omega arith)
at_sits (ln ∷ ls) k h = by_cases (dec_lt k (suc (places ln.model))) this (λ d. later d (at_sits ls))
  where
    this : k < suc (places ln.model) → Sits (ln ∷ ls) k (the_state_at (insides ln ++ all_insides ls) k)
    this l =
        let z = length_insides ln in
        let e = state_first (insides ln) (all_insides ls) k (omega arith) ∙ state_insides ln k l in
        subst (Sits (ln ∷ ls) k) (sym e) (this_line l)

    later : ¬ (k < suc (places ln.model)) → ((j : ℕ) → j < length (all_insides ls) → Sits ls j (the_state_at (all_insides ls) j))
        → Sits (ln ∷ ls) k (the_state_at (insides ln ++ all_insides ls) k)
    later d rec =
        let z = length_insides ln in
        let y = length-append (insides ln) (all_insides ls) in
        let j = k - suc (places ln.model) in
        let e : suc (places ln.model) + j ≡ k = omega arith in
        let s = ap (λ i. the_state_at (insides ln ++ all_insides ls) (i + j)) z ∙ ap (the_state_at (insides ln ++ all_insides ls)) e in
        subst (λ i. Sits (ln ∷ ls) i (the_state_at (insides ln ++ all_insides ls) k)) e
        (later_line (subst (Sits ls j) (sym (state_behind (insides ln) (all_insides ls) j) ∙ s) (rec j (omega arith))))

-- a position in a model sits by the line of the model, and at one number only
sits_model : {ls : List Line} {k a i : ℕ} {m : Model} → Distinct ls → Sits ls k (inside a m i) → model_of ls a ≡ some m
sits_model d (this_line {ln = ln} {ls = ls} h) = model_here ln ls
sits_model (and_line e d) (later_line {ln = ln} {ls = ls} h) =
    let r = sits_model d h in model_later ln ls _ (λ s. none_some (sym e ∙ ap (model_of ls) s ∙ r)) ∙ r

sits_within : {ls : List Line} {k a i : ℕ} {m : Model} → Sits ls k (inside a m i) → i < suc (places m)
sits_within (this_line h) = h
sits_within (later_line h) = sits_within h

-- (the symbols and the positions may be two that are equal)
sits_two : {ls : List Line} {k k' a a' i i' : ℕ} {m m' : Model} → Distinct ls → a ≡ a' → i ≡ i' → Sits ls k (inside a m i)
    → Sits ls k' (inside a' m' i') → k ≡ k'
sits_two d s t (this_line h) (this_line h') = t
sits_two (and_line {ls = ls} e d) s t (this_line h) (later_line h') = absurd (none_some (sym e ∙ ap (model_of ls) s ∙ sits_model d h'))
sits_two (and_line {ls = ls} e d) s t (later_line h) (this_line h') =
    absurd (none_some (sym e ∙ ap (model_of ls) (sym s) ∙ sits_model d h))
sits_two (and_line e d) s t (later_line {ln = ln} h) (later_line h') = ap (λ k. suc (places ln.model) + k) (sits_two d s t h h')

sits_one : {ls : List Line} {k k' a i : ℕ} {m m' : Model} → Distinct ls → Sits ls k (inside a m i) → Sits ls k' (inside a m' i) → k ≡ k'
sits_one d h h' = sits_two d refl refl h h'

model_sits : (ls : List Line) (a i : ℕ) (m : Model) → model_of ls a ≡ some m → i < suc (places m) → (k : ℕ) × Sits ls k (inside a m i)
unfolding model_of
model_sits [] a i m e h = absurd (none_some e)
model_sits (ln ∷ ls) a i m e h =
    model_cases_lem {C = (k : ℕ) × Sits (ln ∷ ls) k (inside a m i)} ln ls a (some m) e this
    (λ o s. let r = model_sits ls a i m s h in (suc (places ln.model) + r.0, later_line r.1))
  where
    this : ln.of ≡ a → some ln.model ≡ some m → (k : ℕ) × Sits (ln ∷ ls) k (inside a m i)
    this o s =
        let z : ln.model ≡ m = cc in (
          i,
          subst (λ b. Sits (ln ∷ ls) i (inside b m i)) o
              (subst (λ m. Sits (ln ∷ ls) i (inside ln.of m i)) z (this_line (subst (λ m. i < suc (places m)) (sym z) h))),
        )

no_element : {ls : List Line} {k a : ℕ} → Sits ls k (element a) → ⊥
no_element (later_line h) = no_element h

pub element_inside : {a b i : ℕ} {m : Model} → element a ≡ inside b m i → ⊥
element_inside e = let z : ◌≡◌ {A = ℕ} 0 1 = cc in omega arith

-- the numbers of states: an element has its symbol's, a state inside a model one behind them
module _ {n : ℕ} {ls : List Line} where
  behind : {q : ℕ} {s : State} → Numbered n ls q s → n ≤ q → Sits ls (q - n) s
  behind {q} {s} h l =
      let z = length_states n ls in
      let e : n + (q - n) ≡ q = omega arith in
      let y = sym (state_inside n ls (q - n)) ∙ ap (the_state_at (states n ls)) e ∙ h.is in
      subst (Sits ls (q - n)) y (at_sits ls (q - n) (let b = h.below in omega arith))

  before : {q : ℕ} {s : State} → Numbered n ls q s → q < n → s ≡ element q
  before {q} h l = sym h.is ∙ state_element n ls q l

  pub number_element : (a : ℕ) → a < n → Numbered n ls a (element a)
  number_element a h = record { below = let z = length_states n ls in omega arith; is = state_element n ls a h }

  pub element_number : {q a : ℕ} → Numbered n ls q (element a) → q ≡ a
  element_number {q} {a} h = by_cases (dec_lt q n)
      (λ l. let z : element a ≡ element q = before h l in cc)
      (λ d. absurd (no_element (behind h (omega arith))))

  pub element_below : {q a : ℕ} → Numbered n ls q (element a) → a < n
  element_below {q} {a} h = by_cases (dec_lt q n)
      (λ l. let z = element_number h in omega arith)
      (λ d. absurd (no_element (behind h (omega arith))))

  pub inside_sits : {q a i : ℕ} {m : Model} → Numbered n ls q (inside a m i) → (n ≤ q) × Sits ls (q - n) (inside a m i)
  inside_sits {q} {a} {i} {m} h = by_cases {C = (n ≤ q) × Sits ls (q - n) (inside a m i)} (dec_lt q n)
      (λ l. absurd (element_inside (sym (before h l))))
      (λ d. let l : n ≤ q = omega arith in (l, behind h l))

  pub number_inside : {a : ℕ} {m : Model} (i : ℕ) → model_of ls a ≡ some m → i < suc (places m)
      → (q : ℕ) × Numbered n ls q (inside a m i)
  number_inside {a} {m} i e h =
      let r = model_sits ls a i m e h in
      let s = sits_at r.1 in
      let z = length_states n ls in
      (n + r.0, record { below = let b = s.below in omega arith; is = state_inside n ls r.0 ∙ s.is })

  pub inside_within : {q a i : ℕ} {m : Model} → Numbered n ls q (inside a m i) → i < suc (places m)
  inside_within h = sits_within (inside_sits h).1

  module _ (d : Distinct ls) where
    pub inside_model : {q a i : ℕ} {m : Model} → Numbered n ls q (inside a m i) → model_of ls a ≡ some m
    inside_model h = sits_model d (inside_sits h).1

    pub inside_one : {q q' a i : ℕ} {m m' : Model} → Numbered n ls q (inside a m i) → Numbered n ls q' (inside a m' i) → q ≡ q'
    inside_one h h' =
        let x = inside_sits h in
        let y = inside_sits h' in
        let z = sits_one d x.1 y.1 in
        let v = x.0 in
        let w = y.0 in
        omega arith

    pub same_model : {q q' a i i' : ℕ} {m m' : Model} → Numbered n ls q (inside a m i) → Numbered n ls q' (inside a m' i') → m ≡ m'
    same_model h h' = let x = inside_model h in let y = inside_model h' in cc
