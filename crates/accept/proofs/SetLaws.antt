-- The sets of the nodes in one list of words: reading, putting and counting states. Assumes nothing.
use Prim.Native.Nat.{ℕ, zero, suc, ◌+◌, ◌*◌, ◌≤◌, ◌<◌}
use mathlib.Core.Path.{◌≡◌, refl, sym, ap, ◌∙◌}
use mathlib.Core.Logic.{◌≢◌, by_cases}
use mathlib.Core.List.{List}
use mathlib.Core.Bool.{Bool}
use native.Mathlib.Decide.{ℕ_discrete, dec_lt}
use native.Mathlib.Nat.{suc-mul, mul-le-mul_right}
use native.Mathlib.Omega.{arith}
use lib.Dec.{eqb}
use lib.ListN.{length}
use Rattle.paper.specs.Told.{Tells}
use Rattle.paper.proofs.TellsLaws.{tells_eq}
use Rattle.bits.specs.Bits.{word, bit_at, Made}
use Rattle.bits.proofs.Sets.{bit_two}
use Rattle.accept.specs.Work.{state, In, missing, Added, Grown}

-- a test of two numbers tells whether they are equal
pub eqb_tells : (x y : ℕ) → Tells (eqb x y) (x ≡ y)
eqb_tells x y = tells_eq x y (λ e. e) (λ d. d)

-- a test that tells P tells whatever is the same as P
pub tells_as : {P Q : Type 0} {r : Bool} → (P → Q) → (Q → P) → Tells r P → Tells r Q
tells_as to from t = record { yes = λ e. to (t.yes e); no = λ e q. t.no e (from q) }

-- the sets of an earlier node end before a later one's begin
sets_apart : (b i j p q : ℕ) → i < j → p < b → i * b + p < j * b + q
sets_apart b i j p q h l = omega (arith, suc-mul i b, mul-le-mul_right {m = suc i} {n = j} b h)

module _ (b i j p q : ℕ) (h : p < b) (l : q < b) (e : i * b + p ≡ j * b + q) where
  same_node : i ≡ j
  same_node = by_cases (dec_lt i j) (λ d. let a = sets_apart b i j p q d h in absurd (omega arith))
      (λ d. by_cases (dec_lt j i) (λ f. let a = sets_apart b j i q p f l in absurd (omega arith)) (λ f. omega arith))

  same_state : p ≡ q
  same_state = let a = ap (λ (k : ℕ). k * b) same_node in omega arith

module _ (b : ℕ) where
  pub state_tells : (s : List ℕ) (i q : ℕ) → Tells (eqb (bit_at s (i * b + q)) 1) (In b s i q)
  unfolding state
  state_tells s i q = eqb_tells (bit_at s (i * b + q)) 1

  state_two : (s : List ℕ) (i q : ℕ) → state b s i q < 2
  unfolding state
  state_two s i q = bit_two s (i * b + q)

  pub not_in : (s : List ℕ) (i q : ℕ) → ¬ In b s i q → state b s i q ≡ 0
  not_in s i q h = omega (arith, state_two s i q)

  pub added_of_made : (s : List ℕ) (i q : ℕ) (t : List ℕ) → q < b → i * b + q < length s * word → Made s (i * b + q) 1 t → Added b s i q t
  unfolding state
  added_of_made s i q t l h m = record {
    long = m.long;
    here = m.here h;
    nodes = λ j p k d. m.others (j * b + p) (λ e. d (same_node b j i p q k l e));
    states = λ p k d. m.others (i * b + p) (λ e. d (same_state b i i p q k l e));
  }

  pub grown_refl : (s : List ℕ) (i : ℕ) → Grown b s i s
  grown_refl s i = record { long = refl; nodes = λ j p k d. refl; holds = λ p k h. h }

  pub grown_trans : {s t u : List ℕ} {i : ℕ} → Grown b s i t → Grown b t i u → Grown b s i u
  grown_trans x y = record {
    long = y.long ∙ x.long;
    nodes = λ j p k d. y.nodes j p k d ∙ x.nodes j p k d;
    holds = λ p k h. y.holds p k (x.holds p k h);
  }

  pub grown_added : {s : List ℕ} {i q : ℕ} {t : List ℕ} → Added b s i q t → Grown b s i t
  grown_added {s} {i} {q} {t} a = record {
    long = a.long;
    nodes = a.nodes;
    holds = λ p k h. by_cases (ℕ_discrete p q) (λ e. rw e a.here) (λ d. a.states p k d ∙ h);
  }

-- how many numbers are missing, where none or one more is there
pub missing_le : (f : ℕ → ℕ) (n : ℕ) → missing f n ≤ n
unfolding missing
missing_le f zero = omega arith
missing_le f (suc n) = let h = missing_le f n in omega arith

missing_same : (f g : ℕ → ℕ) (n : ℕ) → ((p : ℕ) → p < n → g p ≡ f p) → missing g n ≡ missing f n
unfolding missing
missing_same f g zero h = refl
missing_same f g (suc n) h = let a = missing_same f g n (λ p l. h p (omega arith)) in let e = h n (omega arith) in omega arith

pub missing_less : (f g : ℕ → ℕ) (n q : ℕ) → q < n → f q ≡ 0 → g q ≡ 1 → ((p : ℕ) → p < n → p ≢ q → g p ≡ f p)
    → missing g n + 1 ≡ missing f n
unfolding missing
missing_less f g zero q l z o h = absurd (omega arith)
missing_less f g (suc n) q l z o h = by_cases (ℕ_discrete q n)
    (λ e.
    let a = missing_same f g n (λ p k. h p (omega arith) (λ i. omega arith)) in
    let x : f n ≡ 0 = rw e at z in
    let y : g n ≡ 1 = rw e at o in
    omega arith)
    (λ d.
    let a = missing_less f g n q (omega arith) z o (λ p k i. h p (omega arith) i) in
    let e = h n (omega arith) (λ i. d (sym i)) in
    omega arith)
