-- An index: its lists stand one behind the other, and it is known from its own numbers. Assumes nothing.
use Prim.Native.Nat.{ℕ, zero, suc, ◌+◌, ◌≤◌, ◌<◌}
use mathlib.Core.Path.{◌≡◌, ◌∙◌}
use mathlib.Core.Logic.{◌⊎◌, inl, inr, by_cases}
use mathlib.Core.List.{List}
use native.Mathlib.Decide.{dec_le}
use native.Mathlib.Numerals.{add-one}
use native.Mathlib.Omega.{arith}
use lib.ListN.{length}
use Rattle.paper.specs.Limits.{at}
use Rattle.joins.specs.Index.{IndexedTo, Indexed}
use Rattle.joins.proofs.Lists.{listed_keep}

module _ {w : ℕ} {xs : List ℕ} {n : ℕ} {is : List ℕ} where
  -- the lists begin one behind the other
  pub begins_rise : {m : ℕ} → IndexedTo w xs n m is → (j l : ℕ) → j ≤ l → l ≤ m → at is j ≤ at is l
  begins_rise x j zero h k = let e : j ≡ 0 = omega arith in rw e (omega arith)
  begins_rise x j (suc l) h k = by_cases (dec_le j l)
      (λ q.
      let a = begins_rise x j l q (omega arith) in
      let b : at is l ≤ at is (suc l) = rw add-one at (x.lists l (omega arith)).ends in
      omega arith)
      (λ q. let e : j ≡ suc l = omega arith in rw e (omega arith))

  -- they begin behind the numbers that say where
  pub begins_behind : {m : ℕ} → IndexedTo w xs n m is → (l : ℕ) → l ≤ m → n + 1 ≤ at is l
  begins_behind x l h = omega (arith, x.first, begins_rise x 0 l (omega arith) h)

  -- another slice with the same numbers in the lists of the first m left states, and where they begin and end, has them too
  pub indexed_as : {m : ℕ} {is' : List ℕ} → IndexedTo w xs n m is → m ≤ n → at is m ≤ length is'
      → ((k : ℕ) → (k ≤ m) ⊎ ((n + 1 ≤ k) × (k < at is m)) → at is' k ≡ at is k) → IndexedTo w xs n m is'
  indexed_as {m} {is'} x h v same = record {
    first = same 0 (inl (omega arith)) ∙ x.first;
    lists = λ l k. rw (same l (inl (omega arith)), same (l + 1) (inl (omega arith)))
        (listed_keep (λ i o p. same i (inr (within l k i o p))) (x.lists l k));
    ends = rw (same m (inl (omega arith))) v;
  }
    where
      within : (l : ℕ) → l < m → (i : ℕ) → at is l ≤ i → i < at is (l + 1) → (n + 1 ≤ i) × (i < at is m)
      within l k i o p =
          let a = begins_behind x l (omega arith) in
          let c = begins_rise x (l + 1) m (omega arith) (omega arith) in
          (omega arith, omega arith)

  -- an index is known from its own numbers: a slice that begins with the same ones has it too
  pub indexed_keep : {is' : List ℕ} → Indexed w xs n is → at is n ≤ length is'
      → ((k : ℕ) → k < at is n → at is' k ≡ at is k) → Indexed w xs n is'
  indexed_keep x v same = indexed_as x (omega arith) v (λ k h. same k (below k h))
    where
      below : (k : ℕ) → (k ≤ n) ⊎ ((n + 1 ≤ k) × (k < at is n)) → k < at is n
      below k (inl h) = let a = begins_behind x n (omega arith) in omega arith
      below k (inr h) = h.1
