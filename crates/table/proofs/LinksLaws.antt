-- The lists of rules: the room for them, at the start, after one rule more, and the walk down one of them. Assumes nothing.
use Prim.Native.Nat.{ℕ, ◌+◌, ◌*◌, ◌/◌, ◌≤◌, ◌<◌}
use mathlib.Core.Path.{◌≡◌, sym, ◌∙◌}
use mathlib.Core.Logic.{◌≢◌, by_cases, inr}
use mathlib.Core.List.{List}
use native.Mathlib.Decide.{ℕ_discrete, dec_le}
use native.Mathlib.Nat.{mod-lt}
use native.Mathlib.Omega.{arith}
use lib.ListN.{length, set, replicate, length-set, length-replicate, get_or-replicate}
use lib.Seq.{get_or-set_same, get_or-set_other}
use Rattle.paper.specs.Limits.{Limits, at}
use Rattle.table.specs.Rules.{Row}
use Rattle.table.specs.Check.{TooLarge, HasRow}
use Rattle.table.specs.Links.{the_list_of, OnList, front, later, Linked}

-- a size that is not refused has at most so many rules
pub few_rules : (L : Limits) (symbols states rules : ℕ) → ¬ TooLarge L symbols states rules → rules ≤ L.rules
few_rules L symbols states rules h = by_cases (dec_le rules L.rules) (λ l. l) (λ l. absurd (h (inr (inr (inr (omega arith))))))

module _ (n : ℕ) (ls : List ℕ) where
  -- no row stands on the list that has ended
  not_ended : {h j : ℕ} → OnList n ls h j → h ≢ 0
  not_ended front e = omega arith
  not_ended (later i o) e = omega arith

  -- a row is the first of a list, or stands on the rest
  rest : {h j : ℕ} (i : ℕ) → h ≡ i + 1 → j ≢ i → OnList n ls h j → OnList n ls (at ls (n + i)) j
  rest i e d front = absurd (d (omega arith))
  rest i e d (later k o) = let q : k ≡ i = omega arith in rw q at o

  -- a list stays as it is where the links of the first i rows do
  kept : (i : ℕ) (ls' : List ℕ) → ((j : ℕ) → j < i → at ls (n + j) ≤ j) → ((j : ℕ) → j < i → at ls' (n + j) ≡ at ls (n + j))
      → {h j : ℕ} → h ≤ i → OnList n ls h j → OnList n ls' h j
  kept i ls' d same l front = front
  kept i ls' d same l (later k o) =
      let b : k < i = omega arith in
      let t = kept i ls' d same (let z = d k b in omega arith) o in
      later k (rw (sym (same k b)) at t)

module _ (n : ℕ) (positive : 0 < n) (L : Limits) (xs : List ℕ) where
  pub linked_start : length xs / L.width ≤ L.rules → Linked n L xs (replicate (n + L.rules) 0) 0
  linked_start few = record {
    few = few;
    long = length-replicate (n + L.rules) 0;
    fronts = λ k h. let z = get_or-replicate {A = ℕ} (n + L.rules) k 0 0 (omega arith) in omega arith;
    down = λ j h. absurd (omega arith);
    listed = λ j h. absurd (omega arith);
  }

  -- one rule more: row i, of list k, is put at its front
  module _ (ls : List ℕ) (i k : ℕ) (own : the_list_of n (at xs (i * L.width + 1)) ≡ k) (room : i < L.rules) (g : Linked n L xs ls i) where
    below : k < n
    below = let z = mod-lt (at xs (i * L.width + 1)) positive in omega (arith, own)

    abbrev led : List ℕ
    led = set ls (n + i) (at ls k)

    abbrev put : List ℕ
    put = set led k (i + 1)

    long_led : length led ≡ n + L.rules
    long_led = length-set ls (n + i) (at ls k) ∙ g.long

    front_new : at put k ≡ i + 1
    front_new = get_or-set_same led k (i + 1) 0 (let z = below in omega (arith, long_led))

    front_kept : (j : ℕ) → j < n → j ≢ k → at put j ≡ at ls j
    front_kept j h d = get_or-set_other led k j (i + 1) 0 d ∙ get_or-set_other ls (n + i) j (at ls k) 0 (λ e. omega arith)

    link_new : at put (n + i) ≡ at ls k
    link_new =
        get_or-set_other led k (n + i) (i + 1) 0 (λ e. let z = below in omega arith)
        ∙ get_or-set_same ls (n + i) (at ls k) 0 (omega (arith, g.long))

    link_kept : (j : ℕ) → j < i → at put (n + j) ≡ at ls (n + j)
    link_kept j h =
        get_or-set_other led k (n + j) (i + 1) 0 (λ e. let z = below in omega arith)
        ∙ get_or-set_other ls (n + i) (n + j) (at ls k) 0 (λ e. omega arith)

    stays : {j : ℕ} (f : ℕ) → f < n → OnList n ls (at ls f) j → OnList n put (at ls f) j
    stays f h o = kept n ls i put g.down link_kept (g.fronts f h) o

    -- a row stays on its list, behind the new one where that is of the same list
    old_listed : (j f : ℕ) → f < n → OnList n ls (at ls f) j → OnList n put (at put f) j
    old_listed j f h o = by_cases (ℕ_discrete f k)
        (λ e. rw (e, front_new) (later i {j = j} (rw link_new (rw e at (stays f h o)))))
        (λ d. rw (front_kept f h d) (stays f h o))

    pub linked_more : Linked n L xs put (i + 1)
    linked_more = record {
      few = g.few;
      long = length-set led k (i + 1) ∙ long_led;
      fronts = λ f h. by_cases (ℕ_discrete f k)
          (λ e. rw e (omega (arith, front_new)))
          (λ d. let z = g.fronts f h in omega (arith, front_kept f h d));
      down = λ j h. by_cases (ℕ_discrete j i)
          (λ e. rw e (let z = g.fronts k below in omega (arith, link_new)))
          (λ d. let z = g.down j (omega arith) in omega (arith, link_kept j (omega arith)));
      listed = λ j h. by_cases (ℕ_discrete j i)
          (λ e. rw (e, own, front_new) front)
          (λ d. old_listed j (the_list_of n (at xs (j * L.width + 1))) (mod-lt _ positive) (g.listed j (omega arith)));
    }

-- the walk down the list of the left number a: a row of the first i that has these numbers is still to come
pub record Walked (n w : ℕ) (xs ls : List ℕ) (i k a b q next : ℕ) : Type 0 where
  pub below : next ≤ i
  pub ahead : (j : ℕ) → j < i → Row w xs j k a b q → OnList n ls next j

module _ (n : ℕ) (positive : 0 < n) (L : Limits) (xs ls : List ℕ) (i : ℕ) (g : Linked n L xs ls i) (k a b q : ℕ) where
  pub walked_start : (f : ℕ) → f ≡ the_list_of n a → Walked n L.width xs ls i k a b q (at ls f)
  walked_start f e = rw e (record {
    below = g.fronts (the_list_of n a) (mod-lt _ positive);
    ahead = λ j h r. rw r.left at (g.listed j h);
  })

  pub walked_more : (j next : ℕ) → next ≡ j + 1 → ¬ Row L.width xs j k a b q
      → Walked n L.width xs ls i k a b q next → Walked n L.width xs ls i k a b q (at ls (n + j))
  walked_more j next e d v = record {
    below = let z = g.down j (omega (arith, v.below)) in omega (arith, v.below);
    ahead = λ m h r. rest n ls j e (λ x. d (rw x at r)) (v.ahead m h r);
  }

  pub walked_end : (next : ℕ) → next ≡ 0 → Walked n L.width xs ls i k a b q next → ¬ HasRow L.width xs i k a b q
  walked_end next e v (j, h, r) = not_ended n ls (v.ahead j h r) e
