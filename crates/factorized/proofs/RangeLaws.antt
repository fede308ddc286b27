-- What a sound table says of the numbers of its rules, and which states ε steps reach in it. Assumes nothing.
use Prim.Native.Nat.{ℕ, ◌+◌, ◌*◌, ◌/◌, ◌≤◌, ◌<◌}
use mathlib.Core.Path.{◌≡◌, refl}
use mathlib.Core.List.{List}
use native.Mathlib.Omega.{arith}
use lib.ListN.{length}
use Rattle.paper.specs.Limits.{Limits, at, eps_kind}
use Rattle.table.specs.Rules.{RulesOf, Row, eps_rule, Reach, here, step}
use Rattle.table.specs.Check.{Sound}
use Rattle.table.proofs.Rows.{row_whole, row_below}
use Rattle.table.proofs.Range.{states_few, symbols_few, kind_few, third_zero, to_below, symbol_below, from_below, right_below}
use Rattle.factorized.specs.Work.{InRange, Ranged}

module _ (L : Limits) (positive : 0 < L.width) {symbols : ℕ} {ms xs : List ℕ} (sound : Sound L symbols ms xs) where
  pub in_range_lem : InRange L xs (length ms)
  in_range_lem =
      let inside = row_whole positive (length xs) in
      record {
        kinds = λ k h. kind_few L positive sound k (inside k h);
        leaves = λ k h e. (
          omega (arith, symbols_few L sound, symbol_below L positive sound k (inside k h) e),
          third_zero L positive sound k (inside k h) (λ z. omega arith),
        );
        joins = λ k h e. (
          from_below L positive sound k (inside k h) (λ z. omega arith),
          right_below L positive sound k (inside k h) e,
        );
        epsilons = λ k h e. (
          from_below L positive sound k (inside k h) (λ z. omega arith),
          third_zero L positive sound k (inside k h) (λ z. omega arith),
        );
        targets = λ k h. to_below L positive sound k (inside k h);
      }

  pub ranged : Ranged L ms xs
  ranged = record { rules = in_range_lem; few = states_few L sound }

pub in_range_wider : {L : Limits} {xs : List ℕ} {n m : ℕ} → n ≤ m → InRange L xs n → InRange L xs m
in_range_wider l r = record {
  kinds = r.kinds;
  leaves = r.leaves;
  joins = λ k h e. let (a, b) = r.joins k h e in (omega arith, omega arith);
  epsilons = λ k h e. let (a, b) = r.epsilons k h e in (omega arith, b);
  targets = λ k h. let a = r.targets k h in omega arith;
}

-- the rules name states below the most
pub in_limits : {L : Limits} {ms xs : List ℕ} → Ranged L ms xs → InRange L xs L.states
in_limits r = in_range_wider r.few r.rules

module _ (L : Limits) (xs : List ℕ) {n : ℕ} (positive : 0 < L.width) (range : InRange L xs n) where
  -- row k is an ε rule
  pub eps_row_lem : (k : ℕ) → k < length xs / L.width → at xs (k * L.width) ≡ eps_kind
      → RulesOf L.width xs (eps_rule (at xs (k * L.width + 1)) (at xs (k * L.width + 3)))
  eps_row_lem k h e =
      let r : Row L.width xs k eps_kind (at xs (k * L.width + 1)) 0 (at xs (k * L.width + 3)) = record {
        inside = row_whole positive (length xs) k h;
        kind = e;
        left = refl;
        right = (range.epsilons k h e).1;
        target = refl;
      } in
      (k, r)

  -- an ε rule goes from a state
  eps_from : {p q : ℕ} → RulesOf L.width xs (eps_rule p q) → p < n
  eps_from (k, r) = rw r.left at (range.epsilons k (row_below positive (length xs) k r.inside) r.kind).0

  -- the sink reaches itself alone
  pub reach_sink : {q : ℕ} → Reach (RulesOf L.width xs) n q → q ≡ n
  reach_sink here = refl
  reach_sink (step k e) = let i = reach_sink k in let l = eps_from e in absurd (omega arith)
