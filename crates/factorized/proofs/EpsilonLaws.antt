-- ε steps on flags: one rule, one rule more, a pass that flags nothing, all that is reached. Assumes nothing.
use Prim.Native.Nat.{ℕ, zero, suc, ◌+◌, ◌*◌, ◌/◌, ◌≤◌, ◌<◌}
use mathlib.Core.Path.{◌≡◌, refl, sym, ◌∙◌}
use mathlib.Core.Logic.{by_cases}
use mathlib.Core.Bool.{Bool, true, false}
use mathlib.Core.List.{List, [], ◌∷◌}
use native.Mathlib.Decide.{ℕ_discrete}
use native.Mathlib.Omega.{arith}
use borrow.Author.Count.{below_more}
use lib.ListN.{length, set, length-set, get_or}
use lib.Seq.{get_or-set_same, get_or-set_other}
use Rattle.paper.specs.Limits.{Limits, at, eps_kind}
use Rattle.paper.proofs.TellsLaws.{true_not_false}
use Rattle.table.specs.Rules.{Rule, RulesOf, eps_rule, here, step}
use Rattle.table.proofs.Evaluate.{reach_trans, reach_closed}
use Rattle.table.proofs.Rows.{row_below}
use Rattle.factorized.specs.Work.{InRange, Flagged, zeros, RowClosed, Stepped, Rowed, Passed, Closed}
use Rattle.factorized.proofs.RangeLaws.{eps_row_lem}

pub zeros_le : (fs : List Bool) → zeros fs ≤ length fs
unfolding zeros
zeros_le [] = omega arith
zeros_le (true ∷ fs) = let h = zeros_le fs in omega arith
zeros_le (false ∷ fs) = let h = zeros_le fs in omega arith

zeros_set : (fs : List Bool) (q : ℕ) → q < length fs → get_or fs q false ≡ false → zeros (set fs q true) + 1 ≡ zeros fs
unfolding zeros
zeros_set [] q h e = absurd (omega arith)
zeros_set (true ∷ fs) zero h e = absurd (true_not_false e)
zeros_set (false ∷ fs) zero h e = omega arith
zeros_set (true ∷ fs) (suc q) h e = zeros_set fs q (omega arith) e
zeros_set (false ∷ fs) (suc q) h e = let a = zeros_set fs q (omega arith) e in omega arith

module _ {R : Rule → Type 0} where
  pub stepped_none : (fs : List Bool) → Stepped R fs 0 fs
  stepped_none fs = record { long = refl; holds = λ q h. h; only = λ q h. (q, h, here); same = λ e. refl; count = omega arith }

  stepped_one : (fs : List Bool) (p q : ℕ) → q < length fs → Flagged fs p → get_or fs q false ≡ false → R (eps_rule p q) → Stepped R fs 1 (set fs q true)
  stepped_one fs p q l h e x = record {
    long = length-set fs q true;
    holds = λ r k. by_cases (ℕ_discrete r q)
        (λ i. let z : Flagged fs q = rw i at k in absurd (true_not_false (sym z ∙ e)))
        (λ d. rw (get_or-set_other fs q r true false d) k);
    only = λ r k. by_cases (ℕ_discrete r q)
        (λ i. (p, h, rw i (step here x)))
        (λ d. (r, rw (get_or-set_other fs q r true false d) at k, here));
    same = λ i. absurd (omega arith);
    count = zeros_set fs q l e;
  }

  pub stepped_trans : {fs gs hs : List Bool} {m n : ℕ} → Stepped R fs m gs → Stepped R gs n hs → Stepped R fs (m + n) hs
  stepped_trans x y = record {
    long = y.long ∙ x.long;
    holds = λ q h. y.holds q (x.holds q h);
    only = λ q h. let (p, k, r) = y.only q h in let (o, l, e) = x.only p k in (o, l, reach_trans e r);
    same = λ e. y.same (omega arith) ∙ x.same (omega arith);
    count = omega (arith, x.count, y.count);
  }

module _ (L : Limits) (xs : List ℕ) where
  -- a rule that flags nothing, and one that flags its target
  pub rowed_same : (k : ℕ) (fs : List Bool) → RowClosed L.width xs fs k → Rowed L.width xs k fs 0 fs
  rowed_same k fs c = record { stepped = stepped_none fs; closed = c }

  pub rowed_one : (k : ℕ) (fs : List Bool) → 0 < L.width → InRange L xs (length fs) → k < length xs / L.width → at xs (k * L.width) ≡ eps_kind
      → Flagged fs (at xs (k * L.width + 1)) → get_or fs (at xs (k * L.width + 3)) false ≡ false
      → Rowed L.width xs k fs 1 (set fs (at xs (k * L.width + 3)) true)
  rowed_one k fs positive range row e h z =
      let q = at xs (k * L.width + 3) in
      record {
        stepped = stepped_one fs _ q (range.targets k row) h z (eps_row_lem L xs positive range k row e);
        closed = λ _ _. get_or-set_same fs q true false (range.targets k row);
      }

  pub passed_none : (fs : List Bool) → Passed L.width xs 0 fs 0 fs
  passed_none fs = record { stepped = stepped_none fs; closed = λ e j h. absurd (omega arith) }

  pub passed_more : {k m n : ℕ} {fs gs hs : List Bool} → Passed L.width xs k fs m gs → Rowed L.width xs k gs n hs
      → Passed L.width xs (k + 1) fs (m + n) hs
  passed_more {k} {hs = hs} x y = record {
    stepped = stepped_trans x.stepped y.stepped;
    closed = λ e. below_more (RowClosed L.width xs hs) k
        (λ j h. rw (y.stepped.same (omega arith)) (x.closed (omega arith) j h)) y.closed;
  }

  -- where no rule flags anything, all that is reached is flagged
  pub closed_of : {m n : ℕ} {fs gs hs : List Bool} → 0 < L.width → Stepped (RulesOf L.width xs) fs m gs
      → Passed L.width xs (length xs / L.width) gs n hs → n ≡ 0 → Closed (RulesOf L.width xs) fs hs
  closed_of {fs = fs} {hs = hs} positive x y z =
      let g = stepped_trans x y.stepped in
      record {
        long = g.long;
        exact = λ q. (g.only q, λ (p, h, r). reach_closed (Flagged hs) rows (g.holds p h) r);
      }
    where
      rows : (q r : ℕ) → Flagged hs q → RulesOf L.width xs (eps_rule q r) → Flagged hs r
      rows q r h (k, x) =
          rw x.target at (y.closed z k (row_below positive (length xs) k x.inside) x.kind (rw x.left h))
