use mathlib.Core.Logic.{inl, inr}
use native.Mathlib.Numerals.{add-one}
use native.Mathlib.Omega.{arith}
use Rattle.pairs.proofs.WorkLaws.{kept_then}
use Rattle.steps.specs.Runs.{ends, goes}
use Rattle.steps.proofs.close_eps.Goals as goal

pub returns-then-queue-j-clause-steps : goal.returns-then-queue-j-clause-steps
returns-then-queue-j-clause-steps c = c.loop-j.invariant.1 _ _ (ends (inr (omega arith)))

pub loop-j-preserved : goal.loop-j-preserved
loop-j-preserved c = let (k, f) = c.loop-j.invariant in (
  kept_then k c.eps_rows.ensures.kept,
  λ vs d o. f vs d (goes (omega arith) (omega arith) (rw k.sizes at c.pair_at-pair.ensures) (rw k.sizes at c.eps_rows.ensures.steps) (rw add-one at o)),
)

pub returns-clause-steps : goal.returns-clause-steps
returns-clause-steps c = c.loop-j.invariant.1 _ _ (ends (inl (omega arith)))
