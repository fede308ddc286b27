-- `moves::fails` meets its contract.
use native.Mathlib.Omega.{arith}
use Rattle.paper.proofs.TellsLaws.{tells_no, tells_ne}
use Rattle.moves.proofs.fails.Goals as goal

pub returns-then-not-is_final : goal.returns-then-not-is_final
returns-then-not-is_final c = tells_no (λ x. c.is_final.ensures.no c.if-not-is_final.true x.final)

pub returns-then-work-i : goal.returns-then-work-i
returns-then-work-i c = tells_no (λ x. omega (arith, x.inside))

pub returns : goal.returns
returns c = tells_ne _ _ (λ d. record { final = c.is_final.ensures.yes c.if-not-is_final.false; inside = omega arith; no_end_of = d }) (λ e x. x.no_end_of e)
