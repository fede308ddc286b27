-- `rows::put_rule` meets its contract: the numbers of a rule are put where they fit. Assumes nothing.
use native.Mathlib.Omega.{arith}
use Prim.Native.Nat.{suc, ◌+◌}
use mathlib.Core.Path.{◌≡◌, refl}
use lib.ListN.{length-set}
use Rattle.put.proofs.PutLaws.{wrote_put, wrote_none}
use Rattle.rows.proofs.put_rule.Goals as goal

pub returns-then-len-at : goal.returns-then-len-at
returns-then-len-at c = wrote_none (omega arith)

pub returns-then-len-at-lt-WIDTH : goal.returns-then-len-at-lt-WIDTH
returns-then-len-at-lt-WIDTH c = wrote_none (omega arith)

pub bounds-rules-at-2 : goal.bounds-rules-at-2
bounds-rules-at-2 c = simp length-set (omega arith)

pub bounds-rules-at-3 : goal.bounds-rules-at-3
bounds-rules-at-3 c = simp length-set (omega arith)

pub bounds-rules-at-4 : goal.bounds-rules-at-4
bounds-rules-at-4 c = simp length-set (omega arith)

pub returns : goal.returns
returns c = let i = c.args.at in
    let e₁ : i + 1 ≡ suc i = omega arith in
    let e₂ : i + 2 ≡ suc (suc i) = omega arith in
    let e₃ : i + 3 ≡ suc (suc (suc i)) = omega arith in
    wrote_put (omega arith) (λ h. record { ends = refl; holds = rw (e₁, e₂, e₃) refl })
