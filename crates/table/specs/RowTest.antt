-- A row has these numbers or not.
use Rattle.std.specs.Prelude.{ℕ, ◌+◌, ◌*◌, ◌≤◌, ◌≡◌, List, length}
use Rattle.std.proofs.Math.Logic.Dec
use Rattle.std.proofs.Math.Decide.{ℕ_discrete, dec_le, map_dec}
use Rattle.paper.specs.Limits.{at}
use Rattle.table.specs.Rules.{Row}

unfoldable pub row? : (w : ℕ) (xs : List ℕ) (i k a b q : ℕ) → Dec (Row w xs i k a b q)
row? w xs i k a b q =
    map_dec
    {A = (i * w + w ≤ length xs) × ((at xs (i * w) ≡ k)
    × ((at xs (i * w + 1) ≡ a) × ((at xs (i * w + 2) ≡ b) × (at xs (i * w + 3) ≡ q))))}
    (λ x. record { inside = x.0; kind = x.1.0; left = x.1.1.0; right = x.1.1.1.0; target = x.1.1.1.1 })
    (λ r. (r.inside, (r.kind, (r.left, (r.right, r.target)))))
    (Dec.and (dec_le _ _) (Dec.and (ℕ_discrete _ _) (Dec.and (ℕ_discrete _ _) (Dec.and (ℕ_discrete _ _) (ℕ_discrete _ _)))))
