-- What the private functions that build an index do. Nothing of it stands in the contract of a public function.
use Rattle.std.specs.Prelude.{ℕ, zero, suc, ◌+◌, ◌*◌, ◌/◌, ◌≤◌, ◌<◌, ◌≡◌, List, length, set}
use Rattle.std.proofs.Math.Logic.{ite}
use Rattle.std.proofs.Math.Logic.Dec
use Rattle.std.proofs.Math.Decide.{ℕ_discrete, dec_le, map_dec}
use Rattle.paper.specs.Limits.{at, join_kind}
use Rattle.joins.specs.Index.{JoinAt, Listed, most_number}

unfoldable pub join_at? : (w : ℕ) (xs : List ℕ) (i l : ℕ) → Dec (JoinAt w xs i l)
join_at? w xs i l =
    map_dec
    {A = (i * w + w ≤ length xs) × ((at xs (i * w) ≡ join_kind) × (at xs (i * w + 1) ≡ l))}
    (λ x. record { inside = x.0; kind = x.1.0; left = x.1.1 })
    (λ j. (j.inside, (j.kind, j.left)))
    (Dec.and (dec_le _ _) (Dec.and (ℕ_discrete _ _) (ℕ_discrete _ _)))

-- how many of the first n rules are join rules with the left state l
unfoldable pub own : ℕ → List ℕ → ℕ → ℕ → ℕ
own w xs l zero = 0
own w xs l (suc n) = own w xs l n + ite (join_at? w xs n l) 1 0

-- place e of the slice is there for rule i, if it is a join rule with the left state l
pub record RowRoom (w : ℕ) (xs : List ℕ) (i l : ℕ) (is : List ℕ) (e : ℕ) : Type 0 where
  pub inside : i * w + w ≤ length xs
  pub narrow : i ≤ most_number
  pub room : JoinAt w xs i l → e < length is

-- the position of rule i is put at place e if it is a join rule with the left state l; the next place, and the slice
pub data PutRow (w : ℕ) (xs : List ℕ) (i l : ℕ) (is : List ℕ) (e : ℕ) : ℕ → List ℕ → Type 0 where
  put : JoinAt w xs i l → PutRow w xs i l is e (e + 1) (set is e i)
  skipped : ¬ JoinAt w xs i l → PutRow w xs i l is e e is

-- the slice has room from place a on for the list of the left state l
pub record ListRoom (w : ℕ) (xs : List ℕ) (l : ℕ) (is : List ℕ) (a : ℕ) : Type 0 where
  pub narrow : length xs / w ≤ most_number
  pub room : a + own w xs l (length xs / w) ≤ length is

-- the slice o is now is: from place a up to e stands the list of the left state l among the first n rules, and all else is as it was
pub record PutList (w : ℕ) (xs : List ℕ) (l n : ℕ) (o : List ℕ) (a e : ℕ) (is : List ℕ) : Type 0 where
  pub size : length is ≡ length o
  pub listed : Listed w xs l n is a e
  pub count : e ≡ a + own w xs l n
  pub before : (k : ℕ) → k < a → at is k ≡ at o k
  pub behind : (k : ℕ) → e ≤ k → at is k ≡ at o k
