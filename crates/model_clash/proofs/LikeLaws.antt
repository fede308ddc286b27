-- The search for two like places: what is not there is no place, and no pair is left out. Assumes nothing.
use Prim.Native.Nat.{ℕ, ◌≤◌, ◌<◌}
use mathlib.Core.Path.{◌≡◌, refl, sym}
use mathlib.Core.Bool.{true}
use mathlib.Core.List.{List}
use Rattle.model_clash.specs.Like.{Like, Two, Finds, Clash}
use Rattle.std.specs.Prelude.{Option, Some, None, is_some}
use Rattle.paper.proofs.TellsLaws.{true_not_false}

-- no two like places before y
pub record NonePaired (stride : ℕ) (B N : List ℕ) (q from y : ℕ) : Type 0 where
  pub none : (z x : ℕ) → ¬ Two stride B N q from y z x

-- y has no like place before z
pub record NoneLike (stride : ℕ) (B N : List ℕ) (q from y z : ℕ) : Type 0 where
  pub none : (x : ℕ) → from ≤ x → x < z → ¬ Like stride B N q y x

-- no state before q has two like places
pub record NoneBefore (stride : ℕ) (B N : List ℕ) (from to q : ℕ) : Type 0 where
  pub none : (p : ℕ) → from ≤ p → p < q → (z y : ℕ) → ¬ Two stride B N p from to z y

module _ {stride : ℕ} {B N : List ℕ} {from to : ℕ} where
  pub clash_found : {q z y : ℕ} {r : Option (ℕ × ℕ)} → from ≤ q → q < to → Finds stride B N q from to r → r ≡ Some (z, y) → Clash stride B N from to
  clash_found {q} {z} {y} h k f e = record { state = q; low = h; high = k; z = z; y = y; two = f.pair e }

  -- whether there are two is told by whether the search finds any
  pub clash_some : {q : ℕ} (r : Option (ℕ × ℕ)) → from ≤ q → q < to → Finds stride B N q from to r → is_some r ≡ true
      → Clash stride B N from to
  clash_some None h k f t = absurd (true_not_false (sym t))
  clash_some (Some (z, y)) h k f t = clash_found h k f refl
