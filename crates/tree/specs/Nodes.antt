-- Refusal 12: what is wrong with a node list, and what its check tells.
use Rattle.std.specs.Prelude.{ℕ, ◌+◌, ◌*◌, ◌/◌, ◌%◌, ◌≤◌, ◌<◌, ◌≡◌, ◌≢◌, ◌⊎◌, List, length}
use Rattle.std.proofs.Math.Logic.{ite}
use Rattle.std.proofs.Math.Logic.Dec
use Rattle.std.proofs.Math.Decide.{ℕ_discrete, dec_le, dec_lt}
use Rattle.paper.specs.Limits.{Limits, at}
use Rattle.paper.specs.Told.{Told, refused, passes}
use Rattle.paper.specs.First.{first}
use Rattle.paper.specs.Tests.{dec_or}
use Rattle.tree.specs.Tree.{leaf_mark}

-- the length is odd, 0 or over two numbers for each of the most nodes
abbrev pub BadLength : Limits → List ℕ → Type 0
BadLength L xs = (length xs % 2 ≡ 1) ⊎ ((length xs ≡ 0) ⊎ (2 * L.nodes < length xs))

-- node i is a leaf whose symbol is out of range, or a join with a child that is not earlier
abbrev pub BadNode : ℕ → List ℕ → ℕ → Type 0
BadNode symbols xs i =
    ((at xs (2 * i + 1) ≡ leaf_mark) × (symbols ≤ at xs (2 * i)))
    ⊎ ((at xs (2 * i + 1) ≢ leaf_mark) × ((i ≤ at xs (2 * i)) ⊎ (i ≤ at xs (2 * i + 1))))

unfoldable pub bad_length? : (L : Limits) (xs : List ℕ) → Dec (BadLength L xs)
bad_length? L xs = dec_or (ℕ_discrete _ _) (dec_or (ℕ_discrete _ _) (dec_lt _ _))

unfoldable pub bad_node? : (symbols : ℕ) (xs : List ℕ) (i : ℕ) → Dec (BadNode symbols xs i)
bad_node? symbols xs i =
    dec_or (Dec.and (ℕ_discrete _ _) (dec_le _ _)) (Dec.and (Dec.not (ℕ_discrete _ _)) (dec_or (dec_le _ _) (dec_le _ _)))

-- the number that is wrong with node i, or 0
unfoldable pub node_fault : ℕ → List ℕ → ℕ → ℕ
node_fault symbols xs i = ite (bad_node? symbols xs i) 12 0

-- what the check of a tree tells: its length, then its first faulty node, counted from 1
unfoldable pub tree_checked : Limits → ℕ → List ℕ → Told
tree_checked L symbols xs = ite (bad_length? L xs) (refused 12 0 0) (first (node_fault symbols xs) (length xs / 2) passes)

-- refusal 12, as "given exactly if": number, side and place (`refused_exactly` of proofs/Exact says that the check tells exactly these)
pub data TreeRefused (L : Limits) (symbols : ℕ) (xs : List ℕ) : ℕ → ℕ → ℕ → Type 0 where
  bad_length : BadLength L xs → TreeRefused L symbols xs 12 0 0
  bad_node_of : {i : ℕ} → ¬ BadLength L xs → i < length xs / 2 → BadNode symbols xs i → ((j : ℕ) → j < i → ¬ BadNode symbols xs j)
      → TreeRefused L symbols xs 12 0 (i + 1)

-- a tree without a fault
pub record Sound (L : Limits) (symbols : ℕ) (xs : List ℕ) : Type 0 where
  pub length_good_of : ¬ BadLength L xs
  pub nodes_good : (i : ℕ) → i < length xs / 2 → ¬ BadNode symbols xs i
