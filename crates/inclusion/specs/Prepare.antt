-- How the work memory is laid out and what stands in it before the search.
use Rattle.std.specs.Prelude.{ℕ, ◌+◌, ◌*◌, ◌≤◌, ◌≡◌, List, length}
use Rattle.paper.specs.Limits.{limits, at}
use Rattle.joins.specs.Index.{index_size}
use Rattle.receiver.specs.Numbers.{NumbersOf, numbers_size}
use Rattle.pairs.specs.declared.Sizes.{Sizes}

-- the parts of the work memory: the numbers of the receiver's states, the index of its join rules, then what is kept of the pairs
pub record Laid (senders receivers rules : ℕ) (z : Sizes) : Type 0 where
  pub states : z.receivers ≡ receivers
  pub pairs : z.pairs ≡ senders * (receivers + 1)
  pub index : z.index ≡ numbers_size receivers
  pub base : z.base ≡ z.index + index_size rules receivers

-- so many numbers has the work memory: enough for every two tables
abbrev pub work_size_of : ℕ
work_size_of = numbers_size limits.states + index_size limits.rules limits.states + 4 * (limits.states * (limits.states + 1))

-- the numbers of the receiver's states stand first in the work memory, and behind them zeros
pub record Prepared (mB xB ws : List ℕ) : Type 0 where
  pub size : length ws ≡ work_size_of
  pub numbers : NumbersOf limits mB xB ws
  pub clear : (i : ℕ) → numbers_size (length mB) ≤ i → at ws i ≡ 0
