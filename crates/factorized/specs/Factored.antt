-- The check of a receiver's table that hands out the numbers of its states: what it tells, and what the lent slice then holds.
use Rattle.std.specs.Prelude.{ℕ, ◌≤◌, ◌<◌, ◌≡◌, true, List, length, drop}
use Rattle.paper.specs.Limits.{Limits}
use Rattle.paper.specs.Told.{Told, passes, is_refusal}
use Rattle.receiver.specs.Check.{ReceiverChecked}
use Rattle.receiver.specs.Numbers.{NumbersOf, numbers_size}

-- t is told, and the lent slice os is then os': the numbers stand at its front where the table passes and the slice has room for them;
-- it is unchanged behind them, and all of it where the table is refused or there is no room
pub record Factored (L : Limits) (symbols : ℕ) (ms xs os os' : List ℕ) (t : Told) : Type 0 where
  pub checked : ReceiverChecked L symbols ms xs t
  pub numbers : t ≡ passes → numbers_size (length ms) ≤ length os → NumbersOf L ms xs os'
  pub size : length os' ≡ length os
  pub rest : drop (numbers_size (length ms)) os' ≡ drop (numbers_size (length ms)) os
  pub refusal : is_refusal t ≡ true → os' ≡ os
  pub short : length os < numbers_size (length ms) → os' ≡ os
