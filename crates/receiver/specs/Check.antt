-- The check of a receiver's table: the table's own refusals, then 7 and 8 at their first rule, then 9 at its lowest state.
use Rattle.std.specs.Prelude.{ℕ, ◌+◌, ◌/◌, List, length}
use Rattle.paper.specs.Limits.{Limits}
use Rattle.paper.specs.Told.{Told, refused, passes}
use Rattle.paper.specs.First.{FirstWrong, NoneWrong}
use Rattle.table.specs.Check.{TableRefused, Sound}
use Rattle.receiver.specs.Receiver.{LeftSideAgain, BreaksSorts, NotSingle, Receives}

-- the refusals of a receiver's table, as "given exactly if": number, side and place
pub data ReceiverRefused (L : Limits) (symbols : ℕ) (ms xs : List ℕ) : ℕ → ℕ → ℕ → Type 0 where
  of_table_of : {n s p : ℕ} → TableRefused L symbols ms xs n s p → ReceiverRefused L symbols ms xs n s p
  left_side : {i : ℕ} → Sound L symbols ms xs → FirstWrong (LeftSideAgain L xs) (length xs / L.width) i
      → ReceiverRefused L symbols ms xs 7 0 (i + 1)
  sorts : {i : ℕ} → Sound L symbols ms xs → NoneWrong (LeftSideAgain L xs) (length xs / L.width)
      → FirstWrong (BreaksSorts L ms xs) (length xs / L.width) i → ReceiverRefused L symbols ms xs 8 0 (i + 1)
  reaches : {p : ℕ} → Sound L symbols ms xs → NoneWrong (LeftSideAgain L xs) (length xs / L.width)
      → NoneWrong (BreaksSorts L ms xs) (length xs / L.width) → FirstWrong (NotSingle L ms xs) (length ms) p
      → ReceiverRefused L symbols ms xs 9 0 (p + 1)

-- what the check of a receiver's table tells: a refusal, or that the table has no fault and is deterministic and factorized
pub data ReceiverChecked (L : Limits) (symbols : ℕ) (ms xs : List ℕ) : Told → Type 0 where
  is_refused : {n s p : ℕ} → ReceiverRefused L symbols ms xs n s p → ReceiverChecked L symbols ms xs (refused n s p)
  is_passed : Sound L symbols ms xs → Receives L ms xs → ReceiverChecked L symbols ms xs passes
