-- A text written to a lent slice that must have a least size: 1 if it is shorter, and then it is unchanged.
use Rattle.std.specs.Prelude.{ℕ, ◌≡◌, List, length}
use Rattle.std.proofs.Math.Logic.{ite}
use Rattle.std.proofs.Math.Decide.{dec_lt}
use Rattle.paper.specs.Told.{Told, refused, written, filled}

-- what is told by a function that writes bs to the slice O of which it asks so many bytes
unfoldable pub writing_told : ℕ → List ℕ → List ℕ → Told
writing_told size bs O = ite (dec_lt (length O) size) (refused 1 0 0) (written (length bs))

-- what is told, t, and what the slice then holds, O'
pub record WritesText (size : ℕ) (bs O : List ℕ) (t : Told) (O' : List ℕ) : Type 0 where
  pub answer : t ≡ writing_told size bs O
  pub text : O' ≡ filled (writing_told size bs O) bs O
