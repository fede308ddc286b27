-- What can be answered, in the paper's own numbering. Where the library may refuse, an answer is a result or a refusal;
-- `check_told` here, and `told` in the crate of each other one, says what it tells.
use Rattle.std.specs.Prelude.{ℕ, ◌≡◌, Bool, true, false, cond, List, ◌++◌, length, drop, ⊤, Result, Ok, Err}
use Rattle.paper.specs.declared.Refusal.{Refusal}

pub data Told : Type 0 where
  -- a numbered refusal: side is 1 for the sender, 2 for the receiver, 0 for neither; place counts from 1, 0 is the whole
  refused : (number side place : ℕ) → Told
  -- a table or a tree has no fault
  passes : Told
  -- a tree is accepted or rejected
  accepted : Told
  rejected : Told
  -- every tree that the sender accepts the receiver accepts; or a tree of so many nodes that it rejects is handed out
  included : Told
  witness : (nodes : ℕ) → Told
  -- a table stands at the front of the lent slices
  holds : (symbols states rules : ℕ) → Told
  -- a model text is well-formed: its symbols, its start and the states of its table
  sizes : (symbols start states : ℕ) → Told
  -- so many bytes stand at the front of the lent slice
  written : (bytes : ℕ) → Told

-- what a refusal tells
abbrev pub refusal : Refusal → Told
refusal r = refused r.number r.side r.place

-- what a check answers, and what that tells
abbrev pub Checked : Type 0
Checked = Result ⊤ Refusal

abbrev pub check_told : Checked → Told
check_told (Ok done) = passes
check_told (Err r) = refusal r

-- is it a refusal, and where
unfoldable pub is_refusal : Told → Bool
is_refusal (refused n s p) = true
is_refusal passes = false
is_refusal accepted = false
is_refusal rejected = false
is_refusal included = false
is_refusal (witness n) = false
is_refusal (holds y n r) = false
is_refusal (sizes y s n) = false
is_refusal (written n) = false

unfoldable pub place_of : Told → ℕ
place_of (refused n s p) = p
place_of passes = 0
place_of accepted = 0
place_of rejected = 0
place_of included = 0
place_of (witness n) = 0
place_of (holds y n r) = 0
place_of (sizes y s n) = 0
place_of (written n) = 0

-- the refusal of a check, or what follows a check that passes
unfoldable pub after : Told → Told → Told
after t z = cond (is_refusal t) t z

-- what an output slice holds after an answer: it is filled from its front and the rest is unchanged; a refusal leaves it as it was
unfoldable pub filled : Told → List ℕ → List ℕ → List ℕ
filled t xs o = cond (is_refusal t) o (xs ++ drop (length xs) o)

-- a test answers whether P holds
pub record Tells (answer : Bool) (P : Type 0) : Type 0 where
  pub yes : answer ≡ true → P
  pub no : answer ≡ false → ¬ P
