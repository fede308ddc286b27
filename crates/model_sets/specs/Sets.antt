-- The sets of one model as flags in lent slices: what each place bears, at which positions a word may end, and which place can come next
-- at which position, in rows of one stride.
use Rattle.std.specs.Prelude.{ℕ, ◌+◌, ◌*◌, ◌≤◌, ◌<◌, ◌≡◌, Bool, true, false, cond, ◌&&◌, List, ◌++◌, length, drop, ltb, leb, Some, None}
use Rattle.std.specs.Prelude as std
use Rattle.std.proofs.Math.Logic.{ite}
use Rattle.std.proofs.Math.Logic.Dec
use Rattle.std.proofs.Math.Option.{Option, none, some}
use Rattle.std.proofs.Math.Decide.{dec_le, dec_lt}
use Rattle.paper.specs.Limits.{Limits, at}
use Rattle.model.specs.Model.{Model, symbols, places}
use Rattle.model.specs.Sets.{comes, ends}
use Rattle.postfix.specs.Field.{model_in}

-- a flag
unfoldable pub flag : Bool → ℕ
flag true = 1
flag false = 0

-- slices of b, e and n numbers have room for p places, whose rows of next places are one stride apart
abbrev pub Room : ℕ → ℕ → ℕ → ℕ → ℕ → Type 0
Room stride p b e n = (p ≤ stride) × ((p ≤ b) × ((p < e) × (p * stride + p ≤ n)))

unfoldable pub room? : (stride p b e n : ℕ) → Dec (Room stride p b e n)
room? stride p b e n = Dec.and (dec_le _ _) (Dec.and (dec_le _ _) (Dec.and (dec_lt _ _) (dec_le _ _)))

-- the number of places of a model for which there is room
unfoldable pub answer_of : ℕ → Option Model → ℕ → ℕ → ℕ → std.Option ℕ
answer_of stride none b e n = None
answer_of stride (some m) b e n = ite (room? stride (places m) b e n) (Some (places m)) None

-- the sets of m stand at the fronts of B', E' and N', which else are as B, E and N
pub record Holds (stride : ℕ) (m : Model) (B E N B' E' N' : List ℕ) : Type 0 where
  pub bearing : B' ≡ symbols m ++ drop (places m) B
  pub ends_length : length E' ≡ length E
  pub ending : (i : ℕ) → at E' i ≡ cond (leb i (places m)) (flag (ends m i)) (at E i)
  pub next_length : length N' ≡ length N
  pub coming : (i y : ℕ) → y < stride
      → at N' (i * stride + y) ≡ cond (leb i (places m) && ltb y (places m)) (flag (comes m i y)) (at N (i * stride + y))

-- what is answered of a field over n symbols, and what the slices then hold: the sets of its model; or nothing is changed
pub record Fills (L : Limits) (n : ℕ) (f B E N : List ℕ) (r : std.Option ℕ) (B' E' N' : List ℕ) : Type 0 where
  pub answer : r ≡ answer_of L.states (model_in L n f) (length B) (length E) (length N)
  pub filled : {m : Model} {k : ℕ} → model_in L n f ≡ some m → r ≡ Some k → Holds L.states m B E N B' E' N'
  pub unfit : r ≡ None → (B' ≡ B) × ((E' ≡ E) × (N' ≡ N))
