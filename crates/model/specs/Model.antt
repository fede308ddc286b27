-- A content model over words and operators alone; its words; its places told apart; what can come next; and ambiguity.
use Rattle.std.specs.Prelude.{ℕ, zero, suc, ◌+◌, List, [], ◌∷◌, ◌++◌, ◌≡◌, ◌≢◌, length}
use Rattle.paper.specs.Limits.{at}

-- a content model: a symbol; `e`, the empty word; `,` and `|` of two models; `*`, `?` and `+` of one
pub data Model : Type 0 where
  symbol : ℕ → Model
  empty : Model
  sequence choice : Model → Model → Model
  star maybe plus : Model → Model

-- the words of a model
pub data Word : Model → List ℕ → Type 0 where
  one : {a : ℕ} → Word (symbol a) (a ∷ [])
  nothing : Word empty []
  both : {l r : Model} {u v : List ℕ} → Word l u → Word r v → Word (sequence l r) (u ++ v)
  left : {l r : Model} {w : List ℕ} → Word l w → Word (choice l r) w
  right : {l r : Model} {w : List ℕ} → Word r w → Word (choice l r) w
  stop : {m : Model} → Word (star m) []
  more : {m : Model} {u v : List ℕ} → Word m u → Word (star m) v → Word (star m) (u ++ v)
  skip : {m : Model} → Word (maybe m) []
  take : {m : Model} {w : List ℕ} → Word m w → Word (maybe m) w
  some : {m : Model} {u v : List ℕ} → Word m u → Word (star m) v → Word (plus m) (u ++ v)

-- the symbols of a model as they stand, from the left: number y is the symbol that place y bears
abbrev pub symbols : Model → List ℕ
symbols (symbol a) = a ∷ []
symbols empty = []
symbols (sequence l r) = symbols l ++ symbols r
symbols (choice l r) = symbols l ++ symbols r
symbols (star m) = symbols m
symbols (maybe m) = symbols m
symbols (plus m) = symbols m

abbrev pub bears : Model → ℕ → ℕ
bears m y = at (symbols m) y

-- how many places a model has
abbrev pub places : Model → ℕ
places m = length (symbols m)

-- the model with its places, counted from `from`, in place of its symbols, so that no two are alike
abbrev pub mark : ℕ → Model → Model
mark from (symbol a) = symbol from
mark from empty = empty
mark from (sequence l r) = sequence (mark from l) (mark (from + length (symbols l)) r)
mark from (choice l r) = choice (mark from l) (mark (from + length (symbols l)) r)
mark from (star m) = star (mark from m)
mark from (maybe m) = maybe (mark from m)
mark from (plus m) = plus (mark from m)

abbrev pub marked : Model → Model
marked m = mark 0 m

-- after the beginning u, of places, the place y can come next: some word of places goes on so
abbrev pub CanCome : Model → List ℕ → ℕ → Type 0
CanCome m u y = (v : List ℕ) × Word (marked m) (u ++ (y ∷ v))

-- a model is ambiguous if after one beginning two places with one symbol can come next
pub record Ambiguous (m : Model) : Type 0 where
  pub begun : List ℕ
  pub x : ℕ
  pub y : ℕ
  pub two : x ≢ y
  pub alike : bears m x ≡ bears m y
  pub comes_x : CanCome m begun x
  pub comes_y : CanCome m begun y

-- positions in the words of a model: 0 is before the first place of a word, x + 1 is behind the place x
-- the place y can come next at a position
abbrev pub ComesNext : Model → ℕ → ℕ → Type 0
ComesNext m zero y = CanCome m [] y
ComesNext m (suc x) y = (u : List ℕ) × CanCome m (u ++ (x ∷ [])) y

-- a word may end at a position
abbrev pub MayEnd : Model → ℕ → Type 0
MayEnd m zero = Word (marked m) []
MayEnd m (suc x) = (u : List ℕ) × Word (marked m) (u ++ (x ∷ []))
