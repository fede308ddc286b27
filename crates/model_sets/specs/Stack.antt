-- What the scan keeps of the models on its stack: flags for all of their places at once, and for each model its first place and
-- whether it can be empty.
use Rattle.std.specs.Prelude.{ℕ, zero, suc, ◌+◌, ◌*◌, ◌≤◌, ◌<◌, ◌≡◌, Bool, false, cond, ◌&&◌, ◌||◌, List, [], ◌∷◌, ◌++◌, length, set, get_or, ltb, leb}
use Rattle.std.proofs.Math.Option.{some}
use Rattle.paper.specs.Limits.{Limits, at}
use Rattle.model.specs.Model.{Model, symbols, places, mark}
use Rattle.model.specs.Sets.{nullable, first, last, follow}
use Rattle.model.specs.Postfix.{push}
use Rattle.model.specs.declared.Token.{Token}
use Rattle.model.specs.declared.Token.TheVariants.{Symbol, Empty, Comma, Bar, Star, Query, Plus}
use Rattle.model_sets.specs.declared.Part.{Part}
use Rattle.model_sets.specs.declared.Stack.{Stack}
use Rattle.postfix.specs.Field.{model_in}
use Rattle.model_sets.specs.Sets.{flag, Room}

-- the symbols of a stack of models, whose top stands first and has the last places; and how many places they have
abbrev pub borne : List Model → List ℕ
borne [] = []
borne (m ∷ st) = borne st ++ symbols m

abbrev pub total : List Model → ℕ
total [] = 0
total (m ∷ st) = total st + length (symbols m)

abbrev pub firsts : List Model → ℕ → Bool
firsts [] y = false
firsts (m ∷ st) y = firsts st y || first (mark (total st) m) y

abbrev pub lasts : List Model → ℕ → Bool
lasts [] x = false
lasts (m ∷ st) x = lasts st x || last (mark (total st) m) x

abbrev pub follows : List Model → ℕ → ℕ → Bool
follows [] x y = false
follows (m ∷ st) x y = follows st x y || follow (mark (total st) m) x y

-- by position: a model of the stack may end there, and the place y can come next there
abbrev pub ending : List Model → ℕ → Bool
ending st zero = false
ending st (suc x) = lasts st x

abbrev pub coming : List Model → ℕ → ℕ → Bool
coming st zero y = firsts st y
coming st (suc x) y = follows st x y

-- flags at the positions of p places stand in E, which else is as E₀; flags of the next places at each stand in N
pub record Marks (p : ℕ) (E₀ : List ℕ) (g : ℕ → Bool) (E : List ℕ) : Type 0 where
  pub cell : (i : ℕ) → at E i ≡ cond (leb i p) (flag (g i)) (at E₀ i)

pub record Cells (s p : ℕ) (N₀ : List ℕ) (f : ℕ → ℕ → Bool) (N : List ℕ) : Type 0 where
  pub cell : (i y : ℕ) → y < s → at N (i * s + y) ≡ cond (leb i p && ltb y p) (flag (f i y)) (at N₀ (i * s + y))

-- what S holds of a model
abbrev pub part : List Part → ℕ → Part
part S i = get_or S i (record { start = 0; empty = false })

-- S holds the first places of the models and whether they can be empty, the top last
abbrev pub Kept : List Part → List Model → Type 0
Kept S [] = Unit {0}
Kept S (m ∷ st) = ((part S (length st)).start ≡ total st) × (((part S (length st)).empty ≡ nullable m) × Kept S st)

-- a stack of d models with n places is kept
pub record Shows (s p : ℕ) (E₀ N₀ : List ℕ) (st : List Model) (E N : List ℕ) (S : List Part) (d n : ℕ) : Type 0 where
  pub height : length st ≡ d
  pub count : total st ≡ n
  pub ends : Marks p E₀ (ending st) E
  pub next : Cells s p N₀ (coming st) N
  pub kept : Kept S st

-- there is room for what a token makes of a stack
pub record Fits (L : Limits) (t : Token) (p : ℕ) (E₀ N₀ : List ℕ) (st st' : List Model) (E N : List ℕ) (S : List Part) (d n : ℕ) : Type 0 where
  pub shows : Shows L.states p E₀ N₀ st E N S d n
  pub pushes : push t st ≡ some st'
  pub inside : total st' ≤ p
  pub narrow : p ≤ L.states
  pub ends : p < length E
  pub next : p * L.states + p ≤ length N
  pub models : d < length S

pub record Ready (L : Limits) (t : Token) (E N : List ℕ) (S : List Part) (d n : ℕ) : Type 0 where
  pub p : ℕ
  pub E₀ : List ℕ
  pub N₀ : List ℕ
  pub st : List Model
  pub st' : List Model
  pub fits : Fits L t p E₀ N₀ st st' E N S d n

-- whatever stack was kept, what the token makes of it is kept
pub record Steps (L : Limits) (t : Token) (E N : List ℕ) (S : List Part) (d n : ℕ)
    (E' N' : List ℕ) (S' : List Part) (d' n' : ℕ) : Type 0 where
  pub shows : {p : ℕ} {E₀ N₀ : List ℕ} {st st' : List Model} → Fits L t p E₀ N₀ st st' E N S d n
      → Shows L.states p E₀ N₀ st' E' N' S' d' n'

-- the same of a stack in memory, and of what it becomes
abbrev pub Begun : Limits → Token → Stack → Type 0
Begun L t z = Ready L t z.ends.now z.next.now z.models z.depth z.places

abbrev pub Stepped : Limits → Token → Stack → Stack → Type 0
Stepped L t z z' =
    Steps L t z.ends.now z.next.now z.models z.depth z.places z'.ends.now z'.next.now z'.models z'.depth z'.places

-- a stack is in the same memory as before
pub record Same (z z' : Stack) : Type 0 where
  pub ends : z'.ends.ghost_name ≡ z.ends.ghost_name
  pub next : z'.next.ghost_name ≡ z.next.ghost_name
  pub ends_length : length z'.ends.now ≡ length z.ends.now
  pub next_length : length z'.next.now ≡ length z.next.now
  pub models_length : length z'.models ≡ length z.models

-- all of a stack but the flags of the next places is as before
pub record Stays (z z' : Stack) : Type 0 where
  pub ends : z'.ends.now ≡ z.ends.now
  pub models : z'.models ≡ z.models
  pub depth : z'.depth ≡ z.depth
  pub places : z'.places ≡ z.places

-- what stands in B after a token behind n places
unfoldable pub bearing : Token → ℕ → List ℕ → List ℕ
bearing (Symbol a) n B = set B n a
bearing Empty n B = B
bearing Comma n B = B
bearing Bar n B = B
bearing Star n B = B
bearing Query n B = B
bearing Plus n B = B

-- the field f writes a model over n symbols, there is room for its sets, and no flag is set there
pub record Begins (L : Limits) (n : ℕ) (f B E N : List ℕ) : Type 0 where
  pub m : Model
  pub model : model_in L n f ≡ some m
  pub room : Room L.states (places m) (length B) (length E) (length N)
  pub ends : (i : ℕ) → i ≤ places m → at E i ≡ 0
  pub next : (i y : ℕ) → i ≤ places m → y < places m → at N (i * L.states + y) ≡ 0
