-- What is kept of the states while a table is built: by state number, in four slices of one stride.
use Rattle.std.specs.Prelude.{ℕ, zero, suc, ◌+◌, ◌*◌, ◌<◌, ◌≡◌, List, length}
use Rattle.paper.specs.Limits.{at}
use Rattle.model.specs.Model.{bears}
use Rattle.model_sets.specs.Sets.{flag}
use Rattle.compiled.specs.States.{State, element, inside, the_state_at, may_end, goes_on_of}

-- what bears no symbol, or belongs to none, has this number in its place
abbrev pub no_symbol_of : ℕ
no_symbol_of = 65535

-- the symbol that a state bears, if it is a place, and the symbol in whose model it is
unfoldable pub borne : State → ℕ
borne (element a) = no_symbol_of
borne (inside a m zero) = no_symbol_of
borne (inside a m (suc y)) = bears m y

unfoldable pub belongs_to : State → ℕ
belongs_to (element a) = no_symbol_of
belongs_to (inside a m i) = a

-- three slices have one number a state, and the fourth a row of so many numbers for each state
pub record Long (stride : ℕ) (B O E N : List ℕ) : Type 0 where
  pub bears : length B ≡ stride
  pub owners : length O ≡ stride
  pub ends : length E ≡ stride
  pub next : length N ≡ stride * stride

-- they hold what is known of the states S
pub record Kept (stride : ℕ) (S : List State) (B O E N : List ℕ) : Type 0 where
  pub long : Long stride B O E N
  pub bearing : (q : ℕ) → q < stride → at B q ≡ borne (the_state_at S q)
  pub owning : (q : ℕ) → q < stride → at O q ≡ belongs_to (the_state_at S q)
  pub ending : (q : ℕ) → q < stride → at E q ≡ flag (may_end (the_state_at S q))
  pub coming : (q y : ℕ) → q < stride → y < stride → at N (q * stride + y) ≡ flag (goes_on_of (the_state_at S q) (the_state_at S y))
