-- The inclusion test of two tables, the sender's and the receiver's, with a lent witness slice: its refusals, each as "given exactly if",
-- and its two answers. "Included" is said exactly if every tree that the sender accepts the receiver accepts; otherwise the slice holds a
-- tree that the sender accepts and the receiver rejects.
use Rattle.std.specs.Prelude.{ℕ, ◌+◌, ◌*◌, ◌≤◌, ◌<◌, ◌≡◌, ◌≢◌, ◌⊎◌, List, length, take, drop, Option, Some, None, Result, Ok, Err}
use Rattle.paper.specs.Limits.{Limits, at}
use Rattle.paper.specs.Told.{Told, refused, included, witness, refusal}
use Rattle.tree.specs.Tree.{Tree, leaf_mark, tree_of}
use Rattle.tree.specs.Nodes as nodes
use Rattle.table.specs.Rules.{RulesOf, Accepts}
use Rattle.table.specs.Check.{TableRefused, Sound}
use Rattle.receiver.specs.Receiver.{Receives}
use Rattle.receiver.specs.Check.{ReceiverRefused}
use Rattle.paper.specs.declared.Refusal.{Refusal}

-- a table as it is lent
pub record Lent : Type 0 where
  pub symbols : ℕ
  pub marks : List ℕ
  pub rules : List ℕ

abbrev pub lent : ℕ → List ℕ → List ℕ → Lent
lent symbols ms xs = record { symbols = symbols; marks = ms; rules = xs }

-- the table accepts the tree
abbrev pub AcceptedBy : Limits → Lent → Tree → Type 0
AcceptedBy L T t = Accepts (RulesOf L.width T.rules) T.marks t

-- every tree that the sender A accepts the receiver B accepts
abbrev pub Includes : Limits → Lent → Lent → Type 0
Includes L A B = (t : Tree) → AcceptedBy L A t → AcceptedBy L B t

-- a table without a fault, and a receiver's table that is also deterministic and factorized
abbrev pub Good : Limits → Lent → Type 0
Good L T = Sound L T.symbols T.marks T.rules

abbrev pub GoodReceiver : Limits → Lent → Type 0
GoodReceiver L T = Good L T × Receives L T.marks T.rules

-- the most nodes of a witness: sender states × (receiver states + 1)
abbrev pub most_nodes : Lent → Lent → ℕ
most_nodes A B = length A.marks * (length B.marks + 1)

-- the refusals of the inclusion test, the witness slice having so many numbers: number, side and place
pub data IncludeRefused (L : Limits) (A B : Lent) (room : ℕ) : ℕ → ℕ → ℕ → Type 0 where
  of_sender : {n s p : ℕ} → TableRefused L A.symbols A.marks A.rules n s p → IncludeRefused L A B room n 1 p
  of_receiver : {n s p : ℕ} → Good L A → ReceiverRefused L B.symbols B.marks B.rules n s p → IncludeRefused L A B room n 2 p
  symbol_counts : Good L A → GoodReceiver L B → A.symbols ≢ B.symbols → IncludeRefused L A B room 10 0 0
  no_room : Good L A → GoodReceiver L B → A.symbols ≡ B.symbols → room < 2 * most_nodes A B → IncludeRefused L A B room 11 0 0

-- nothing is refused
pub record Comparable (L : Limits) (A B : Lent) (room : ℕ) : Type 0 where
  pub sender : Good L A
  pub receiver : GoodReceiver L B
  pub symbols : A.symbols ≡ B.symbols
  pub enough : 2 * most_nodes A B ≤ room

-- node u of a node list is a join, later than node v, and v is one of its children
abbrev pub ChildOf : List ℕ → ℕ → ℕ → Type 0
ChildOf ws v u = (v < u) × ((at ws (2 * u + 1) ≢ leaf_mark) × ((at ws (2 * u) ≡ v) ⊎ (at ws (2 * u + 1) ≡ v)))

-- the witness slice ws is then ws': k nodes at its front are a tree that the sender accepts and the receiver rejects
pub record Witnessed (L : Limits) (A B : Lent) (ws ws' : List ℕ) (k : ℕ) : Type 0 where
  pub few : k ≤ most_nodes A B
  pub inside : 2 * k ≤ length ws'
  pub size : length ws' ≡ length ws
  pub rest : drop (2 * k) ws' ≡ drop (2 * k) ws
  pub tree : nodes.Sound L A.symbols (take (2 * k) ws')
  pub children : (v : ℕ) → v + 1 < k → (u : ℕ) × (u < k) × ChildOf (take (2 * k) ws') v u
  pub accepted : AcceptedBy L A (tree_of (take (2 * k) ws'))
  pub rejected : ¬ AcceptedBy L B (tree_of (take (2 * k) ws'))

-- what is told, and what the lent witness slice ws then holds, ws'
pub data Answered (L : Limits) (A B : Lent) (ws ws' : List ℕ) : Told → Type 0 where
  is_refused : {n s p : ℕ} → IncludeRefused L A B (length ws) n s p → ws' ≡ ws → Answered L A B ws ws' (refused n s p)
  is_included : Comparable L A B (length ws) → Includes L A B → ws' ≡ ws → Answered L A B ws ws' included
  is_witness : {k : ℕ} → Comparable L A B (length ws) → Witnessed L A B ws ws' k → Answered L A B ws ws' (witness k)

-- an answer, the nodes of a witness if there is one, and what it tells
abbrev pub Answer : Type 0
Answer = Result (Option ℕ) Refusal

abbrev pub told : Answer → Told
told (Ok None) = included
told (Ok (Some k)) = witness k
told (Err r) = refusal r
