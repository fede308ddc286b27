-- The state of the search for pairs (sender's state p, receiver's base state q, or n for none): which are found, the queue of them, and how
-- each was found. S are the sender's rules, B the receiver's.
use Rattle.std.specs.Prelude.{ℕ, ◌+◌, ◌*◌, ◌≤◌, ◌<◌, ◌≡◌, ◌⊎◌, List, length}
use Rattle.paper.specs.Limits.{at}
use Rattle.tree.specs.Tree.{leaf_mark}
use Rattle.table.specs.Rules.{Rule, leaf_rule, join_rule, eps_rule}
use Rattle.product.specs.Moves.{LeafTo, JoinTo}
use Rattle.pairs.specs.Memory.{Memory, Marked, Taken, putting, zeros}

-- the number of a pair
abbrev pub code : ℕ → ℕ → ℕ → ℕ
code n p q = p * (n + 1) + q

-- the second number of a pair that was found by an ε rule; the numbers of pairs are lower
abbrev pub eps_mark : ℕ
eps_mark = 65534

-- ys begins with the first k numbers of xs
abbrev pub Keeps : List ℕ → List ℕ → ℕ → Type 0
Keeps xs ys k = (j : ℕ) → j < k → at ys j ≡ at xs j

-- the two numbers a b beside the pair (p, q) at place j of the queue say how it was found: by a leaf rule of the symbol a,
pub record FromLeaf (S B : Rule → Type 0) (n a b p q : ℕ) : Type 0 where
  pub mark : b ≡ leaf_mark
  pub rule : S (leaf_rule a p)
  pub base : LeafTo B n a q

-- by an ε rule from the pair a, which stands earlier,
pub record FromEps (S : Rule → Type 0) (n : ℕ) (queue : List ℕ) (j a b p q : ℕ) : Type 0 where
  pub mark : b ≡ eps_mark
  pub place : ℕ
  pub earlier : place < j
  pub there : at queue place ≡ a
  pub state : ℕ
  pub pair : a ≡ code n state q
  pub rule : S (eps_rule state p)

-- or by a join rule from the pairs a and b, which stand earlier
pub record FromJoin (S B : Rule → Type 0) (n : ℕ) (queue : List ℕ) (j a b p q : ℕ) : Type 0 where
  pub mark : b < eps_mark
  pub place : ℕ
  pub earlier : place < j
  pub there : at queue place ≡ a
  pub place2 : ℕ
  pub earlier2 : place2 < j
  pub there2 : at queue place2 ≡ b
  pub left : ℕ
  pub x : ℕ
  pub x_small : x ≤ n
  pub pair : a ≡ code n left x
  pub right : ℕ
  pub y : ℕ
  pub y_small : y ≤ n
  pub pair2 : b ≡ code n right y
  pub rule : S (join_rule left right p)
  pub base : JoinTo B n x y q

abbrev pub Origin : (Rule → Type 0) → (Rule → Type 0) → ℕ → List ℕ → ℕ → ℕ → ℕ → ℕ → ℕ → Type 0
Origin S B n queue j a b p q = FromLeaf S B n a b p q ⊎ (FromEps S n queue j a b p q ⊎ FromJoin S B n queue j a b p q)

-- the queue holds each of the k pairs found once, of N in all
pub record Queued (N : ℕ) (m : Memory) (k : ℕ) : Type 0 where
  pub found_size : length m.found ≡ N
  pub queue_size : length m.queue ≡ N
  pub lefts_size : length m.lefts ≡ N
  pub rights_size : length m.rights ≡ N
  pub count : zeros m.found + k ≡ N
  pub listed : (j : ℕ) → j < k → Marked m.found (at m.queue j)
  pub marked : (c : ℕ) → Marked m.found c → (j : ℕ) × (j < k) × (at m.queue j ≡ c)
  pub distinct : (i j : ℕ) → i < k → j < k → at m.queue i ≡ at m.queue j → i ≡ j

-- and each was found by a rule, from pairs that stand earlier
pub record State (S B : Rule → Type 0) (n N : ℕ) (m : Memory) (k : ℕ) : Type 0 where
  pub queued : Queued N m k
  pub origin : (j p q : ℕ) → j < k → q ≤ n → at m.queue j ≡ code n p q
      → Origin S B n m.queue j (at m.lefts (code n p q)) (at m.rights (code n p q)) p q

-- the pair c, with the numbers a and b, is put at the end of the queue, unless it is there
abbrev pub Put : Memory → ℕ → ℕ → ℕ → ℕ → Memory → ℕ → Type 0
Put m k c a b m' k' =
    ((Marked m.found c) × ((m' ≡ m) × (k' ≡ k)))
    ⊎ ((at m.found c ≡ 0) × ((m' ≡ putting m k c a b) × (k' ≡ k + 1)))

-- the search went on, by rules of S and B, from k pairs found to k', and took no pair
pub record Grew (S B : Rule → Type 0) (n N : ℕ) (m : Memory) (k : ℕ) (m' : Memory) (k' : ℕ) : Type 0 where
  pub queued : Queued N m' k'
  pub more : k ≤ k'
  pub size : m'.size ≡ m.size
  pub fixed : m'.fixed ≡ m.fixed
  pub kept : (c : ℕ) → Marked m.found c → at m'.found c ≡ at m.found c
  pub taken : (c : ℕ) → Taken m'.found c → Taken m.found c
  pub queue_kept : Keeps m.queue m'.queue k
  pub lefts_kept : (c : ℕ) → Marked m.found c → at m'.lefts c ≡ at m.lefts c
  pub rights_kept : (c : ℕ) → Marked m.found c → at m'.rights c ≡ at m.rights c
  -- each pair that was added was found by a rule, from pairs that stand earlier
  pub origin : (j p q : ℕ) → k ≤ j → j < k' → q ≤ n → at m'.queue j ≡ code n p q
      → Origin S B n m'.queue j (at m'.lefts (code n p q)) (at m'.rights (code n p q)) p q
  -- a pair that was added as a join has parts that were taken
  pub parts : (j : ℕ) → k ≤ j → j < k' → at m'.rights (at m'.queue j) < eps_mark
      → Taken m.found (at m'.lefts (at m'.queue j)) × Taken m.found (at m'.rights (at m'.queue j))
