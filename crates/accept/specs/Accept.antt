-- Acceptance of a tree by a table: what the answer tells, on every table and every node list.
use Rattle.std.specs.Prelude.{ℕ, ◌≡◌, Bool, true, false, List, Result, Ok, Err}
use Rattle.paper.specs.Limits.{Limits}
use Rattle.paper.specs.Told.{Told, refused, passes, accepted, rejected, refusal}
use Rattle.paper.specs.declared.Refusal.{Refusal}
use Rattle.tree.specs.Tree.{tree_of}
use Rattle.tree.specs.Nodes.{tree_checked}
use Rattle.table.specs.Rules.{RulesOf, Accepts}
use Rattle.table.specs.Check.{table_checked}

-- the table accepts the tree of the node list
abbrev pub AcceptsNodes : Limits → List ℕ → List ℕ → List ℕ → Type 0
AcceptsNodes L ms xs ns = Accepts (RulesOf L.width xs) ms (tree_of ns)

-- the table's refusals come first, then the tree's; otherwise the tree is accepted exactly if it has a final state
pub data Judged (L : Limits) (symbols : ℕ) (ms xs ns : List ℕ) : Told → Type 0 where
  bad_table : {n s p : ℕ} → table_checked L symbols ms xs ≡ refused n s p → Judged L symbols ms xs ns (refused n s p)
  bad_tree : {n s p : ℕ} → table_checked L symbols ms xs ≡ passes → tree_checked L symbols ns ≡ refused n s p
      → Judged L symbols ms xs ns (refused n s p)
  is_accepted : table_checked L symbols ms xs ≡ passes → tree_checked L symbols ns ≡ passes
      → AcceptsNodes L ms xs ns → Judged L symbols ms xs ns accepted
  is_rejected : table_checked L symbols ms xs ≡ passes → tree_checked L symbols ns ≡ passes
      → ¬ AcceptsNodes L ms xs ns → Judged L symbols ms xs ns rejected

-- what is answered, and what that tells
abbrev pub Answer : Type 0
Answer = Result Bool Refusal

abbrev pub told : Answer → Told
told (Ok true) = accepted
told (Ok false) = rejected
told (Err r) = refusal r
