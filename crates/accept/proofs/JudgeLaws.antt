-- A table and a tree that pass their checks can be evaluated, and the answer is the only one. Assumes nothing.
use Prim.Native.Nat.{ℕ, ◌+◌, ◌*◌, ◌≤◌, ◌<◌}
use mathlib.Core.Path.{◌≡◌, refl, sym, ap, ◌∙◌}
use mathlib.Core.Logic.{inl, inr, by_cases}
use mathlib.Core.List.{List}
use native.Mathlib.Decide.{ℕ_discrete, dec_lt, dec_le}
use native.Mathlib.Omega.{arith}
use lib.ListN.{length}
use Rattle.std.specs.Prelude.{Bool, true, false, Ok, Err}
use Rattle.paper.specs.Limits.{Limits, limits, at}
use Rattle.paper.specs.Told.{Told, Tells, passes}
use Rattle.paper.proofs.ToldLaws.{refused_not_passes, refusal_unique}
use Rattle.tree.specs.Nodes.{tree_checked}
use Rattle.tree.specs.Nodes as tree
use Rattle.tree.proofs.Exact as tree-exact
use Rattle.table.specs.Check.{table_checked}
use Rattle.table.specs.Check as table
use Rattle.table.proofs.Range.{states_few, third_zero, to_below, from_below, right_below}
use Rattle.table.proofs.Exact as table-exact
use Rattle.accept.specs.Work.{StatesBelow, Earlier, Judgeable}
use Rattle.accept.specs.Accept.{AcceptsNodes, Judged, bad_table, bad_tree, is_accepted, is_rejected, Answer, told}

-- what a sound table and a sound tree say of their numbers
module _ (L : Limits) (symbols : ℕ) where
  module _ (ms xs : List ℕ) (positive : 0 < L.width) (sound : table.Sound L symbols ms xs) where
    pub states_below : StatesBelow L.width xs (length ms)
    states_below = record {
      third = third_zero L positive sound;
      to = to_below L positive sound;
      joins = λ k h e. (from_below L positive sound k h (λ z. omega arith), right_below L positive sound k h e);
      epsilons = λ k h e. from_below L positive sound k h (λ z. omega arith);
    }

  module _ (ns : List ℕ) (sound : tree.Sound L symbols ns) where
    pub nodes_few : length ns ≤ 2 * L.nodes
    nodes_few = by_cases (dec_le (length ns) (2 * L.nodes)) (λ h. h) (λ h. absurd (sound.length_good_of (inr (inr (omega arith)))))

    pub nodes_some : 2 ≤ length ns
    nodes_some = by_cases (dec_le 2 (length ns)) (λ h. h) (λ h. by_cases (ℕ_discrete (length ns) 0)
        (λ e. absurd (sound.length_good_of (inr (inl e))))
        (λ e. absurd (sound.length_good_of (inl (omega arith)))))

    pub nodes_earlier : (i : ℕ) → 2 * i + 2 ≤ length ns → Earlier ns i
    nodes_earlier i h d = (
      by_cases (dec_lt (at ns (2 * i)) i) (λ l. l) (λ l. absurd (sound.nodes_good i (omega arith) (inr (d, inl (omega arith))))),
      by_cases (dec_lt (at ns (2 * i + 1)) i) (λ l. l) (λ l. absurd (sound.nodes_good i (omega arith) (inr (d, inr (omega arith))))),
    )

states_wider : {w n m : ℕ} {xs : List ℕ} → n ≤ m → StatesBelow w xs n → StatesBelow w xs m
states_wider l s = record {
  third = s.third;
  to = λ k h. let a = s.to k h in omega arith;
  joins = λ k h e. let (a, c) = s.joins k h e in (omega arith, omega arith);
  epsilons = λ k h e. let a = s.epsilons k h e in omega arith;
}

pub decidable_of : (symbols : ℕ) (ms xs ns : List ℕ) → table_checked limits symbols ms xs ≡ passes → tree_checked limits symbols ns ≡ passes
    → Judgeable ms xs ns
decidable_of symbols ms xs ns t u =
    let a = (table-exact.passes_exactly limits symbols ms xs).0 t in
    let b = (tree-exact.passes_exactly limits symbols ns).0 u in
    let few = states_few limits a in
    record {
      can = record {
        states = states_wider (omega arith) (states_below limits symbols ms xs (omega arith) a);
        few = nodes_few limits symbols ns b;
        earlier = nodes_earlier limits symbols ns b;
      };
      marks = omega arith;
      some = nodes_some limits symbols ns b;
    }

module _ {L : Limits} {symbols : ℕ} {ms xs ns : List ℕ} where
  -- a table and a tree are judged in one way
  pub judged_unique : {a b : Told} → Judged L symbols ms xs ns a → Judged L symbols ms xs ns b → a ≡ b
  judged_unique (bad_table x) (bad_table y) = sym x ∙ y
  judged_unique (bad_table x) (bad_tree t _) = absurd (refused_not_passes (sym x ∙ t))
  judged_unique (bad_table x) (is_accepted t _ _) = absurd (refused_not_passes (sym x ∙ t))
  judged_unique (bad_table x) (is_rejected t _ _) = absurd (refused_not_passes (sym x ∙ t))
  judged_unique (bad_tree t _) (bad_table y) = absurd (refused_not_passes (sym y ∙ t))
  judged_unique (bad_tree _ x) (bad_tree _ y) = sym x ∙ y
  judged_unique (bad_tree _ x) (is_accepted _ u _) = absurd (refused_not_passes (sym x ∙ u))
  judged_unique (bad_tree _ x) (is_rejected _ u _) = absurd (refused_not_passes (sym x ∙ u))
  judged_unique (is_accepted t _ _) (bad_table y) = absurd (refused_not_passes (sym y ∙ t))
  judged_unique (is_accepted _ u _) (bad_tree _ y) = absurd (refused_not_passes (sym y ∙ u))
  judged_unique (is_accepted _ _ h) (is_accepted _ _ k) = refl
  judged_unique (is_accepted _ _ h) (is_rejected _ _ k) = absurd (k h)
  judged_unique (is_rejected t _ _) (bad_table y) = absurd (refused_not_passes (sym y ∙ t))
  judged_unique (is_rejected _ u _) (bad_tree _ y) = absurd (refused_not_passes (sym y ∙ u))
  judged_unique (is_rejected _ _ h) (is_accepted _ _ k) = absurd (h k)
  judged_unique (is_rejected _ _ h) (is_rejected _ _ k) = refl

-- the answer is the only one that tells what is told
pub told_unique : (a b : Answer) → told a ≡ told b → a ≡ b
told_unique (Ok true) (Ok true) e = refl
told_unique (Ok true) (Ok false) e = cc
told_unique (Ok true) (Err s) e = cc
told_unique (Ok false) (Ok true) e = cc
told_unique (Ok false) (Ok false) e = refl
told_unique (Ok false) (Err s) e = cc
told_unique (Err r) (Ok true) e = cc
told_unique (Err r) (Ok false) e = cc
told_unique (Err r) (Err s) e = ap Err (refusal_unique r s e)

-- two answers that the contract of `accept` allows are equal
pub accept_unique : (L : Limits) (symbols : ℕ) (ms xs ns : List ℕ) (a b : Answer)
    → Judged L symbols ms xs ns (told a) → Judged L symbols ms xs ns (told b) → a ≡ b
accept_unique L symbols ms xs ns a b x y = told_unique a b (judged_unique x y)

-- what a test of acceptance tells, where nothing is refused
pub judged_told : {L : Limits} {symbols : ℕ} {ms xs ns : List ℕ} (b : Bool) → table_checked L symbols ms xs ≡ passes
    → tree_checked L symbols ns ≡ passes → Tells b (AcceptsNodes L ms xs ns) → Judged L symbols ms xs ns (told (Ok b))
judged_told true t u a = is_accepted t u (a.yes refl)
judged_told false t u a = is_rejected t u (a.no refl)
