-- The inclusion test is right in both directions: a refusal is told exactly if its row of the paper says so, "included" exactly if nothing
-- is refused and every tree that the sender accepts the receiver accepts, and a witness otherwise. Of two answers that the contract
-- allows both are one, with the lent slice, unless both hand out a witness. Assumes nothing.
use Prim.Native.Nat.{ℕ, ◌*◌}
use mathlib.Core.Path.{◌≡◌, refl, sym, ap, ◌∙◌}
use mathlib.Core.Logic.{◌↔◌, ◌⊎◌, inl, inr, ⊎_elim}
use mathlib.Core.List.{List}
use native.Mathlib.Omega.{arith}
use lib.ListN.{length, take, get_or-eq_default}
use lib.Seq.{length-take-le}
use Rattle.paper.specs.Limits.{Limits}
use Rattle.paper.specs.Told.{Told, refused, included, witness}
use Rattle.paper.proofs.ToldLaws.{refused_not_passes, refused_as, refusal_unique}
use Rattle.tree.specs.Tree.{Tree}
use Rattle.table.specs.Check.{TableRefused}
use Rattle.table.proofs.Exact as table
use Rattle.receiver.specs.Check.{ReceiverRefused, is_refused, is_passed}
use Rattle.factorized.proofs.Exact.{receiver_unique}
use Rattle.inclusion.specs.Inclusion.{Lent, AcceptedBy, Includes, Good, GoodReceiver, Comparable, Witnessed, Answer, told}
use Rattle.inclusion.specs.Inclusion.{IncludeRefused, of_sender, of_receiver, symbol_counts, no_room}
use Rattle.inclusion.specs.Inclusion.{Answered}
use Rattle.inclusion.specs.Inclusion as answer
use Rattle.std.specs.Prelude.{Some, None, Ok, Err}

-- a refusal is told apart from the two answers, and these from each other
refused_not_included : {n s p : ℕ} → refused n s p ≡ included → ⊥
refused_not_included e = let z : ◌≡◌ {A = ℕ} 0 1 = cc in omega arith

refused_not_witness : {n s p k : ℕ} → refused n s p ≡ witness k → ⊥
refused_not_witness e = let z : ◌≡◌ {A = ℕ} 0 1 = cc in omega arith

included_not_witness : {k : ℕ} → included ≡ witness k → ⊥
included_not_witness e = let z : ◌≡◌ {A = ℕ} 0 1 = cc in omega arith

-- two refusals that are one are one with another side, too
with_side : (d : ℕ) {n s p n' s' p' : ℕ} → refused n s p ≡ refused n' s' p' → refused n d p ≡ refused n' d p'
with_side d {n' = n'} {p' = p'} e = refused_as (λ a b c. refused a d c ≡ refused n' d p') (sym e) refl

module _ (L : Limits) (A B : Lent) where
  sender_faulty : {n s p : ℕ} → TableRefused L A.symbols A.marks A.rules n s p → Good L A → ⊥
  sender_faulty {n} {s} {p} r g = refused_not_passes (
      sym ((table.refused_exactly L A.symbols A.marks A.rules n s p).1 r) ∙ (table.passes_exactly L A.symbols A.marks A.rules).1 g)

  receiver_faulty : {n s p : ℕ} → ReceiverRefused L B.symbols B.marks B.rules n s p → GoodReceiver L B → ⊥
  receiver_faulty r g = refused_not_passes (receiver_unique L B.symbols B.marks B.rules _ _ (is_refused r) (is_passed g.0 g.1))

  module _ (room : ℕ) where
    pub refused_unique : {n s p n' s' p' : ℕ} → IncludeRefused L A B room n s p → IncludeRefused L A B room n' s' p' → refused n s p ≡ refused n' s' p'
    refused_unique (of_sender x) (of_sender y) =
        with_side 1 (sym ((table.refused_exactly L A.symbols A.marks A.rules _ _ _).1 x) ∙ (table.refused_exactly L A.symbols A.marks A.rules _ _ _).1 y)
    refused_unique (of_sender x) (of_receiver g y) = absurd (sender_faulty x g)
    refused_unique (of_sender x) (symbol_counts g h e) = absurd (sender_faulty x g)
    refused_unique (of_sender x) (no_room g h e l) = absurd (sender_faulty x g)
    refused_unique (of_receiver g x) (of_sender y) = absurd (sender_faulty y g)
    refused_unique (of_receiver g x) (of_receiver h y) =
        with_side 2 (receiver_unique L B.symbols B.marks B.rules _ _ (is_refused x) (is_refused y))
    refused_unique (of_receiver g x) (symbol_counts h r e) = absurd (receiver_faulty x r)
    refused_unique (of_receiver g x) (no_room h r e l) = absurd (receiver_faulty x r)
    refused_unique (symbol_counts g r e) (of_sender y) = absurd (sender_faulty y g)
    refused_unique (symbol_counts g r e) (of_receiver h y) = absurd (receiver_faulty y r)
    refused_unique (symbol_counts g r e) (symbol_counts h s d) = refl
    refused_unique (symbol_counts g r e) (no_room h s d l) = absurd (e d)
    refused_unique (no_room g r e l) (of_sender y) = absurd (sender_faulty y g)
    refused_unique (no_room g r e l) (of_receiver h y) = absurd (receiver_faulty y r)
    refused_unique (no_room g r e l) (symbol_counts h s d) = absurd (d e)
    refused_unique (no_room g r e l) (no_room h s d k) = refl

    -- tables that can be compared are not refused
    pub refused_not : {n s p : ℕ} → IncludeRefused L A B room n s p → Comparable L A B room → ⊥
    refused_not (of_sender x) c = sender_faulty x c.sender
    refused_not (of_receiver g x) c = receiver_faulty x c.receiver
    refused_not (symbol_counts g r e) c = e c.symbols
    refused_not (no_room g r e l) c = let h = c.enough in omega arith

  module _ (ws : List ℕ) where
    -- where all is included there is no witness
    witness_not : {ws' : List ℕ} {k : ℕ} → Includes L A B → Witnessed L A B ws ws' k → ⊥
    witness_not i w = w.rejected (i _ w.accepted)

    -- what is told in two answers that the contract allows is one, and so are the slices; but which witness is handed out is open
    pub told_unique_but_witness : (ws' ws'' : List ℕ) (t u : Told) → Answered L A B ws ws' t → Answered L A B ws ws'' u
        → ((t ≡ u) × (ws' ≡ ws'')) ⊎ (((k : ℕ) × (t ≡ witness k)) × ((k : ℕ) × (u ≡ witness k)))
    told_unique_but_witness ws' ws'' t u (answer.is_refused x e) (answer.is_refused y d) = inl (refused_unique (length ws) x y, e ∙ sym d)
    told_unique_but_witness ws' ws'' t u (answer.is_refused x e) (answer.is_included c i d) = absurd (refused_not (length ws) x c)
    told_unique_but_witness ws' ws'' t u (answer.is_refused x e) (answer.is_witness c w) = absurd (refused_not (length ws) x c)
    told_unique_but_witness ws' ws'' t u (answer.is_included c i e) (answer.is_refused y d) = absurd (refused_not (length ws) y c)
    told_unique_but_witness ws' ws'' t u (answer.is_included c i e) (answer.is_included _ j d) = inl (refl, e ∙ sym d)
    told_unique_but_witness ws' ws'' t u (answer.is_included c i e) (answer.is_witness _ w) = absurd (witness_not i w)
    told_unique_but_witness ws' ws'' t u (answer.is_witness c w) (answer.is_refused y d) = absurd (refused_not (length ws) y c)
    told_unique_but_witness ws' ws'' t u (answer.is_witness c w) (answer.is_included _ i d) = absurd (witness_not i w)
    told_unique_but_witness ws' ws'' t u (answer.is_witness {k} c w) (answer.is_witness {k = k'} _ v) = inr ((k, refl), (k', refl))

    module _ (ws' : List ℕ) where
      -- a refusal is told exactly if its row of the paper says so
      pub include_refused_exactly : (t : Told) → Answered L A B ws ws' t → (n s p : ℕ)
          → (t ≡ refused n s p) ↔ IncludeRefused L A B (length ws) n s p
      include_refused_exactly t a n s p = (to t a, from t a)
        where
          to : (t : Told) → Answered L A B ws ws' t → t ≡ refused n s p → IncludeRefused L A B (length ws) n s p
          to t (answer.is_refused x d) e = refused_as (IncludeRefused L A B (length ws)) e x
          to t (answer.is_included c i d) e = absurd (refused_not_included (sym e))
          to t (answer.is_witness c w) e = absurd (refused_not_witness (sym e))

          from : (t : Told) → Answered L A B ws ws' t → IncludeRefused L A B (length ws) n s p → t ≡ refused n s p
          from t (answer.is_refused x d) y = refused_unique (length ws) x y
          from t (answer.is_included c i d) y = absurd (refused_not (length ws) y c)
          from t (answer.is_witness c w) y = absurd (refused_not (length ws) y c)

      -- "included" is told exactly if nothing is refused and no tree is accepted by the sender and rejected by the receiver
      pub included_exactly : (t : Told) → Answered L A B ws ws' t
          → (t ≡ included) ↔ (Comparable L A B (length ws) × ((s : Tree) → AcceptedBy L A s → ¬ ¬ AcceptedBy L B s))
      included_exactly t a = (to t a, from t a)
        where
          to : (t : Told) → Answered L A B ws ws' t → t ≡ included → Comparable L A B (length ws) × ((s : Tree) → AcceptedBy L A s → ¬ ¬ AcceptedBy L B s)
          to t (answer.is_included c i d) e = (c, λ s x n. n (i s x))
          to t (answer.is_refused x d) e = absurd (refused_not_included e)
          to t (answer.is_witness c w) e = absurd (included_not_witness (sym e))

          from : (t : Told) → Answered L A B ws ws' t → Comparable L A B (length ws) × ((s : Tree) → AcceptedBy L A s → ¬ ¬ AcceptedBy L B s) → t ≡ included
          from t (answer.is_included c i d) x = refl
          from t (answer.is_refused y d) x = absurd (refused_not (length ws) y x.0)
          from t (answer.is_witness c w) x = absurd (x.1 _ w.accepted w.rejected)

      -- "included" means it: every tree that the sender accepts the receiver accepts
      pub included_right : (t : Told) → Answered L A B ws ws' t → t ≡ included → Includes L A B
      included_right t (answer.is_included c i d) e = i
      included_right t (answer.is_refused x d) e = absurd (refused_not_included e)
      included_right t (answer.is_witness c w) e = absurd (included_not_witness (sym e))

      -- a witness is told exactly if nothing is refused and some tree is accepted by the sender and rejected by the receiver
      pub witness_exactly : (t : Told) → Answered L A B ws ws' t
          → ((k : ℕ) × (t ≡ witness k)) ↔ (Comparable L A B (length ws) × ((s : Tree) × (AcceptedBy L A s × ¬ AcceptedBy L B s)))
      witness_exactly t a = (to t a, from t a)
        where
          to : (t : Told) → Answered L A B ws ws' t → (k : ℕ) × (t ≡ witness k)
              → Comparable L A B (length ws) × ((s : Tree) × (AcceptedBy L A s × ¬ AcceptedBy L B s))
          to t (answer.is_witness c w) x = (c, (_, (w.accepted, w.rejected)))
          to t (answer.is_refused y d) (k, e) = absurd (refused_not_witness e)
          to t (answer.is_included c i d) (k, e) = absurd (included_not_witness e)

          from : (t : Told) → Answered L A B ws ws' t → Comparable L A B (length ws) × ((s : Tree) × (AcceptedBy L A s × ¬ AcceptedBy L B s))
              → (k : ℕ) × (t ≡ witness k)
          from t (answer.is_witness {k} c w) x = (k, refl)
          from t (answer.is_refused y d) x = absurd (refused_not (length ws) y x.0)
          from t (answer.is_included c i d) (x, (s, (y, n))) = absurd (n (i s y))

-- the answer is known by what it tells
pub told_unique : (a b : Answer) → told a ≡ told b → a ≡ b
told_unique (Ok None) (Ok None) e = refl
told_unique (Ok None) (Ok (Some k)) e = absurd (included_not_witness e)
told_unique (Ok None) (Err r) e = absurd (refused_not_included (sym e))
told_unique (Ok (Some k)) (Ok None) e = absurd (included_not_witness (sym e))
told_unique (Ok (Some j)) (Ok (Some k)) e = ap (λ (n : ℕ). Ok (Some n)) cc
told_unique (Ok (Some k)) (Err r) e = absurd (refused_not_witness (sym e))
told_unique (Err r) (Ok None) e = absurd (refused_not_included e)
told_unique (Err r) (Ok (Some k)) e = absurd (refused_not_witness e)
told_unique (Err r) (Err s) e = ap Err (refusal_unique r s e)

-- two answers that the contract of `include` allows are one, and so are the slices, unless both hand out a witness
pub include_unique : (L : Limits) (A B : Lent) (ws ws' ws'' : List ℕ) (a b : Answer) → Answered L A B ws ws' (told a) → Answered L A B ws ws'' (told b)
    → ((a ≡ b) × (ws' ≡ ws'')) ⊎ (((k : ℕ) × (a ≡ Ok (Some k))) × ((k : ℕ) × (b ≡ Ok (Some k))))
include_unique L A B ws ws' ws'' a b x y =
    ⊎_elim
    (λ (e : (told a ≡ told b) × (ws' ≡ ws'')). inl (told_unique a b e.0, e.1))
    (λ (e : ((k : ℕ) × (told a ≡ witness k)) × ((k : ℕ) × (told b ≡ witness k))).
    inr ((e.0.0, told_unique a (Ok (Some e.0.0)) e.0.1), (e.1.0, told_unique b (Ok (Some e.1.0)) e.1.1)))
    (told_unique_but_witness L A B ws ws' ws'' (told a) (told b) x y)

-- as many nodes as are told stand at the front of the slice
pub witness_nodes : {L : Limits} {A B : Lent} {ws ws' : List ℕ} {k : ℕ} → Witnessed L A B ws ws' k → length (take (2 * k) ws') ≡ 2 * k
witness_nodes {ws' = ws'} {k = k} w = length-take-le (2 * k) ws' w.inside

-- a table of 0 states accepts nothing: as a sender it is included in every receiver, as a receiver it takes only senders that accept nothing
empty_accepts : (L : Limits) (T : Lent) (t : Tree) → length T.marks ≡ 0 → AcceptedBy L T t → ⊥
empty_accepts L T t e a = omega (arith, a.final, get_or-eq_default {A = ℕ} T.marks 0 {n = a.state} (omega arith))

pub no_states_included : (L : Limits) (A B : Lent) → length A.marks ≡ 0 → Includes L A B
no_states_included L A B e t a = absurd (empty_accepts L A t e a)

pub no_states_receives : (L : Limits) (A B : Lent) → length B.marks ≡ 0 → Includes L A B ↔ ((t : Tree) → ¬ AcceptedBy L A t)
no_states_receives L A B e = (λ i t a. empty_accepts L B t e (i t a), λ n t a. absurd (n t a))
