-- What is decided of a table: a rule, ε reach (by induction on the states passed through), the receiver's moves. Assumes nothing.
use Prim.Native.Nat.{ℕ, zero, suc, ◌/◌, ◌<◌}
use mathlib.Core.Path.{◌≡◌, refl}
use mathlib.Core.Logic.Dec
use mathlib.Core.Logic.{◌⊎◌, inl, inr, by_cases}
use mathlib.Core.List.{List}
use native.Mathlib.Decide.{ℕ_discrete, map_dec}
use native.Mathlib.Omega.{arith}
use lib.ListN.{length}
use Rattle.paper.specs.Limits.{leaf_kind, join_kind, eps_kind}
use Rattle.paper.specs.Tests.{dec_or, dec_below}
use Rattle.table.specs.Rules.{Rule, leaf_rule, join_rule, eps_rule, RulesOf, Reach, here, step}
use Rattle.table.specs.RowTest.{row?}
use Rattle.table.proofs.Rows.{row_below}
use Rattle.table.proofs.Evaluate.{reach_trans}
use Rattle.product.specs.Moves.{Move, LeafTo, JoinTo}
use Rattle.product.proofs.Include.{Bounded}

-- the same for any P that holds only below n
pub dec_some : (P : ℕ → Type 0) → ((i : ℕ) → Dec (P i)) → (n : ℕ) → ((i : ℕ) → P i → i < n) → Dec ((i : ℕ) × P i)
dec_some P d n b = map_dec (λ x. (x.0, x.2)) (λ x. (x.0, b x.0 x.1, x.1)) (dec_below P d n)

pub dec_rule : (w : ℕ) (xs : List ℕ) → 0 < w → (r : Rule) → Dec (RulesOf w xs r)
dec_rule w xs h (leaf_rule a q) = dec_some _ (λ i. row? w xs i leaf_kind a 0 q) (length xs / w) (λ i r. row_below h (length xs) i r.inside)
dec_rule w xs h (join_rule a b q) = dec_some _ (λ i. row? w xs i join_kind a b q) (length xs / w) (λ i r. row_below h (length xs) i r.inside)
dec_rule w xs h (eps_rule p q) = dec_some _ (λ i. row? w xs i eps_kind p 0 q) (length xs / w) (λ i r. row_below h (length xs) i r.inside)

-- q is reached from p through states below k
Via : (Rule → Type 0) → ℕ → ℕ → ℕ → Type 0
Via R zero p q = (p ≡ q) ⊎ R (eps_rule p q)
Via R (suc k) p q = Via R k p q ⊎ (Via R k p k × Via R k k q)

module _ (R : Rule → Type 0) where
  via_sound : (k p q : ℕ) → Via R k p q → Reach R p q
  unfolding Via
  via_sound zero p q (inl e) = rw e here
  via_sound zero p q (inr e) = step here e
  via_sound (suc k) p q (inl h) = via_sound k p q h
  via_sound (suc k) p q (inr h) = reach_trans (via_sound k p k h.0) (via_sound k k q h.1)

  via_lift : (k p q : ℕ) → Via R 0 p q → Via R k p q
  unfolding Via
  via_lift zero p q h = h
  via_lift (suc k) p q h = inl (via_lift k p q h)

  via_end : (k p : ℕ) → Via R (suc k) p k → Via R k p k
  unfolding Via
  via_end k p (inl h) = h
  via_end k p (inr h) = h.0

  via_start : (k q : ℕ) → Via R (suc k) k q → Via R k k q
  unfolding Via
  via_start k q (inl h) = h
  via_start k q (inr h) = h.1

  via_trans : (k m p q : ℕ) → m < k → Via R k p m → Via R k m q → Via R k p q
  unfolding Via
  via_trans zero m p q h a b = absurd (omega arith)
  via_trans (suc k) m p q h a b = by_cases (ℕ_discrete m k)
      (λ e. inr (via_end k p (rw e at a), via_start k q (rw e at b)))
      (λ d. split (omega arith) a b (λ p q. via_trans k m p q))
    where
      split : m < k → Via R (suc k) p m → Via R (suc k) m q → ((p q : ℕ) → m < k → Via R k p m → Via R k m q → Via R k p q) → Via R (suc k) p q
      split l (inl a) (inl b) t = inl (t p q l a b)
      split l (inl a) (inr b) t = inr (t p k l a b.0, b.1)
      split l (inr a) (inl b) t = inr (a.0, t k q l a.1 b)
      split l (inr a) (inr b) t = inr (a.0, b.1)

  via_complete : (n : ℕ) → Bounded R n → {p q : ℕ} → Reach R p q → Via R n p q
  unfolding Via
  via_complete n b {p} here = via_lift n p p (inl refl)
  via_complete n b {p} (step {q = q} {r = r} h e) = via_trans n q p r (b.eps_from q r e).0 (via_complete n b h) (via_lift n q r (inr e))

  dec_via : ((r : Rule) → Dec (R r)) → (k p q : ℕ) → Dec (Via R k p q)
  unfolding Via
  dec_via d zero p q = dec_or (ℕ_discrete p q) (d (eps_rule p q))
  dec_via d (suc k) p q = dec_or (dec_via d k p q) (Dec.and (dec_via d k p k) (dec_via d k k q))

-- of rules that are decided and name only states below n, all is decided
module _ (R : Rule → Type 0) (n : ℕ) (bd : Bounded R n) (dr : (r : Rule) → Dec (R r)) where
  pub dec_reach : (p q : ℕ) → Dec (Reach R p q)
  dec_reach p q = map_dec (via_sound R n p q) (via_complete R n bd) (dec_via R dr n p q)

  pub the_leaf_to : (a : ℕ) → (q : ℕ) × LeafTo R n a q
  the_leaf_to a = by_cases (dec_some (λ q. R (leaf_rule a q)) (λ q. dr _) n (bd.leaf_to a))
      (λ x. (x.0, inl x.1))
      (λ d. (n, inr (refl, λ b e. d (b, e))))

  dec_move : (x y q : ℕ) → Dec (Move R x y q)
  dec_move x y q = map_dec {A = (l : ℕ) × ((r : ℕ) × (Reach R x l × (Reach R y r × R (join_rule l r q))))}
      (λ z. record { left = z.0; right = z.1.0; from_x = z.1.1.0; from_y = z.1.1.1.0; rule = z.1.1.1.1 })
      (λ m. (m.left, (m.right, (m.from_x, (m.from_y, m.rule)))))
      (dec_some _ (λ l. dec_some _ (λ r. Dec.and (dec_reach x l) (Dec.and (dec_reach y r) (dr _)))
      n (λ r z. (bd.join_from l r q z.1.1).1)) n (λ l z. (bd.join_from l z.0 q z.1.1.1).0))

  pub the_join_to : (x y : ℕ) → (q : ℕ) × JoinTo R n x y q
  the_join_to x y = by_cases (dec_some (λ q. Move R x y q) (dec_move x y) n (λ q m. (bd.join_from m.left m.right q m.rule).2))
      (λ z. (z.0, inl z.1))
      (λ d. (n, inr (refl, λ b e. d (b, e))))
