-- ε steps at the set of one node: one rule, one rule more, a pass that adds nothing, the whole closure. Assumes nothing.
use Prim.Native.Nat.{ℕ, ◌+◌, ◌*◌, ◌≤◌, ◌<◌}
use mathlib.Core.Path.{◌≡◌, refl, sym, ◌∙◌}
use mathlib.Core.Logic.{by_cases}
use mathlib.Core.List.{List}
use native.Mathlib.Decide.{ℕ_discrete}
use native.Mathlib.Omega.{arith}
use lib.ListN.{length}
use Rattle.paper.specs.Limits.{at}
use Rattle.table.specs.Rules.{Rule, eps_rule, Row, RulesOf, here, step}
use Rattle.table.proofs.Evaluate.{reach_trans, reach_closed}
use Rattle.accept.specs.Work.{state, In, Usable, Added, RowClosed, Stepped, Passed, Closed}
use Rattle.accept.proofs.SetLaws.{not_in, grown_refl, grown_trans, grown_added, missing_less}

module _ (b : ℕ) {R : Rule → Type 0} (i : ℕ) where
  pub stepped_none : (s : List ℕ) → Stepped b R s i s 0
  stepped_none s = record { grown = grown_refl b s i; only = λ q h x. (q, h, x, here); same = λ e. refl; count = omega arith }

  stepped_one : {s t : List ℕ} (p q : ℕ) → p < b → q < b → In b s i p → ¬ In b s i q → R (eps_rule p q) → Added b s i q t → Stepped b R s i t 1
  stepped_one {s} {t} p q h l x n e a = record {
    grown = grown_added b a;
    only = λ r k y. by_cases (ℕ_discrete r q) (λ z. (p, h, x, rw z (step here e))) (λ d. (r, k, sym (a.states r k d) ∙ y, here));
    same = λ z. absurd (omega arith);
    count = missing_less (state b s i) (state b t i) b q l (not_in b s i q n) a.here a.states;
  }

  pub stepped_trans : {s t u : List ℕ} {m n : ℕ} → Stepped b R s i t m → Stepped b R t i u n → Stepped b R s i u (m + n)
  stepped_trans x y = record {
    grown = grown_trans b x.grown y.grown;
    only = λ q h z. let (p, k, l, r) = y.only q h z in let (o, f, g, e) = x.only p k l in (o, f, g, reach_trans e r);
    same = λ e. y.same (omega arith) ∙ x.same (omega arith);
    count = omega (arith, x.count, y.count);
  }

module _ (b w : ℕ) (xs : List ℕ) (i : ℕ) where
  pub passed_none : (s : List ℕ) → Passed b w xs (λ j. j < 0) s i s 0
  passed_none s = record { stepped = stepped_none b i s; closed = λ e j h. absurd (omega arith) }

  -- one rule
  module _ (k : ℕ) (s : List ℕ) where
    pub passed_same : RowClosed b w xs s i k → Passed b w xs (λ j. j ≡ k) s i s 0
    passed_same c = record { stepped = stepped_none b i s; closed = λ e j q. rw q c }

    pub passed_one : (t : List ℕ) → Usable w xs b k → at xs (k * w) ≡ 2 → In b s i (at xs (k * w + 1)) → ¬ In b s i (at xs (k * w + 3))
        → Added b s i (at xs (k * w + 3)) t → Passed b w xs (λ j. j ≡ k) s i t 1
    passed_one t u e x n a =
        let r : Row w xs k 2 (at xs (k * w + 1)) 0 (at xs (k * w + 3)) =
        record { inside = u.row; kind = e; left = refl; right = u.states.third k u.row (λ z. omega arith); target = refl } in
        record {
          stepped = stepped_one b i _ _ (u.states.epsilons k u.row e) (u.states.to k u.row) x n (k, r) a;
          closed = λ z. absurd (omega arith);
        }

  pub passed_more : {k m n : ℕ} {s t u : List ℕ} → Passed b w xs (λ j. j < k) s i t m → Passed b w xs (λ j. j ≡ k) t i u n
      → Passed b w xs (λ j. j < k + 1) s i u (m + n)
  passed_more {k} x y = record {
    stepped = stepped_trans b i x.stepped y.stepped;
    closed = λ e j h. by_cases (ℕ_discrete j k)
        (λ q. y.closed (omega arith) j q)
        (λ d. rw (y.stepped.same (omega arith)) (x.closed (omega arith) j (omega arith)));
  }

  -- a set to which no rule adds anything has all that ε steps reach
  pub closed_of : {s t u : List ℕ} {m n : ℕ} → Stepped b (RulesOf w xs) s i t m → Passed b w xs (λ j. j * w + w ≤ length xs) t i u n → n ≡ 0
      → Closed b (RulesOf w xs) s i u
  closed_of {u = u} x y z =
      let g = stepped_trans b i x y.stepped in
      record {
        grown = g.grown;
        only = g.only;
        all = λ p q h e r. reach_closed (In b u i) rows (g.grown.holds p h e) r;
      }
    where
      rows : (q r : ℕ) → In b u i q → RulesOf w xs (eps_rule q r) → In b u i r
      rows q r h (k, x) = rw x.target at (y.closed z k x.inside x.kind (rw x.left h))
