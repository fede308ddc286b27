-- The receiver's moves are those of its table: a leaf's base state looked for down its rules, a join's looked up in its index. Assumes
-- nothing.
use Prim.Native.Nat.{ℕ, ◌+◌, ◌*◌, ◌≤◌, ◌<◌}
use mathlib.Core.Path.{◌≡◌, refl, sym, ◌∙◌}
use mathlib.Core.Logic.{◌⊎◌, inl, inr, by_cases}
use mathlib.Core.Bool.{Bool}
use mathlib.Core.List.{List}
use native.Mathlib.Decide.{dec_lt}
use native.Mathlib.Omega.{arith}
use lib.ListN.{length, drop}
use Rattle.paper.specs.Limits.{Limits, at}
use Rattle.paper.specs.Told.{Tells}
use Rattle.table.specs.Rules.{join_rule}
use Rattle.std.specs.Prelude.{Option, unwrap_or}
use Rattle.std.proofs.Common.{ap}
use Rattle.joins.specs.Target.{Finds}
use Rattle.joins.proofs.TargetLaws.{target_of, target_beyond}
use Rattle.receiver.specs.Numbers.{number, numbers_each}
use Rattle.product.specs.Moves.{LeafTo, JoinTo}
use Rattle.product.proofs.Factor.{Factorized}
use Rattle.product.proofs.Include.{Bounded, join_to_of}
use Rattle.product.proofs.Tables.{bounded, factorized}
use Rattle.pairs.specs.declared.Pair.{Pair}
use Rattle.pairs.specs.declared.Sizes.{Sizes}
use Rattle.pairs.specs.Work.{memory_of}
use Rattle.pairs.proofs.MemoryLaws.{fixed_at, fixed_drop}
use Rattle.moves.specs.Looked.{FirstLeaf, found, nothing, number_at, Stepped, looked, nowhere, FailsAt}
use Rattle.moves.specs.Receiving.{Rules, Receiving, ReceiverOf, Plain, Numbered, Fails}

-- a number of a receiver's state stands at the front of the work slice
front_number : {z : Sizes} {ws : List ℕ} → Numbered z ws → (q k : ℕ) → q ≤ z.receivers → k < numbers_each
    → at ws (number_at q k) ≡ number (memory_of z ws).fixed q k
front_number {z} {ws} n q k h j = sym (fixed_at z.base z.pairs ws (numbers_each * q + k) (omega (arith, n.inside)))

-- whether a pair fails is read there
pub fails_told : {mS ws : List ℕ} {z : Sizes} {pair : Pair} {b : Bool} → Numbered z ws → pair.q.0 ≤ z.receivers → Tells b (FailsAt mS ws pair)
    → Tells b (Fails z mS ws pair)
fails_told {pair = pair} n h t =
    let e = front_number n pair.q.0 2 h (omega arith) in
    record {
      yes = λ y. let f = t.yes y in (f.final, λ i. f.no_end_of (e ∙ i));
      no = λ y f. t.no y (record { final = f.0; inside = omega (arith, n.inside, n.long); no_end_of = λ i. f.1 (sym e ∙ i) });
    }

-- the receiver is there as long as the front of the work slice is
pub receiving_as : {L : Limits} {z : Sizes} {mB xB ws ws' : List ℕ} → (memory_of z ws').fixed ≡ (memory_of z ws).fixed
    → Receiving L z mB xB ws → Receiving L z mB xB ws'
receiving_as e r = record {
  symbols = r.symbols;
  sound = r.sound;
  receives = r.receives;
  states = r.states;
  numbers_in = r.numbers_in;
  index_in = r.index_in;
  numbers = rw e r.numbers;
  index = rw e r.index;
}

pub numbered : {L : Limits} {z : Sizes} {xB ws : List ℕ} → ReceiverOf L z xB ws → z.base ≤ length ws → Numbered z ws
numbered (mB, r) h = record { inside = omega (arith, r.numbers_in, r.index_in); long = h }

module _ (L : Limits) (wide : 0 < L.width) where
  -- the base state of a leaf is the target of its first leaf rule
  pub leaf_to : {xs : List ℕ} {n a q : ℕ} → Plain L xs → FirstLeaf L.width xs n a q → LeafTo (Rules L xs) n a q
  leaf_to plain (found {i} l none) = inl (i, record { inside = l.inside; kind = l.kind; left = l.symbol; right = plain i l.inside (omega (arith, l.kind)); target = refl })
  leaf_to plain (nothing none) = inr (refl, λ b (j, r). none j (record { inside = r.inside; kind = r.kind; symbol = r.left }))

  module _ {z : Sizes} {xB ws : List ℕ} (r : ReceiverOf L z xB ws) where
    pub receiver_bounded : Bounded (Rules L xB) z.receivers
    receiver_bounded = rw r.1.states at (bounded L wide r.1.sound)

    pub receiver_factorized : Factorized (Rules L xB) r.0
    receiver_factorized = factorized L wide r.1.sound r.1.receives

    -- base states are below n, or n
    pub leaf_small : {a q : ℕ} → LeafTo (Rules L xB) z.receivers a q → q ≤ z.receivers
    leaf_small {a} {q} (inl x) = omega (arith, receiver_bounded.leaf_to a q x)
    leaf_small (inr x) = omega (arith, x.0)

    pub join_small : {x y q : ℕ} → JoinTo (Rules L xB) z.receivers x y q → q ≤ z.receivers
    join_small {q = q} (inl x) = omega (arith, receiver_bounded.join_from x.left x.right q x.rule)
    join_small (inr x) = omega (arith, x.0)

    -- the base state of a join is looked up
    pub step_to : {x y q : ℕ} → z.base ≤ length ws → x ≤ z.receivers → y ≤ z.receivers → Stepped L.width xB z ws x y q
        → JoinTo (Rules L xB) z.receivers x y q
    step_to {x} {y} long hx hy (nowhere d) =
        let n = numbered r long in
        absurd (d (record { long = long; index = r.1.index_in; left = omega (arith, n.inside); right = omega (arith, n.inside) }))
    step_to {x} {y} long hx hy (looked {o} h f) =
        join_to_of receiver_factorized receiver_bounded x y (at ws (number_at x 0)) (at ws (number_at y 1)) (unwrap_or o z.receivers)
        (rw (front_number (numbered r long) x 0 hx (omega arith), ← r.1.states) (r.1.numbers.lefts x (omega (arith, r.1.states))))
        (rw (front_number (numbered r long) y 1 hy (omega arith), ← r.1.states) (r.1.numbers.rights y (omega (arith, r.1.states))))
        (moved (at ws (number_at x 0)) (at ws (number_at y 1)) o (rw (fixed_drop z.base z.pairs ws z.index r.1.index_in long) at f))
      where
        moved : (l t : ℕ) (o : Option ℕ) → Finds L.width xB (drop z.index (memory_of z ws).fixed) l t o
            → Rules L xB (join_rule l t (unwrap_or o z.receivers))
            ⊎ ((unwrap_or o z.receivers ≡ z.receivers) × ((b : ℕ) → ¬ Rules L xB (join_rule l t b)))
        moved l t o f = by_cases (dec_lt l z.receivers)
            (λ h. target_of wide r.1.index h f)
            (λ h. inr (ap (λ (p : Option ℕ). unwrap_or p z.receivers) (target_beyond wide r.1.index (omega arith) f), λ b o. absurd (omega (arith, receiver_bounded.join_from l t b o))))
