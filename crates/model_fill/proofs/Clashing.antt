-- In the slices two like places come next after a state of the last line exactly if its model is ambiguous. Assumes nothing.
use Prim.Native.Nat.{ℕ, zero, suc, ◌+◌, ◌-◌, ◌*◌, ◌≤◌, ◌<◌}
use native.Mathlib.Omega.{arith}
use native.Mathlib.Decide.{dec_lt}
use mathlib.Core.Path.{◌≡◌, refl, sym, ap, ◌∙◌, subst}
use mathlib.Core.Logic.{◌≢◌, ◌↔◌, by_cases}
use mathlib.Core.Bool.{Bool, true, false}
use mathlib.Core.List.{List, ◌++◌}
use lib.ListN.{length}
use lib.Dec.{T}
use Rattle.paper.specs.Limits.{at}
use Rattle.model.specs.Model.{Model, bears, places, Ambiguous}
use Rattle.model.proofs.Positions.{Comes, test_comes, comes_test, comes_to, comes_from, clash_at, Clashes, ambiguous_clashes}
use Rattle.model_sets.specs.Sets.{flag}
use Rattle.model_clash.specs.Like.{Like, Clash}
use Rattle.compiled.specs.States.{State, inside, insides, the_state_at, goes_on_of}
use Rattle.model.specs.Documents.{Line}
use Rattle.model_fill.specs.Kept.{borne, Kept}
use Rattle.model_fill.proofs.StateLaws.{goes_initial, goes_within, new_state}

flag_set : (b : Bool) → flag b ≢ 0 → T b
unfolding flag
flag_set true n = tt
flag_set false n = n refl

no_flag : flag false ≡ 0
unfolding flag
no_flag = refl

set_flag : (b : Bool) → T b → flag b ≢ 0
unfolding flag
set_flag true t e = omega arith
set_flag false t e = t

module _ (S : List State) (a : ℕ) (m : Model) where
  abbrev ln : Line
  ln = record { of = a; model = m }

  abbrev base : ℕ
  base = length S

  module _ {stride : ℕ} {B O E N : List ℕ} (room : base + suc (places m) ≤ stride) (kept : Kept stride (S ++ insides ln) B O E N) where
    next_at : (i j : ℕ) → i < suc (places m) → j < suc (places m)
        → at N ((base + i) * stride + (base + j)) ≡ flag (goes_on_of (inside a m i) (inside a m j))
    next_at i j h g =
        kept.coming (base + i) (base + j) (omega arith) (omega arith)
        ∙ ap (λ (s : State). flag (goes_on_of s (the_state_at (S ++ insides ln) (base + j)))) (new_state S ln i h)
        ∙ ap (λ (s : State). flag (goes_on_of (inside a m i) s)) (new_state S ln j g)

    bears_at : (y : ℕ) → y < places m → at B (base + suc y) ≡ bears m y
    unfolding borne
    bears_at y h = kept.bearing (base + suc y) (omega arith) ∙ ap borne (new_state S ln (suc y) (omega arith))

    -- a flag is set for a place that can come next
    place_of : (i j : ℕ) → i < suc (places m) → j < suc (places m) → at N ((base + i) * stride + (base + j)) ≢ 0
        → (y : ℕ) × (j ≡ suc y) × Comes m i y
    place_of i zero h g n = absurd (n (next_at i zero h g ∙ ap flag (goes_initial (inside a m i) a m) ∙ no_flag))
    place_of i (suc y) h g n =
        (y, refl, test_comes m i y (subst T (goes_within a m i y) (flag_set _ (λ e. n (next_at i (suc y) h g ∙ e)))))

    set_at : (i y : ℕ) → Comes m i y → at N ((base + i) * stride + (base + suc y)) ≢ 0
    set_at i y c e =
        set_flag (goes_on_of (inside a m i) (inside a m (suc y))) (subst T (sym (goes_within a m i y)) (comes_test m i y c))
        (sym (next_at i (suc y) (comes_from m i y c) (let h = comes_to m i y c in omega arith)) ∙ e)

    two_ambiguous : (i j k : ℕ) → i < suc (places m) → k < j → j < suc (places m)
        → Like stride B N (base + i) (base + j) (base + k) → Ambiguous m
    two_ambiguous i j k h l g like =
        let y = place_of i j h g like.next_y in
        let z = place_of i k h (omega arith) like.next_z in
        let by = comes_to m i y.0 y.2 in
        let bz = comes_to m i z.0 z.2 in
        let ey = y.1 in
        let ez = z.1 in
        clash_at m i y.0 z.0 (λ e. omega arith)
        (sym (bears_at y.0 by) ∙ ap (λ (n : ℕ). at B (base + n)) (sym ey) ∙ like.same
        ∙ ap (λ (n : ℕ). at B (base + n)) ez ∙ bears_at z.0 bz) y.2 z.2

    clash_ambiguous : Clash stride B N base (base + suc (places m)) → Ambiguous m
    clash_ambiguous c =
        let h₁ = c.low in
        let h₂ = c.high in
        let t = c.two in
        let l₁ = t.low in
        let l₂ = t.apart in
        let l₃ = t.high in
        let q : c.state ≡ base + (c.state - base) = omega arith in
        let y : c.y ≡ base + (c.y - base) = omega arith in
        let z : c.z ≡ base + (c.z - base) = omega arith in
        two_ambiguous (c.state - base) (c.y - base) (c.z - base) (omega arith) (omega arith) (omega arith)
        (subst (λ (n : ℕ). Like stride B N (base + (c.state - base)) (base + (c.y - base)) n) z
        (subst (λ (n : ℕ). Like stride B N (base + (c.state - base)) n c.z) y
        (subst (λ (n : ℕ). Like stride B N n c.y c.z) q t.like)))

    two_clash : (i x y : ℕ) → x < y → bears m x ≡ bears m y → Comes m i x → Comes m i y
        → Clash stride B N base (base + suc (places m))
    two_clash i x y l e p q =
        let hx = comes_to m i x p in
        let hy = comes_to m i y q in
        let hi = comes_from m i x p in
        let long = kept.long.bears in
        record {
          state = base + i;
          low = omega arith;
          high = omega arith;
          z = base + suc x;
          y = base + suc y;
          two = record {
            low = omega arith;
            apart = omega arith;
            high = omega arith;
            like = record {
              inside_y = omega arith;
              inside_z = omega arith;
              same = bears_at y hy ∙ sym e ∙ sym (bears_at x hx);
              next_y = set_at i y q;
              next_z = set_at i x p;
            };
          };
        }

    clashes_clash : Clashes m → Clash stride B N base (base + suc (places m))
    clashes_clash c =
        by_cases (dec_lt c.x c.y)
        (λ h. two_clash c.position c.x c.y h c.same c.comes_x c.comes_y)
        (λ h. two_clash c.position c.y c.x (let d = c.two in omega arith) (sym c.same) c.comes_y c.comes_x)

    pub clash_exactly : Clash stride B N base (base + suc (places m)) ↔ Ambiguous m
    clash_exactly = (clash_ambiguous, λ x. clashes_clash ((ambiguous_clashes m).0 x))
