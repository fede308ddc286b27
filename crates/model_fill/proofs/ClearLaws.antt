-- Slices filled with one number keep no state. Assumes nothing.
use Prim.Native.Nat.{ℕ, ◌+◌, ◌*◌, ◌<◌, zero-le}
use native.Mathlib.Omega.{arith}
use native.Mathlib.Nat.{suc-mul, mul-le-mul_right}
use mathlib.Core.Path.{◌≡◌, sym, ap, ◌∙◌}
use mathlib.Core.List.{List, []}
use Rattle.rows.specs.Fill.{Filled}
use Rattle.compiled.specs.States.{State, the_state_at, may_end, goes_on_of}
use Rattle.model_sets.specs.Sets.{flag}
use Rattle.model_fill.specs.Kept.{no_symbol_of, borne, belongs_to, Long, Kept}
use Rattle.model_fill.proofs.StateLaws.{state_none}

pub cleared : {stride all : ℕ} {B O E N B' O' E' N' : List ℕ} → all ≡ stride * stride → Long stride B O E N → Filled B 0 stride no_symbol_of B'
    → Filled O 0 stride no_symbol_of O' → Filled E 0 stride 0 E' → Filled N 0 all 0 N' → Kept stride [] B' O' E' N'
unfolding borne belongs_to may_end goes_on_of flag
cleared {stride} {all} a l b o e n =
    record {
      long = record {
        bears = b.size ∙ l.bears;
        owners = o.size ∙ l.owners;
        ends = e.size ∙ l.ends;
        next = n.size ∙ l.next;
      };
      bearing = λ q h. b.inside q zero-le h (omega (arith, l.bears)) ∙ sym (ap borne (state_none [] q zero-le));
      owning = λ q h. o.inside q zero-le h (omega (arith, l.owners)) ∙ sym (ap belongs_to (state_none [] q zero-le));
      ending = λ q h.
          e.inside q zero-le h (omega (arith, l.ends)) ∙ sym (ap (λ (s : State). flag (may_end s)) (state_none [] q zero-le));
      coming = λ q y h g.
          let i = inside_row q y h g in
          n.inside (q * stride + y) zero-le (omega arith) (omega (arith, l.next))
          ∙ sym (ap (λ (s : State). flag (goes_on_of s (the_state_at [] y))) (state_none [] q zero-le));
    }
  where
    inside_row : (q y : ℕ) → q < stride → y < stride → q * stride + y < stride * stride
    inside_row q y h g = omega (arith, suc-mul q stride, mul-le-mul_right stride h)
