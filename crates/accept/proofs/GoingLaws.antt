-- The evaluation of all nodes: at the start, after one node more, and what it says at the end. Assumes nothing.
use Prim.Native.Nat.{ℕ, ◌+◌, ◌-◌, ◌*◌, ◌/◌, ◌≤◌, ◌<◌}
use mathlib.Core.Path.{◌≡◌, ◌∙◌}
use mathlib.Core.List.{List}
use mathlib.Core.Bool.{Bool}
use native.Mathlib.Omega.{arith}
use lib.ListN.{length, replicate, length-replicate}
use Rattle.paper.specs.Limits.{limits}
use Rattle.paper.specs.Told.{Tells}
use Rattle.bits.proofs.Sets.{zeros_empty}
use Rattle.tree.specs.Tree.{tree_of}
use Rattle.accept.specs.Work.{words, span, state, Ready, GatherAll, ClosedAll, HasFinal, Evaluable, Going, Evaluated, Judgeable}
use Rattle.accept.specs.Accept.{AcceptsNodes}
use Rattle.accept.proofs.SetLaws.{tells_as}
use Rattle.accept.proofs.NodeLaws.{settled_next, accepts_of_final, final_of_accepts}

-- nothing is in a set of zeros
empty_state : (b n i q : ℕ) → state b (replicate n 0) i q ≡ 0
unfolding state
empty_state b n i q = zeros_empty n (i * b + q)

module _ (xs ns : List ℕ) where
  pub going_start : (n : ℕ) → n ≡ words * limits.nodes → Evaluable xs ns → Going xs ns (replicate n 0) 0
  going_start n e c = record {
    can = c;
    long = length-replicate n 0 ∙ e;
    settled = record {
      sound = λ j q h. absurd (omega arith);
      complete = λ j q h. absurd (omega arith);
      empty = λ j q h l. empty_state span n j q;
    };
  }

  module _ (s : List ℕ) (i : ℕ) (node : 2 * i + 2 ≤ length ns) (g : Going xs ns s i) where
    pub going_ready : Ready ns s i
    going_ready = record {
      room = record { long = g.long; inside = omega (arith, g.can.few) };
      node = node;
      earlier = g.can.earlier i node;
    }

    pub going_next : (t u : List ℕ) → GatherAll xs ns i s t → ClosedAll xs t i u → Going xs ns u (i + 1)
    going_next t u x y = record {
      can = g.can;
      long = y.grown.long ∙ x.grown.long ∙ g.long;
      settled = settled_next span limits.width xs ns g.can.states i s (g.can.earlier i node) g.settled t u x y;
    }

  -- the tree is accepted exactly if a final state is in the last node's set
  pub accepts_tells : (ms s : List ℕ) {r : Bool} → Judgeable ms xs ns → Evaluated xs ns s
      → Tells r (HasFinal span ms s (length ns / 2 - 1)) → Tells r (AcceptsNodes limits ms xs ns)
  unfolding tree_of
  accepts_tells ms s d g =
      let h : length ns / 2 - 1 < length ns / 2 = omega (arith, d.some) in
      tells_as
      (accepts_of_final span limits.width xs ns g.can.states ms s (length ns / 2) (length ns / 2 - 1) g.settled h d.marks)
      (final_of_accepts span limits.width xs ns g.can.states ms s (length ns / 2) (length ns / 2 - 1) g.settled h)
