use Prim.Native.Nat.{ℕ}
use mathlib.Core.Path.{◌≡◌, refl, sym, ◌∙◌}
use mathlib.Core.Option.{some}
use mathlib.Core.List.{List}
use borrow.Author.Rules.{rules}
use lib.ListN.{set}
use native.Mathlib.Omega.{arith}
use Rattle.paper.specs.Limits.{limits}
use Rattle.model.specs.Model.{Model}
use Rattle.postfix.specs.Field.{model_in}
use Rattle.model_sets.specs.Sets.{Holds}
use Rattle.model_sets.proofs.Going.{going_start, going_bad, going_past, going_ready, going_room, going_on, going_end}
use Rattle.model_sets.proofs.Cells.{byte_flag}
use Rattle.model_sets.proofs.Kept.{same_start, same_on}
use Rattle.model_sets.proofs.scan.Goals as goal

-- the slices at the end are those of the stack
at_end : (n : ℕ) (f : List ℕ) {B E N B' E' N' : List ℕ} (E₁ N₁ : List ℕ) → E' ≡ E₁ → N' ≡ N₁
    → ((m : Model) → model_in limits n f ≡ some m → Holds limits.states m B E N B' E₁ N₁)
    → (m : Model) → model_in limits n f ≡ some m → Holds limits.states m B E N B' E' N'
at_end n f E₁ N₁ e k h = rw (e, k) h

pub loop-at-init : goal.loop-at-init
loop-at-init c = record { going = going_start limits c.requires refl; bears = refl; same = same_start _ }

pub returns-in_default : goal.returns-in_default
returns-in_default c = absurd (going_bad limits c.loop-at.invariant.going c.loop-at-test.true c.read_token.ensures c.in_default.not-One)

pub bear-requires : goal.bear-requires
bear-requires c = going_room limits c.loop-at.invariant.going c.loop-at-test.true (sym c.read_token.ensures ∙ c.in-One.is)

pub step-requires : goal.step-requires
step-requires c = going_ready limits c.loop-at.invariant.going c.loop-at-test.true (sym c.read_token.ensures ∙ c.in-One.is)

pub loop-at-smaller : goal.loop-at-smaller
loop-at-smaller c = omega (arith, going_past limits c.loop-at.invariant.going c.loop-at-test.true (sym c.read_token.ensures ∙ c.in-One.is))

pub loop-at-preserved : goal.loop-at-preserved
loop-at-preserved c = let k = c.step.ensures.same in
    let v = c.loop-at.invariant in
    record {
      going = going_on limits v.going c.loop-at-test.true (sym c.read_token.ensures ∙ c.in-One.is) c.bear.ensures c.step.ensures.steps c.bear.auto.bears k.ends_length k.next_length k.models_length v.bears;
      bears = c.bear.auto.bears ∙ v.bears;
      same = same_on v.same k;
    }

pub returns : goal.returns
returns c = let v = c.loop-at.invariant in
    at_end _ _ (set c.loop-at.stack.ends.now 0 c.from.result) c.loop-at.stack.next.now (search rules) (search rules)
    (rw (c.from.ensures ∙ byte_flag _) (going_end limits v.going c.loop-at-test.false v.same.ends_length v.same.next_length))
