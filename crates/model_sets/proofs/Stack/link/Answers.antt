use mathlib.Core.Path.{◌∙◌}
use native.Mathlib.Omega.{arith}
use Rattle.paper.specs.Limits.{limits}
use Rattle.model_sets.proofs.Kept.{same_start, stays_start}
use Rattle.model_sets.proofs.Painting.{link_start, link_more, link_skip}
use Rattle.model_sets.proofs.Stack.link.Goals as goal
use Rattle.model_sets.proofs.Stack.link.Goals.{then-self-i-ne0, else-self-i-ne0}

pub loop-i-init : goal.loop-i-init
loop-i-init c = record { linked = link_start limits.states _ _ _ _ _; stays = stays_start _; same = same_start _ }

pub loop-i-preserved : goal.loop-i-preserved
loop-i-preserved c = let l = c.loop-i in
    let g = c.args in
    let v = l.invariant in
    elim c.if-self-i-ne0.branch [
      | then-self-i-ne0 w ↦ rw w.self-is (record {
        linked = link_more limits.states _ _ g.c g.a g.b l.i l.self.next.now c.requires.behind (omega arith) c.requires.narrow v.linked _ (rw v.stays.ends at w.if-self-i-ne0.true) w.link_row.ensures;
        stays = record { ends = v.stays.ends; models = v.stays.models; depth = v.stays.depth; places = v.stays.places };
        same = record { ends = v.same.ends; next = v.same.next; ends_length = v.same.ends_length; next_length = w.link_row.ensures.size ∙ v.same.next_length; models_length = v.same.models_length };
      })
      | else-self-i-ne0 w ↦ rw w.self-is (record {
        linked = link_skip limits.states _ _ g.c g.a g.b l.i l.self.next.now c.requires.behind (omega arith) c.requires.narrow v.linked (rw v.stays.ends at w.if-self-i-ne0.false);
        stays = v.stays;
        same = v.same;
      })
    ]
