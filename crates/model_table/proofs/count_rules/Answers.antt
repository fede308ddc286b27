use mathlib.Core.Path.{◌≡◌}
use Prim.Native.Nat.{◌+◌}
use native.Mathlib.Omega.{arith}
use Rattle.paper.specs.Limits.{limits}
use Rattle.model_table.specs.Work.{is_set, starts_at}
use Rattle.model_read.proofs.Few.{one}
use Rattle.model_table.proofs.CountLaws.{from_le, flag_yes, flag_no, answer_yes, answer_no}
use Rattle.model_table.proofs.CountLaws.{counting_none, counting_more, counting_all}
use Rattle.model_table.proofs.count_rules.Goals as goal
use Rattle.model_table.proofs.count_rules.Goals.{then-s-q-ne0, else-s-q-ne0, then-is_initial, else-is_initial}

pub loop-q-init : goal.loop-q-init
loop-q-init c = counting_none limits.states _ _ _ _ _

pub overflow_add-n : goal.overflow_add-n
overflow_add-n c = let x = c.args in
    omega (arith, c.count_next-n.ensures, from_le limits.states x.s.count x.s.next.now c.loop-q.q)

pub overflow_add-n-then-s-q-ne0 : goal.overflow_add-n-then-s-q-ne0
overflow_add-n-then-s-q-ne0 c = let x = c.args in
    let q = c.loop-q.q in
    omega (arith, c.count_next-n.ensures, from_le limits.states x.s.count x.s.next.now q)

pub overflow_add-n-then-is_initial : goal.overflow_add-n-then-is_initial
overflow_add-n-then-is_initial c =
    let x = c.args in
    let l = from_le limits.states x.s.count x.s.next.now c.loop-q.q in
    let e = c.count_next-n.ensures in
    elim c.if-s-q-ne0.branch [
      | then-s-q-ne0 w ↦ omega (arith, w.n-is, e)
      | else-s-q-ne0 w ↦ omega (arith, w.n-is, e)
    ]

pub loop-q-preserved : goal.loop-q-preserved
loop-q-preserved c =
    let x = c.args in
    let l = c.loop-q in
    let r = c.count_next-n in
    let t = c.is_initial in
    let n = c.if-s-q-ne0.n in
    let E = x.s.ends.now in
    let b = starts_at x.s.bears.now x.s.owners.now l.q in
    let d : n ≡ l.n + r.result + one (is_set E l.q) =
    elim c.if-s-q-ne0.branch [
      | then-s-q-ne0 w ↦ omega (arith, w.n-is, flag_yes E l.q w.if-s-q-ne0.true)
      | else-s-q-ne0 w ↦ omega (arith, w.n-is, flag_no E l.q w.if-s-q-ne0.false)
    ] in
    let e : c.if-is_initial.n ≡ n + one b =
    elim c.if-is_initial.branch [
      | then-is_initial w ↦ omega (arith, w.n-is, answer_yes t.result b t.ensures w.if-is_initial.true)
      | else-is_initial w ↦ omega (arith, w.n-is, answer_no t.result b t.ensures w.if-is_initial.false)
    ] in
    counting_more limits.states _ _ _ _ _ _ (omega arith) l.invariant (omega (arith, d, e, r.ensures))

pub returns : goal.returns
returns c = let e : c.loop-q.q ≡ c.args.s.count = omega arith in
    counting_all limits.states _ _ _ _ _ (rw e at c.loop-q.invariant)
