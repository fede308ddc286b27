use mathlib.Core.Path.{sym, ◌∙◌}
use native.Mathlib.Omega.{arith}
use Rattle.postfix.proofs.Stack.{adds_one, reached_start, reached_bad, token_past, reached_over, reached_short, reached_more, reached_one, reached_many}
use Rattle.postfix.proofs.read_model.Goals as goal

pub loop-at-init : goal.loop-at-init
loop-at-init c = reached_start _ _ _

pub returns-in_default : goal.returns-in_default
returns-in_default c =
    reached_bad c.loop-at.invariant c.loop-at-test.true c.read_token.ensures c.in_default.not-One

pub returns-then-count-eq-TOKENS : goal.returns-then-count-eq-TOKENS
returns-then-count-eq-TOKENS c =
    let l = c.loop-at.invariant in
    let t = c.loop-at-test.true in
    let e = sym c.read_token.ensures ∙ c.in-One.is in
    reached_over l t e (omega (arith, c.if-count-eq-TOKENS.true))

pub returns-then-depth-k : goal.returns-then-depth-k
returns-then-depth-k c =
    let l = c.loop-at.invariant in
    let t = c.loop-at-test.true in
    let e = sym c.read_token.ensures ∙ c.in-One.is in
    reached_short l t e (omega (arith, c.takes-k.ensures))

pub overflow_add-places : goal.overflow_add-places
overflow_add-places c =
    let s = adds_one c.in-One.token in
    omega (arith, c.loop-at.invariant, c.adds-places.ensures)

pub loop-at-smaller : goal.loop-at-smaller
loop-at-smaller c =
    let l = c.loop-at.invariant in
    let t = c.loop-at-test.true in
    let e = sym c.read_token.ensures ∙ c.in-One.is in
    omega (arith, token_past l t e)

pub loop-at-preserved : goal.loop-at-preserved
loop-at-preserved c =
    let l = c.loop-at.invariant in
    let t = c.loop-at-test.true in
    let e = sym c.read_token.ensures ∙ c.in-One.is in
    let k = c.takes-k.ensures in
    let a = c.adds-places.ensures in
    let n = c.if-count-eq-TOKENS.false in
    reached_more l t e (omega (arith, l.few, n)) (omega (arith, k)) (omega (arith, k)) (omega (arith, a))

pub returns-then-depth-eq1 : goal.returns-then-depth-eq1
returns-then-depth-eq1 c = reached_one c.loop-at.invariant c.loop-at-test.false (omega (arith, c.if-depth-eq1.true))

pub returns : goal.returns
returns c = reached_many c.loop-at.invariant c.loop-at-test.false (λ z. omega (arith, c.if-depth-eq1.false, z))
