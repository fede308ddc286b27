-- `lines::read_number` meets its contract. Assumes nothing.
use borrow.Author.Rules.{rules}
use mathlib.Core.Path.{◌∙◌, refl, sym}
use native.Mathlib.Omega.{arith}
use mathlib.Core.Path.{◌≡◌}
use lib.ListN.{length}
use Rattle.lines.proofs.NumberSteps.{number_end, number_bad, number_more, more_end, more_stop, more_zero, more_over, more_digit}
use Rattle.lines.proofs.read_number.Goals as goal

pub returns-then-s-at : goal.returns-then-s-at
returns-then-s-at c = sym (number_end _ _ c.if-s-at.true)

pub returns-in_default : goal.returns-in_default
returns-in_default c = sym (number_bad _ _ (search rules) refl (omega (arith, c.in_default.ensures)))

pub loop-i-init : goal.loop-i-init
loop-i-init c = let d = c.in-Some.ensures in (omega arith, omega (arith, d), number_more _ _ (search rules) d.1 (omega (arith, d)))

pub returns-in_default-digit_of : goal.returns-in_default-digit_of
returns-in_default-digit_of c = let l = c.loop-i in
    sym (l.invariant.2 ∙ more_stop _ _ (search rules) refl _ (omega (arith, c.in_default-digit_of.ensures)))

pub returns-then-v-eq0 : goal.returns-then-v-eq0
returns-then-v-eq0 c = let l = c.loop-i in let d = c.in-Some-digit_of.ensures in
    sym (l.invariant.2 ∙ more_zero _ _ (search rules) d.1 (omega (arith, d)) c.if-v-eq0.true)

pub returns-then-w-gt-MOST_NUMBER : goal.returns-then-w-gt-MOST_NUMBER
returns-then-w-gt-MOST_NUMBER c = let l = c.loop-i in let d = c.in-Some-digit_of.ensures in
    sym (l.invariant.2 ∙ more_over _ _ (search rules) d.1 (omega (arith, d)) c.if-v-eq0.false c.if-w-gt-MOST_NUMBER.true)

pub loop-i-preserved : goal.loop-i-preserved
loop-i-preserved c = let l = c.loop-i in let d = c.in-Some-digit_of.ensures in (
  omega arith,
  omega arith,
  l.invariant.2 ∙ more_digit _ _ (search rules) d.1 (omega (arith, d)) c.if-v-eq0.false c.if-w-gt-MOST_NUMBER.false,
)

pub returns : goal.returns
returns c = let l = c.loop-i in
    let e : l.i ≡ length c.args.s.now = omega arith in
    sym (rw e at (l.invariant.2 ∙ more_end _ _ _ c.loop-i-test.false))
