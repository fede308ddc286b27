-- `bits::make` meets its contract: a bit that is as it should be stays so, behind the end nothing is made, and else its power is added to its
-- word or taken off it.
use Rattle.std.proofs.Common.{rules}
use Rattle.bits.proofs.Sets.{made_already, bit_differs, put_made, put_fits, clear_made, clear_fits}
use Rattle.bits.proofs.make.Goals as goal

pub returns-then-get-within : goal.returns-then-get-within
returns-then-get-within c = made_already _ _ _ _ c.get.ensures c.if-get-within.true

pub overflow_add-words : goal.overflow_add-words
overflow_add-words c =
    let n = rw c.if-within.true at (bit_differs c.args.words.now c.args.i _ _ c.get.ensures c.if-get-within.false) in
    record { fits = put_fits c.args.words.now c.args.i c.if-words-k.false n (search rules) }

pub returns-then-within : goal.returns-then-within
returns-then-within c =
    let n = rw c.if-within.true at (bit_differs c.args.words.now c.args.i _ _ c.get.ensures c.if-get-within.false) in
    rw c.if-within.true (put_made _ _ c.if-words-k.false n)

pub overflow_sub-words : goal.overflow_sub-words
overflow_sub-words c =
    let n = rw c.if-within.false at (bit_differs c.args.words.now c.args.i _ _ c.get.ensures c.if-get-within.false) in
    clear_fits c.args.words.now c.args.i c.if-words-k.false n

pub returns : goal.returns
returns c =
    let n = rw c.if-within.false at (bit_differs c.args.words.now c.args.i _ _ c.get.ensures c.if-get-within.false) in
    rw c.if-within.false (clear_made _ _ c.if-words-k.false n)
