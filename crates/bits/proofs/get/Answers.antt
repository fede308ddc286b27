-- `bits::get` meets its contract: behind the end every bit is 0, and else it is the bit of its word.
use Rattle.bits.proofs.Sets.{bit_outside, bit_read}
use Rattle.bits.proofs.get.Goals as goal

pub returns-then-words-k : goal.returns-then-words-k
returns-then-words-k c = rw (bit_outside _ _ c.if-words-k.true)

pub returns : goal.returns
returns c = rw (bit_read _ _)
