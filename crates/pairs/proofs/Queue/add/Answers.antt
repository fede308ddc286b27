-- `pairs::Queue::add` meets its contract: the pair is there, or it is put at the end of the queue.
use Rattle.pairs.specs.Work.{new, old}
use Rattle.pairs.proofs.Queue.add.Goals as goal

pub returns-then-not-fits-clause-added : goal.returns-then-not-fits-clause-added
returns-then-not-fits-clause-added c = old (λ x. c.fits.ensures.no c.if-not-fits.true x.0)

pub returns-then-self-c-ne0-clause-added : goal.returns-then-self-c-ne0-clause-added
returns-then-self-c-ne0-clause-added c = old (λ x. c.if-self-c-ne0.true x.1)

pub returns-clause-added : goal.returns-clause-added
returns-clause-added c = rw (c.put.ensures.put, c.put.ensures.count) (new (c.fits.ensures.yes c.if-not-fits.false) c.if-self-c-ne0.false)
