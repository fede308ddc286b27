-- `put::Out::put_number` meets its contract: the digits before the last are put by the call, and n falls. Assumes nothing.
use Rattle.put.proofs.Out.+put_number.Given as goal

abbrev pub decreases-put_number : goal.decreases-put_number
decreases-put_number l = l.n
