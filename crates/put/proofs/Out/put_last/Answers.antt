-- `put::Out::put_last` meets its contract: the third number and LF, or LF alone. Assumes nothing.
use Rattle.lines.proofs.FieldLaws.{last_three, last_two}
use Rattle.put.proofs.PutLaws.{fit_as, fit_then}
use Rattle.put.proofs.Out.put_last.Goals.{then-n-eq3, else-n-eq3}
use Rattle.put.proofs.Out.put_last.Goals as goal

pub returns-clause-fit : goal.returns-clause-fit
returns-clause-fit c = elim c.if-n-eq3.branch [
  | then-n-eq3 w ↦ fit_as (last_three _ w.if-n-eq3.true) (fit_then w.write_field.ensures.wrote.fits (rw w.self-is at c.write_byte.ensures.wrote.fits))
  | else-n-eq3 w ↦ fit_as (last_two _ w.if-n-eq3.false) (rw w.self-is at c.write_byte.ensures.wrote.fits)
]
