use mathlib.Core.Path.{sym}
use native.Mathlib.Omega.{arith}
use Prim.Native.Nat.{◌<◌, ◌≤◌, ◌^◌}
use Rattle.lines.proofs.NumberLaws.{decimal_one, decimal_last}
use Rattle.put.proofs.PutLaws.{fit_as, fit_then}
use Rattle.put.proofs.Out.+put_number.Goals as goal

pub returns-then-n-lt10-clause-fit : goal.returns-then-n-lt10-clause-fit
returns-then-n-lt10-clause-fit t c = fit_as (sym (decimal_one _ c.if-n-lt10.true)) c.write_byte.ensures.wrote.fits

pub returns-else-n-lt10-clause-fit : goal.returns-else-n-lt10-clause-fit
returns-else-n-lt10-clause-fit t c =
    let n = c.args.n in
    let h : 10 ≤ n = c.if-n-lt10.false in
    let g : n < 2 ^ 64 = omega (arith, c.ranges.n) in
    fit_as (sym (decimal_last n h g)) (fit_then c.put_number.ensures.fit c.write_byte-else-n-lt10.ensures.wrote.fits)
