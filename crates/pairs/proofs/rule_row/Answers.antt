-- `pairs::rule_row` meets its contract.
use mathlib.Core.Path.{refl, sym}
use native.Mathlib.Omega.{arith}
use lib.ListN.{length}
use Rattle.paper.specs.Limits.{limits}
use Rattle.table.proofs.Rows.{row_below}
use Rattle.pairs.proofs.rule_row.Goals as goal

pub returns-in-Some : goal.returns-in-Some
returns-in-Some c = let e = c.in-Some.ensures in record {
  inside = λ h. record { kind = sym e.kind; left = sym e.left; right = sym e.right; to = sym e.target };
  outside = λ n. absurd (n e.inside);
}

pub returns-in-None : goal.returns-in-None
returns-in-None c = record {
  inside = λ h. absurd (omega (arith, row_below {w = limits.width} (omega arith) (length c.args.rules.now) c.args.i h, c.in-None.ensures));
  outside = λ _. refl;
}
