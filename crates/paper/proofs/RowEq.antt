-- Two rows are told to be equal exactly if their numbers are. Assumes nothing.
use Rattle.std.specs.Prelude.{◌≡◌, true}
use Rattle.std.proofs.Common.{rules}
use Rattle.paper.specs.declared.RuleRow.{RuleRow}
use Rattle.paper.specs.contracts.RuleRowPartialEq as eq

pub row_eq : (r s : RuleRow) → eq.TheImpl.eq-value.it r s ≡ true → r ≡ s
row_eq r s e = search rules

pub row_eq_same : (r s : RuleRow) → r ≡ s → eq.TheImpl.eq-value.it r s ≡ true
row_eq_same r s e = search rules
