-- What is known of the faults' numbers. Assumes nothing.
use mathlib.Core.Logic.{◌≢◌}
use native.Mathlib.Omega.{arith}
use Rattle.paper.specs.Faults.{number_of}
use Rattle.paper.specs.declared.Fault.{Fault}
use Rattle.paper.specs.declared.Fault.TheVariants.{Room, Shape, Order, Size, Range, Repeat, LeftSide, Sorts, Reaches, SymbolCounts, WitnessRoom, Tree, ModelText, Ambiguous, ModelStates, ModelRules}

-- a fault's number is not 0, which stands for none
pub fault_number : (fault : Fault) → number_of fault ≢ 0
fault_number Room e = omega arith
fault_number Shape e = omega arith
fault_number Order e = omega arith
fault_number Size e = omega arith
fault_number Range e = omega arith
fault_number Repeat e = omega arith
fault_number LeftSide e = omega arith
fault_number Sorts e = omega arith
fault_number Reaches e = omega arith
fault_number SymbolCounts e = omega arith
fault_number WitnessRoom e = omega arith
fault_number Tree e = omega arith
fault_number ModelText e = omega arith
fault_number Ambiguous e = omega arith
fault_number ModelStates e = omega arith
fault_number ModelRules e = omega arith
