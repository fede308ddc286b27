-- The faults for which something is refused, and the numbers that the paper gives them; and whose a refusal is.
use Rattle.std.specs.Prelude.{ℕ, Option, Some, None}
use Rattle.paper.specs.declared.Fault.{Fault}
use Rattle.paper.specs.declared.Fault.TheVariants.{Room, Shape, Order, Size, Range, Repeat, LeftSide, Sorts, Reaches, SymbolCounts, WitnessRoom, Tree, ModelText, Ambiguous, ModelStates, ModelRules}
use Rattle.paper.specs.declared.Side.{Side}
use Rattle.paper.specs.declared.Side.TheVariants.{Sender, Receiver}

-- the number of a fault
abbrev pub number_of : Fault → ℕ
number_of Room = 1
number_of Shape = 2
number_of Order = 3
number_of Size = 4
number_of Range = 5
number_of Repeat = 6
number_of LeftSide = 7
number_of Sorts = 8
number_of Reaches = 9
number_of SymbolCounts = 10
number_of WitnessRoom = 11
number_of Tree = 12
number_of ModelText = 13
number_of Ambiguous = 14
number_of ModelStates = 15
number_of ModelRules = 16

-- the number of a side
abbrev pub number_of_side : Side → ℕ
number_of_side Sender = 1
number_of_side Receiver = 2

-- the number of the fault, if there is one, or 0
abbrev pub number_if : Option Fault → ℕ
number_if None = 0
number_if (Some fault) = number_of fault
