-- What each function promises: the promise of the one function that it calls, in the numbers of what that one tells.
use Rattle.std.specs.Prelude.{ℕ, ◌≡◌, List}
use Rattle.paper.specs.Limits.{limits}
use Rattle.paper.specs.Told.{Told, check_told}
use Rattle.table.specs.Check.{table_checked}
use Rattle.receiver.specs.Check.{ReceiverChecked}
use Rattle.rule_read.specs.Text as reading
use Rattle.rule_write.specs.Write as writing
use Rattle.model_table.specs.Compile as compiling
use Rattle.accept.specs.Accept as accepting
use Rattle.inclusion.specs.Inclusion as including
use Rattle.embed.specs.declared.Answer.{Answer}
use Rattle.embed.specs.Numbers.{numbers}

-- a is the six numbers of what some answer x tells of which P holds
pub record Says {X : Type 0} (told : X → Told) (P : X → Type 0) (a : Answer) : Type 0 where
  pub answer : X
  pub promise : P answer
  pub same : a ≡ numbers (told answer)

-- the reader of rule texts: text, marks and rules before; marks and rules after
abbrev pub ReadSays : List ℕ → List ℕ → List ℕ → Answer → List ℕ → List ℕ → Type 0
ReadSays s M W a M' W' = Says reading.told (λ x. reading.Reads limits s M W x M' W') a

-- the writer of rule texts: symbols, marks, rules and the text slice before; the text slice after
abbrev pub WriteSays : ℕ → List ℕ → List ℕ → List ℕ → Answer → List ℕ → Type 0
WriteSays symbols ms xs O a O' = Says writing.told (λ x. writing.Writes limits symbols ms xs O x O') a

-- the compiler of model texts: text, marks and rules before; marks and rules after
abbrev pub CompileSays : List ℕ → List ℕ → List ℕ → Answer → List ℕ → List ℕ → Type 0
CompileSays s M W a M' W' = Says compiling.told (λ x. compiling.Compiles limits s M W x M' W') a

-- the check of a table, and of a receiver's table: symbols, marks and rules
abbrev pub CheckSays : ℕ → List ℕ → List ℕ → Answer → Type 0
CheckSays symbols ms xs a = a ≡ numbers (table_checked limits symbols ms xs)

abbrev pub ReceiverSays : ℕ → List ℕ → List ℕ → Answer → Type 0
ReceiverSays symbols ms xs a = Says check_told (λ x. ReceiverChecked limits symbols ms xs (check_told x)) a

-- acceptance: symbols, marks, rules and the nodes of the tree
abbrev pub AcceptSays : ℕ → List ℕ → List ℕ → List ℕ → Answer → Type 0
AcceptSays symbols ms xs ns a = Says accepting.told (λ x. accepting.Judged limits symbols ms xs ns (accepting.told x)) a

-- the inclusion test: both tables and the witness slice before; the witness slice after
abbrev pub IncludeSays : including.Lent → including.Lent → List ℕ → Answer → List ℕ → Type 0
IncludeSays A B ws a ws' = Says including.told (λ x. including.Answered limits A B ws ws' (including.told x)) a
