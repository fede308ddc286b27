-- What an answer tells that is a table at the fronts of the lent slices, or a refusal.
use Rattle.std.specs.Prelude.{Result, Ok, Err}
use Rattle.paper.specs.Told.{Told, refusal, holds}
use Rattle.paper.specs.declared.Refusal.{Refusal}
use Rattle.table.specs.declared.Sizes.{Sizes}

abbrev pub sizes_told : Result Sizes Refusal → Told
sizes_told (Ok t) = holds t.symbols t.states t.rules
sizes_told (Err r) = refusal r
