-- `embed::baranduk_check` meets its contract: the numbers of what the check of a table tells.
use mathlib.Core.Path.{◌∙◌, ap}
use Rattle.embed.specs.Numbers.{numbers}
use Rattle.embed.proofs.baranduk_check.Goals as goal

pub returns : goal.returns
returns c = c.from.ensures ∙ ap numbers c.check.ensures
