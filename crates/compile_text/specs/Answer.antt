-- The text of the answer to a model text.
use Rattle.std.specs.Prelude.{ℕ, List}
use Rattle.paper.specs.Limits.{Limits}
use Rattle.model_read.specs.Text.{symbols_in}
use Rattle.model_table.specs.Compile.{model_told, the_marks_by, rules_by}
use Rattle.rule_write.specs.Write.{table_text_of}
use Rattle.answers.specs.Lines.{refusal_or}

-- the rule text of the models' table, or the line of the refusal that the models are given
unfoldable pub compile_text_of : Limits → List ℕ → List ℕ
compile_text_of L s = refusal_or (model_told L s) (table_text_of L.width (symbols_in L s) (the_marks_by L s) (rules_by L s))
