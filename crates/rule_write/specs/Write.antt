-- How a table is written as a rule text, and what the writer tells.
use Rattle.std.specs.Prelude.{ℕ, zero, suc, ◌+◌, ◌*◌, ◌/◌, ◌<◌, ◌≡◌, List, [], ◌++◌, length, Result, Ok, Err}
use Rattle.std.proofs.Math.Logic.{ite}
use Rattle.std.proofs.Math.Decide.{dec_lt}
use Rattle.paper.specs.Limits.{Limits, at}
use Rattle.paper.specs.Told.{Told, refused, written, refusal, after, filled}
use Rattle.table.specs.Rules.{sort_of, final_of}
use Rattle.table.specs.Check.{table_checked, TableRefused, Sound}
use Rattle.paper.specs.declared.Refusal.{Refusal}
use Rattle.rule_line.specs.Line.{rule_of, line_text}
use Rattle.rule_line.specs.declared.Line.{Line}
use Rattle.rule_line.specs.declared.Line.TheVariants.{Head, State}

-- what the line of state i and the line of rule i say
abbrev pub state_line_of : List ℕ → ℕ → Line
state_line_of ms i = State i (sort_of (at ms i)) (final_of (at ms i))

abbrev pub rule_line_of : ℕ → List ℕ → ℕ → Line
rule_line_of w xs i = rule_of (at xs (i * w)) (at xs (i * w + 1)) (at xs (i * w + 2)) (at xs (i * w + 3))

-- the lines of the first n states, and of the first n rules
unfoldable pub states_text_of : List ℕ → ℕ → List ℕ
states_text_of ms zero = []
states_text_of ms (suc i) = states_text_of ms i ++ line_text (state_line_of ms i)

unfoldable pub rules_text_of : ℕ → List ℕ → ℕ → List ℕ
rules_text_of w xs zero = []
rules_text_of w xs (suc i) = rules_text_of w xs i ++ line_text (rule_line_of w xs i)

-- the text of a table: its head, its states in order, its rules in order
unfoldable pub table_text_of : ℕ → ℕ → List ℕ → List ℕ → List ℕ
table_text_of w symbols ms xs = line_text (Head symbols (length ms)) ++ (states_text_of ms (length ms) ++ rules_text_of w xs (length xs / w))

-- 1: the slice for the text is too short
abbrev pub NoRoom : Limits → List ℕ → Type 0
NoRoom L O = length O < L.text

abbrev pub no_room? : (L : Limits) (O : List ℕ) → Dec (NoRoom L O)
no_room? L O = dec_lt (length O) L.text

-- what the writer tells that is lent O for the text: the table's refusals, then 1
unfoldable pub write_told : Limits → ℕ → List ℕ → List ℕ → List ℕ → Told
write_told L symbols ms xs O =
    after (table_checked L symbols ms xs)
    (ite (no_room? L O) (refused 1 0 0) (written (length (table_text_of L.width symbols ms xs))))

-- the refusals of the writer that is lent O, as "given exactly if": the table's own go first, then 1, of the whole
-- (`write_refused_exactly` of proofs/Exact)
pub data WriteRefused (L : Limits) (symbols : ℕ) (ms xs O : List ℕ) : ℕ → ℕ → ℕ → Type 0 where
  bad_table : {n s p : ℕ} → TableRefused L symbols ms xs n s p → WriteRefused L symbols ms xs O n s p
  short_slice : Sound L symbols ms xs → NoRoom L O → WriteRefused L symbols ms xs O 1 0 0

-- what writing a rule text answers: so many bytes, or a refusal
abbrev pub Writing : Type 0
Writing = Result ℕ Refusal

-- what the writer's answer tells
abbrev pub told : Writing → Told
told (Ok n) = written n
told (Err x) = refusal x

-- what the writer answers, and what it leaves in the slice
pub record Writes (L : Limits) (symbols : ℕ) (ms xs O : List ℕ) (r : Writing) (O' : List ℕ) : Type 0 where
  pub answer : told r ≡ write_told L symbols ms xs O
  pub text : O' ≡ filled (write_told L symbols ms xs O) (table_text_of L.width symbols ms xs) O
