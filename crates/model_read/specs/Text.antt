-- What a model text says, and what is wrong in 13 and 15.
use Rattle.std.specs.Prelude.{ℕ, zero, suc, ◌-◌, ◌+◌, ◌≤◌, ◌<◌, ◌≡◌, ◌⊎◌, List, [], ◌∷◌, map, length, get_or, take, Result, Ok, Err}
use Rattle.std.proofs.Math.Logic.{ite}
use Rattle.std.proofs.Math.Decide.{ℕ_discrete, dec_le, dec_lt}
use Rattle.paper.specs.Limits.{Limits}
use Rattle.paper.specs.Told.{Told, refused, sizes, refusal}
use Rattle.paper.specs.First.{first}
use Rattle.paper.specs.Tests.{dec_or, dec_below}
use Rattle.lines.specs.Lines.{lines, line_at}
use Rattle.model.specs.Model.{Model, empty}
use Rattle.model_line.specs.Line.{Said, head, content, misshapen, says}
use Rattle.compiled.specs.States.{states}
use Rattle.model.specs.Documents.{Line}
use Rattle.model_read.specs.declared.Survey.{Survey}
use Rattle.paper.specs.declared.Refusal.{Refusal}

-- the symbols and the start that a header says; none without a header
unfoldable pub symbols_of : Said → ℕ
symbols_of (head y s) = y
symbols_of (content a m) = 0
symbols_of misshapen = 0

unfoldable pub start_of : Said → ℕ
start_of (head y s) = s
start_of (content a m) = 0
start_of misshapen = 0

-- line k of these, counted from 0; one that is missing says nothing
abbrev pub said_at : List Said → ℕ → Said
said_at ls k = get_or ls k misshapen

-- the symbols of a text: those that its first line says
unfoldable pub symbols_in : Limits → List ℕ → ℕ
symbols_in L s = symbols_of (says L 0 (line_at s 0))

-- what the lines of a text say, over the text's symbols
unfoldable pub said_by : Limits → List ℕ → List Said
said_by L s = map (says L (symbols_in L s)) (lines s)

-- the M lines of these lines, in their order
unfoldable pub models_of : List Said → List Line
models_of [] = []
models_of (head y s ∷ ls) = models_of ls
models_of (content a m ∷ ls) = record { of = a; model = m } ∷ models_of ls
models_of (misshapen ∷ ls) = models_of ls

-- one of these M lines has the symbol a
abbrev pub Modelled : List Line → ℕ → Type 0
Modelled ms a = (j : ℕ) × (j < length ms) × ((get_or ms j (record { of = 0; model = empty })).of ≡ a)

unfoldable pub modelled? : (ms : List Line) (a : ℕ) → Dec (Modelled ms a)
modelled? ms a = dec_below _ (λ j. ℕ_discrete _ _) (length ms)

-- a header's symbols are outside 1 to the most, or its start is not below them
abbrev pub BadHead : Limits → ℕ → ℕ → Type 0
BadHead L y s = (y ≡ 0) ⊎ ((L.symbols < y) ⊎ (y ≤ s))

-- the symbol of an M line is not below the symbols, or an earlier line has it
abbrev pub BadSymbol : ℕ → List Line → ℕ → Type 0
BadSymbol n before a = (n ≤ a) ⊎ Modelled before a

unfoldable pub bad_head? : (L : Limits) (y s : ℕ) → Dec (BadHead L y s)
bad_head? L y s = dec_or (ℕ_discrete _ _) (dec_or (dec_lt _ _) (dec_le _ _))

unfoldable pub bad_symbol? : (n : ℕ) (before : List Line) (a : ℕ) → Dec (BadSymbol n before a)
bad_symbol? n before a = dec_or (dec_le _ _) (modelled? before a)

-- 13 or 0, of the first line and of a line over n symbols behind these M lines
unfoldable pub head_fault_of : Limits → Said → ℕ
head_fault_of L (head y s) = ite (bad_head? L y s) 13 0
head_fault_of L (content a m) = 13
head_fault_of L misshapen = 13

unfoldable pub line_fault_of : ℕ → List Line → Said → ℕ
line_fault_of n before (head y s) = 13
line_fault_of n before (content a m) = ite (bad_symbol? n before a) 13 0
line_fault_of n before misshapen = 13

-- 13 or 0, of line k of these lines, counted from 0
unfoldable pub fault_at : Limits → List Said → ℕ → ℕ
fault_at L ls zero = head_fault_of L (said_at ls 0)
fault_at L ls (suc k) = line_fault_of (symbols_of (said_at ls 0)) (models_of (take (suc k) ls)) (said_at ls (suc k))

-- the lines that are looked at: all of them, and the first even where it is missing
abbrev pub looked_at : List Said → ℕ
looked_at ls = suc (length ls - 1)

-- 15: the table needs too many states
abbrev pub TooManyStates : Limits → ℕ → List Line → Type 0
TooManyStates L n ms = L.states < length (states n ms)

-- what a model text tells before its models are looked into: 13 at its first faulty line; then 15; or else its sizes
unfoldable pub survey_told : Limits → List ℕ → Told
survey_told L s =
    let ls = said_by L s in
    let n = symbols_in L s in
    first (fault_at L ls) (looked_at ls)
    (ite (dec_lt L.states (length (states n (models_of ls)))) (refused 15 0 0)
    (sizes n (start_of (said_at ls 0)) (length (states n (models_of ls)))))

-- what can be wrong with the first line, and with a line over n symbols behind these M lines
pub data HeadWrong (L : Limits) : Said → Type 0 where
  no_head : HeadWrong L misshapen
  model_first : {a : ℕ} {m : Model} → HeadWrong L (content a m)
  head_range : {y s : ℕ} → BadHead L y s → HeadWrong L (head y s)

pub data LineWrong (n : ℕ) (before : List Line) : Said → Type 0 where
  no_shape : LineWrong n before misshapen
  second_head : {y s : ℕ} → LineWrong n before (head y s)
  symbol_range : {a : ℕ} {m : Model} → n ≤ a → LineWrong n before (content a m)
  symbol_again : {a : ℕ} {m : Model} → Modelled before a → LineWrong n before (content a m)

-- what can be wrong with line k of these lines, counted from 0
abbrev pub WrongAt : Limits → List Said → ℕ → Type 0
WrongAt L ls zero = HeadWrong L (said_at ls 0)
WrongAt L ls (suc k) = LineWrong (symbols_of (said_at ls 0)) (models_of (take (suc k) ls)) (said_at ls (suc k))

-- a text without such a fault
abbrev pub WellFormed : Limits → List ℕ → Type 0
WellFormed L s = (k : ℕ) → k < looked_at (said_by L s) → ¬ WrongAt L (said_by L s) k

-- 13 and 15, as "given exactly if": number, side and place (`survey_refused_exactly` of proofs/Exact)
pub data SurveyRefused (L : Limits) (s : List ℕ) : ℕ → ℕ → ℕ → Type 0 where
  malformed : {k : ℕ} → k < looked_at (said_by L s) → WrongAt L (said_by L s) k
      → ((j : ℕ) → j < k → ¬ WrongAt L (said_by L s) j) → SurveyRefused L s 13 0 (k + 1)
  too_many_states : WellFormed L s → TooManyStates L (symbols_in L s) (models_of (said_by L s)) → SurveyRefused L s 15 0 0

-- what the survey's answer tells
abbrev pub told : Result Survey Refusal → Told
told (Ok x) = sizes x.symbols x.start x.states
told (Err r) = refusal r
