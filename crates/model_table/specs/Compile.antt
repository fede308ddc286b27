-- What turning a model text into a table tells, and what the lent slices then hold.
use Rattle.std.specs.Prelude.{ℕ, ◌+◌, ◌<◌, ◌≡◌, List, length, Result}
use Rattle.std.proofs.Math.Logic.{ite}
use Rattle.std.proofs.Math.Decide.{dec_lt}
use Rattle.paper.specs.Limits.{Limits}
use Rattle.paper.specs.Told.{Told, refused, holds, after, filled}
use Rattle.paper.specs.First.{first}
use Rattle.table.specs.Told.{sizes_told}
use Rattle.table.specs.Room.{NoRoom, no_room?}
use Rattle.compiled.specs.States.{states, marks}
use Rattle.compiled.specs.Rules.{rules, numbers}
use Rattle.model_read.specs.Text.{symbols_in, said_by, TooManyStates, survey_told, WellFormed, SurveyRefused}
use Rattle.model_fill.specs.Ambiguity.{models_in, start_in, ambiguity_at, AmbiguousAt}
use Rattle.paper.specs.declared.Refusal.{Refusal}
use Rattle.table.specs.declared.Sizes.{Sizes}

-- the marks of its table, and the numbers of its rules
unfoldable pub the_marks_by : Limits → List ℕ → List ℕ
the_marks_by L s = marks (start_in L s) (symbols_in L s) (models_in L s)

unfoldable pub rules_by : Limits → List ℕ → List ℕ
rules_by L s = numbers (rules (symbols_in L s) (models_in L s))

-- 16: the table needs too many rules
abbrev pub TooManyRules : Limits → List ℕ → Type 0
TooManyRules L s = L.rules < length (rules (symbols_in L s) (models_in L s))

-- what a model text tells: 13 and 15; 14 at its first line; 16; or the table
unfoldable pub model_told : Limits → List ℕ → Told
model_told L s =
    let ls = said_by L s in
    let n = symbols_in L s in
    let ms = models_in L s in
    after (survey_told L s)
    (first (ambiguity_at ls) (length ls)
    (ite (dec_lt L.rules (length (rules n ms))) (refused 16 0 0) (holds n (length (states n ms)) (length (rules n ms)))))

-- what compiling a text tells that is lent M for the marks and W for the rules: 1 goes first
unfoldable pub compile_told : Limits → List ℕ → List ℕ → List ℕ → Told
compile_told L s M W = ite (no_room? L M W) (refused 1 0 0) (model_told L s)

-- a text is well-formed, its table has no state too many, and there is room for every table
pub record Fit (L : Limits) (s M W : List ℕ) : Type 0 where
  pub room : ¬ NoRoom L M W
  pub well_formed : WellFormed L s
  pub states : ¬ TooManyStates L (symbols_in L s) (models_in L s)

-- the refusals of a model text, as "given exactly if": number, side and place (`compile_refused_exactly` of proofs/Exact)
pub data CompileRefused (L : Limits) (s M W : List ℕ) : ℕ → ℕ → ℕ → Type 0 where
  short_slice : NoRoom L M W → CompileRefused L s M W 1 0 0
  bad_text : {n d p : ℕ} → ¬ NoRoom L M W → SurveyRefused L s n d p → CompileRefused L s M W n d p
  ambiguous_model : {k : ℕ} → Fit L s M W → AmbiguousAt (said_by L s) k → ((j : ℕ) → j < k → ¬ AmbiguousAt (said_by L s) j)
      → CompileRefused L s M W 14 0 (k + 1)
  too_many_rules : Fit L s M W → ((j : ℕ) → ¬ AmbiguousAt (said_by L s) j) → TooManyRules L s → CompileRefused L s M W 16 0 0

-- what is answered, and what that tells
abbrev pub Compiled : Type 0
Compiled = Result Sizes Refusal

abbrev pub told : Compiled → Told
told = sizes_told

-- what is answered, and what the slices then hold
pub record Compiles (L : Limits) (s M W : List ℕ) (r : Compiled) (M' W' : List ℕ) : Type 0 where
  pub answer : told r ≡ compile_told L s M W
  pub marks : M' ≡ filled (compile_told L s M W) (the_marks_by L s) M
  pub rules : W' ≡ filled (compile_told L s M W) (rules_by L s) W
