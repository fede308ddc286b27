-- What a model text tells once its models are looked into, and what is then kept of its states.
use Rattle.std.specs.Prelude.{ℕ, ◌*◌, ◌≡◌, List, length, Result, Ok, Err}
use Rattle.std.proofs.Math.Logic.{ite}
use Rattle.std.proofs.Math.Logic.Dec
use Rattle.std.proofs.Math.Decide.{ℕ_discrete, map_dec}
use Rattle.paper.specs.Limits.{Limits}
use Rattle.paper.specs.Told.{Told, refused, sizes, refusal, after}
use Rattle.paper.specs.declared.Refusal.{Refusal}
use Rattle.paper.specs.First.{first}
use Rattle.compiled.specs.States.{states}
use Rattle.model_read.specs.Text.{symbols_in, said_by, survey_told, SurveyRefused}
use Rattle.model_fill.specs.Ambiguity.{models_in, ambiguity_at}
use Rattle.model_fill.specs.Kept.{Long, Kept}
use Rattle.model_fill.specs.Work.{KeptTo}
use Rattle.model_read.specs.declared.Survey.{Survey}
use Rattle.model_fill.specs.declared.Unfilled.{Unfilled}
use Rattle.model_fill.specs.declared.Unfilled.TheVariants.{Ambiguous, Refused, Unfit}

-- what is answered: the sizes, or why the states are not filled in
abbrev pub Filling : Type 0
Filling = Result Survey Unfilled

-- how it is refused that states are not filled in
abbrev pub refusal_of : Unfilled → Refusal
refusal_of (Ambiguous k) = record { number = 14; side = 0; place = k }
refusal_of (Refused x) = x
refusal_of Unfit = record { number = 1; side = 0; place = 0 }

unfoldable pub long? : (stride : ℕ) (B O E N : List ℕ) → Dec (Long stride B O E N)
long? stride B O E N =
    map_dec
    {A = (length B ≡ stride) × ((length O ≡ stride) × ((length E ≡ stride) × (length N ≡ stride * stride)))}
    (λ x. record { bears = x.0; owners = x.1.0; ends = x.1.1.0; next = x.1.1.1 })
    (λ r. (r.bears, (r.owners, (r.ends, r.next))))
    (Dec.and (ℕ_discrete _ _) (Dec.and (ℕ_discrete _ _) (Dec.and (ℕ_discrete _ _) (ℕ_discrete _ _))))

-- what a text tells that is lent slices of one stride: 1 where they are of other lengths; 13 and 15; 14; or else its sizes
unfoldable pub fill_told : Limits → List ℕ → List ℕ → List ℕ → List ℕ → List ℕ → Told
fill_told L s B O E N =
    ite (long? L.states B O E N) (after (survey_told L s) (first (ambiguity_at (said_by L s)) (length (said_by L s)) (survey_told L s)))
    (refused 1 0 0)

-- what each answer tells, as it is told of the text that is compiled
unfoldable pub told : Filling → Told
told (Ok x) = sizes x.symbols x.start x.states
told (Err u) = refusal (refusal_of u)

-- four slices are as they were
abbrev pub Unchanged : List ℕ → List ℕ → List ℕ → List ℕ → List ℕ → List ℕ → List ℕ → List ℕ → Type 0
Unchanged B O E N B' O' E' N' = (B' ≡ B) × ((O' ≡ O) × ((E' ≡ E) × (N' ≡ N)))

-- what is answered, and what the slices then hold: of the sizes, all states; of an ambiguous model, those up to its line; else nothing is
-- changed
pub record FillsStates (L : Limits) (s B O E N : List ℕ) (r : Filling) (B' O' E' N' : List ℕ) : Type 0 where
  pub answer : told r ≡ fill_told L s B O E N
  pub whole : {x : Survey} → r ≡ Ok x → Kept L.states (states (symbols_in L s) (models_in L s)) B' O' E' N'
  pub ambiguous : {k : ℕ} → r ≡ Err (Ambiguous k) → KeptTo L s k B' O' E' N'
  pub refuses : {x : Refusal} → r ≡ Err (Refused x) → SurveyRefused L s x.number x.side x.place × Unchanged B O E N B' O' E' N'
  pub unfit : r ≡ Err Unfit → ¬ Long L.states B O E N × Unchanged B O E N B' O' E' N'
