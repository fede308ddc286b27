-- What a text without a fault is good for: its header, its M lines, and what its survey tells of it. Assumes nothing.
use Prim.Native.Nat.{ℕ, zero, suc, ◌+◌, ◌-◌, ◌*◌, ◌≤◌, ◌<◌}
use mathlib.Core.Path.{◌≡◌, refl, sym, ap, ◌∙◌}
use mathlib.Core.Logic.{inl, inr}
use mathlib.Core.List.{List, [], ◌∷◌, ◌++◌}
use native.Mathlib.Nat.{suc-mul, mul-le-mul}
use native.Mathlib.Omega.{arith}
use lib.ListN.{length, take, length-append}
use Rattle.paper.specs.Limits.{Limits}
use Rattle.paper.specs.Told.{refused, sizes}
use Rattle.paper.specs.declared.Refusal.{Refusal}
use Rattle.model.specs.Model.{Model}
use Rattle.model_line.specs.Line.{Said, head, content, misshapen}
use Rattle.compiled.specs.States.{states}
use Rattle.model.specs.Documents.{Line}
use Rattle.compiled.specs.Valid.{GoodLine, GoodLines, no_line, one_more_of, Valid}
use Rattle.compiled.proofs.Counts.{length_states_none, length_states_more}
use Rattle.model_read.specs.Text.{symbols_of, start_of, said_at, symbols_in, said_by, models_of, Modelled, survey_told, told}
use Rattle.model_read.specs.Text.{HeadWrong, no_head, model_first, head_range, LineWrong, no_shape, second_head, symbol_range, symbol_again}
use Rattle.model_read.specs.Text.{WrongAt, WellFormed}
use Rattle.model_read.specs.declared.Survey.{Survey}
use Rattle.std.specs.Prelude.{Result, Ok, Err}
use Rattle.model_read.proofs.Exact.{refused_not_sizes, Surveyed, refused_with, good, surveyed, survey_sizes}
use Rattle.model_read.proofs.Said.{symbols_said, symbols_head, said_symbols, said_places}
use Rattle.model_read.proofs.Models.{models_first, models_more, models_all, new_model}
use Rattle.model_read.proofs.Few.{lines_few}

-- a header without a fault, and an M line without a fault behind others
pub record HeadLine (L : Limits) (x : Said) : Type 0 where
  pub symbols : ℕ
  pub start : ℕ
  pub says : x ≡ head symbols start
  pub some : 1 ≤ symbols
  pub few : symbols ≤ L.symbols
  pub below : start < symbols

pub record ModelLine (n : ℕ) (before : List Line) (x : Said) : Type 0 where
  pub symbol : ℕ
  pub model : Model
  pub says : x ≡ content symbol model
  pub below : symbol < n
  pub new : ¬ Modelled before symbol

pub head_right : (L : Limits) (x : Said) → ¬ HeadWrong L x → HeadLine L x
head_right L (head y t) n =
    let a : (y ≡ 0) → ⊥ = λ e. n (head_range (inl e)) in
    let b : (L.symbols < y) → ⊥ = λ e. n (head_range (inr (inl e))) in
    let c : (y ≤ t) → ⊥ = λ e. n (head_range (inr (inr e))) in
    record { symbols = y; start = t; says = refl; some = omega arith; few = omega arith; below = omega arith }
head_right L (content a m) n = absurd (n model_first)
head_right L misshapen n = absurd (n no_head)

pub line_right : (n : ℕ) (before : List Line) (x : Said) → ¬ LineWrong n before x → ModelLine n before x
line_right n before (head y t) w = absurd (w second_head)
line_right n before (content a m) w =
    let b : (n ≤ a) → ⊥ = λ h. w (symbol_range h) in
    record { symbol = a; model = m; says = refl; below = omega arith; new = λ h. w (symbol_again h) }
line_right n before misshapen w = absurd (w no_shape)

-- the first k lines are without a fault
abbrev pub RightTo : Limits → List ℕ → ℕ → Type 0
RightTo L s k = (j : ℕ) → j < k → ¬ WrongAt L (said_by L s) j

-- the first k lines, the header among them: their M lines are good, one for each line behind the header, with so many states at most
pub record GoodTo (L : Limits) (s : List ℕ) (k : ℕ) : Type 0 where
  pub lines : GoodLines (symbols_in L s) (models_of (take k (said_by L s)))
  pub rows : suc (length (models_of (take k (said_by L s)))) ≡ k
  pub few : length (states (symbols_in L s) (models_of (take k (said_by L s))))
      ≤ symbols_in L s + length (models_of (take k (said_by L s))) * suc L.tokens

pub some_line : (ls : List Said) {y t : ℕ} → said_at ls 0 ≡ head y t → 1 ≤ length ls
some_line [] e = let z : ◌≡◌ {A = ℕ} 0 1 = cc in absurd (omega arith)
some_line (x ∷ ls) e = omega arith

module _ (L : Limits) (s : List ℕ) where
  -- the header
  pub right_head : ¬ WrongAt L (said_by L s) 0 → HeadLine L (said_at (said_by L s) 0)
  right_head w = head_right L (said_at (said_by L s) 0) w

  -- an M line
  pub right_line : (k : ℕ) → ¬ WrongAt L (said_by L s) (suc k)
      → ModelLine (symbols_in L s) (models_of (take (suc k) (said_by L s))) (said_at (said_by L s) (suc k))
  right_line k w =
      rw (symbols_said L s)
      (line_right (symbols_of (said_at (said_by L s) 0)) (models_of (take (suc k) (said_by L s))) (said_at (said_by L s) (suc k)) w)

  good_line : (k : ℕ) (l : ModelLine (symbols_in L s) (models_of (take (suc k) (said_by L s))) (said_at (said_by L s) (suc k)))
      → GoodLine (symbols_in L s) (models_of (take (suc k) (said_by L s))) (record { of = l.symbol; model = l.model })
  good_line k l = record {
    below = l.below;
    new = new_model (models_of (take (suc k) (said_by L s))) l.symbol l.new;
    inner = said_symbols L s (suc k) l.says;
  }

  -- the header alone, and one line more
  good_head : HeadLine L (said_at (said_by L s) 0) → GoodTo L s 1
  good_head h =
      let e = models_first (said_by L s) h.says in
      record {
        lines = rw e no_line;
        rows = rw e refl;
        few = rw e (omega (arith, length_states_none (symbols_in L s)));
      }

  good_more : (k : ℕ) → suc k < length (said_by L s) → ¬ WrongAt L (said_by L s) (suc k) → GoodTo L s (suc k) → GoodTo L s (suc (suc k))
  good_more k h w g =
      let l = right_line k w in
      let ms = models_of (take (suc k) (said_by L s)) in
      let ln : Line = record { of = l.symbol; model = l.model } in
      let e = models_more (said_by L s) (suc k) l.says h in
      let c : length (ms ++ (ln ∷ [])) ≡ suc (length ms) = length-append ms (ln ∷ []) ∙ omega arith in
      record {
        lines = rw e (one_more_of g.lines (good_line k l));
        rows = rw e (omega (arith, c, g.rows));
        few = rw (e, c) (omega (
          arith,
          length_states_more (symbols_in L s) ms ln,
          said_places L s (suc k) l.says,
          g.few,
          suc-mul (length ms) (suc L.tokens),
        ));
      }

  pub good_to : (k : ℕ) → k < length (said_by L s) → RightTo L s (suc k) → GoodTo L s (suc k)
  good_to zero h r = good_head (right_head (r 0 (omega arith)))
  good_to (suc k) h r = good_more k h (r (suc k) (omega arith)) (good_to k (omega arith) (λ j l. r j (omega arith)))

  -- a text without a fault
  module _ (w : WellFormed L s) where
    pub well_head : HeadLine L (said_at (said_by L s) 0)
    well_head = right_head (w 0 (omega arith))

    pub well_some : 1 ≤ length (said_by L s)
    well_some = some_line (said_by L s) well_head.says

    pub well_symbols : (1 ≤ symbols_in L s) × (symbols_in L s ≤ L.symbols)
    well_symbols =
        let h = well_head in
        let e = symbols_head L s h.says in
        (omega (arith, h.some), omega (arith, h.few))

    pub well_start : start_of (said_at (said_by L s) 0) < symbols_in L s
    unfolding start_of
    well_start = let h = well_head in rw h.says (omega (arith, symbols_head L s h.says, h.below))

    pub well_line : (k : ℕ) → suc k < length (said_by L s)
        → ModelLine (symbols_in L s) (models_of (take (suc k) (said_by L s))) (said_at (said_by L s) (suc k))
    well_line k h = right_line k (w (suc k) (omega arith))

    pub well_to : (k : ℕ) → k < length (said_by L s) → GoodTo L s (suc k)
    well_to k h = good_to k h (λ j l. w j (omega arith))

    pub well_all : GoodTo L s (length (said_by L s))
    well_all =
        let h = well_some in
        let e : suc (length (said_by L s) - 1) ≡ length (said_by L s) = omega arith in
        rw e at (well_to (length (said_by L s) - 1) (omega arith))

    -- the header is no M line, and the line k behind it is the M line k, both counted from 0
    pub well_first : models_of (take 1 (said_by L s)) ≡ []
    well_first = models_first (said_by L s) well_head.says

    pub well_lines : GoodLines (symbols_in L s) (models_of (said_by L s))
    well_lines = rw (models_all (said_by L s)) at well_all.lines

    pub well_rows : suc (length (models_of (said_by L s))) ≡ length (said_by L s)
    well_rows = rw (models_all (said_by L s)) at well_all.rows

    pub well_valid : Valid (symbols_in L s) (start_of (said_at (said_by L s) 0)) (models_of (said_by L s))
    well_valid = record { start_below = well_start; lines = well_lines }

-- good lines have at most so many states
pub good_few : (L : Limits) (s : List ℕ) {k : ℕ} → GoodTo L s k → symbols_in L s ≤ L.symbols
    → length (states (symbols_in L s) (models_of (take k (said_by L s)))) ≤ L.symbols + L.symbols * suc L.tokens
good_few L s {k} g h =
    let l = lines_few g.lines in
    let t : suc L.tokens ≤ suc L.tokens = omega arith in
    let a : length (models_of (take k (said_by L s))) ≤ L.symbols = omega arith in
    omega (arith, g.few, mul-le-mul a t)

-- what the answer of the survey tells of a text
pub record Sized (L : Limits) (s : List ℕ) (y t n : ℕ) : Type 0 where
  pub well_formed : WellFormed L s
  pub symbols : y ≡ symbols_in L s
  pub start : t ≡ start_of (said_at (said_by L s) 0)
  pub states : n ≡ length (states (symbols_in L s) (models_of (said_by L s)))
  pub few : n ≤ L.states

sized : (L : Limits) (s : List ℕ) {y t n : ℕ} → Surveyed L s → sizes y t n ≡ survey_told L s → Sized L s y t n
sized L s {y} {t} {n} (refused_with r g) e = absurd (refused_not_sizes (e ∙ g))
sized L s {y} {t} {n} (good w h) e =
    let q = e ∙ survey_sizes L s w h in
    let a : y ≡ symbols_in L s = cc in
    let b : t ≡ start_of (said_at (said_by L s) 0) = cc in
    let c : n ≡ length (states (symbols_in L s) (models_of (said_by L s))) = cc in
    record { well_formed = w; symbols = a; start = b; states = c; few = omega arith }

module _ (L : Limits) (s : List ℕ) {r : Result Survey Refusal} (e : told r ≡ survey_told L s) where
  pub survey_known : {v : Survey} → r ≡ Ok v → Sized L s v.symbols v.start v.states
  survey_known q = sized L s (surveyed L s) (sym (ap told q) ∙ e)

  pub survey_refused : {x : Refusal} → r ≡ Err x → survey_told L s ≡ refused x.number x.side x.place
  survey_refused q = sym e ∙ ap told q
