-- How long a text without a fault can be: its header is short, and so is each of its lines, of which there are few. Assumes nothing.
use Prim.Native.Nat.{ℕ, suc, ◌+◌, ◌-◌, ◌*◌, ◌≤◌, ◌<◌}
use mathlib.Core.Path.{◌≡◌, sym, ◌∙◌}
use mathlib.Core.List.{List, [], ◌∷◌, flatten}
use native.Mathlib.Nat.{suc-mul}
use native.Mathlib.Omega.{arith}
use lib.ListN.{length, get_or, length-append}
use Rattle.paper.specs.Limits.{Limits, limits}
use Rattle.lines.specs.Lines.{lines, line_at}
use Rattle.lines.proofs.LinesLaws.{lines_joined}
use Rattle.model_line.proofs.Known.{head_size, line_size}
use Rattle.model_read.specs.Text.{symbols_in, said_by, models_of, WellFormed}
use Rattle.model_read.proofs.Said.{length_said, saying}
use Rattle.model_read.proofs.Few.{lines_few}
use Rattle.model_read.proofs.Good.{well_head, well_symbols, well_line, well_lines, well_rows}

-- a header has at most so many bytes, and an M line
abbrev head_bytes : ℕ
head_bytes = 8

abbrev line_bytes : Limits → ℕ
line_bytes L = 3 * L.tokens + 5

-- lists of at most b bytes put together, and behind a first one
flatten_most : (b : ℕ) (xs : List (List ℕ)) → ((k : ℕ) → k < length xs → length (get_or xs k []) ≤ b)
    → length (flatten xs) ≤ length xs * b
unfolding flatten
flatten_most b [] h = omega arith
flatten_most b (x ∷ xs) h =
    let z = flatten_most b xs (λ k l. h (suc k) (omega arith)) in
    omega (arith, h 0 (omega arith), length-append x (flatten xs), suc-mul (length xs) b)

flatten_behind : (a b : ℕ) (xs : List (List ℕ)) → length (get_or xs 0 []) ≤ a
    → ((k : ℕ) → suc k < length xs → length (get_or xs (suc k) []) ≤ b) → length (flatten xs) ≤ a + (length xs - 1) * b
unfolding flatten
flatten_behind a b [] h g = omega arith
flatten_behind a b (x ∷ xs) h g =
    let z = flatten_most b xs (λ k l. g k (omega arith)) in
    let e : suc (length xs) - 1 ≡ length xs = omega arith in
    rw e (omega (arith, length-append x (flatten xs)))

module _ (L : Limits) (s : List ℕ) (small : L.symbols < 100) (w : WellFormed L s) where
  first_bytes : length (line_at s 0) ≤ head_bytes
  first_bytes =
      let h = well_head L s w in
      head_size L (symbols_in L s) (line_at s 0) (sym (saying L s 0) ∙ h.says) (omega (arith, h.few))
      (omega (arith, h.few, h.below))

  more_bytes : (k : ℕ) → suc k < length (said_by L s) → length (line_at s (suc k)) ≤ line_bytes L
  more_bytes k h =
      let l = well_line L s w k h in
      let n = (well_symbols L s w).1 in
      line_size L (symbols_in L s) (line_at s (suc k)) (sym (saying L s (suc k)) ∙ l.says) (omega arith) (omega (arith, l.below))

  pub text_bytes : length s ≤ head_bytes + length (models_of (said_by L s)) * line_bytes L
  unfolding line_at
  text_bytes =
      let c = length_said L s in
      let f = flatten_behind head_bytes (line_bytes L) (lines s) first_bytes (λ k h. more_bytes k (omega arith)) in
      let e : length (lines s) - 1 ≡ length (models_of (said_by L s)) = omega (arith, well_rows L s w) in
      rw (e, lines_joined s) at f

pub text_size : (s : List ℕ) → WellFormed limits s → length s ≤ limits.input
text_size s w =
    let f = lines_few (well_lines limits s w) in
    let n = (well_symbols limits s w).1 in
    omega (arith, text_bytes limits s (omega arith) w)
