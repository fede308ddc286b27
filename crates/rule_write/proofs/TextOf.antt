-- The text of lines: a text without a faulty line is the text of what its lines say, and the text of lines that can be said says
-- these lines. Assumes nothing.
use Prim.Native.Nat.{ℕ, suc, ◌<◌}
use mathlib.Core.Path.{◌≡◌, refl, sym, ap, ◌∙◌}
use mathlib.Core.Logic.{◌≢◌}
use mathlib.Core.List.{List, [], ◌∷◌, ◌++◌, map, flatten, append-nil, append_assoc}
use native.Mathlib.Omega.{arith}
use lib.ListN.{length}
use Rattle.lines.specs.Lines.{lines}
use Rattle.lines.proofs.LinesLaws.{lines_joined}
use Rattle.rule_line.specs.Line.{line, line_text}
use Rattle.rule_line.specs.declared.Line.{Line}
use Rattle.rule_line.specs.declared.Line.TheVariants.{Faulty}
use Rattle.rule_line.proofs.LineLaws.{Sayable, line_written, line_known, lines_written}
use Rattle.rule_read.specs.Text.{said_by}
use Rattle.rule_read.specs.Work.{saying_at}

unfoldable pub text_of : List Line → List ℕ
text_of [] = []
text_of (l ∷ ls) = line_text l ++ text_of ls

pub text_append : (xs ys : List Line) → text_of (xs ++ ys) ≡ text_of xs ++ text_of ys
unfolding text_of
text_append [] ys = refl
text_append (l ∷ xs) ys = ap (λ (t : List ℕ). line_text l ++ t) (text_append xs ys) ∙ sym (append_assoc (line_text l) (text_of xs) (text_of ys))

pub text_last : (xs : List Line) (l : Line) → text_of (xs ++ (l ∷ [])) ≡ text_of xs ++ line_text l
unfolding text_of
text_last xs l = text_append xs (l ∷ []) ∙ ap (λ (t : List ℕ). text_of xs ++ t) (append-nil (line_text l))

-- none of these lines is faulty
abbrev pub Spoken : List Line → Type 0
Spoken ls = (k : ℕ) → k < length ls → (i : ℕ) → saying_at ls k ≢ Faulty i

text_lines : (xs : List (List ℕ)) → Spoken (map line xs) → text_of (map line xs) ≡ flatten xs
unfolding text_of flatten
text_lines [] h = refl
text_lines (x ∷ xs) h =
    rw (line_known x (h 0 (omega arith))).text (ap (λ (t : List ℕ). x ++ t) (text_lines xs (λ k l. h (suc k) (omega arith))))

pub text_said : (s : List ℕ) → Spoken (said_by s) → text_of (said_by s) ≡ s
unfolding said_by
text_said s h = text_lines (lines s) h ∙ lines_joined s

pub said_text : (ls : List Line) → ((k : ℕ) → k < length ls → Sayable (saying_at ls k)) → said_by (text_of ls) ≡ ls
unfolding said_by text_of lines
said_text [] h = refl
said_text (l ∷ ls) h =
    rw (lines_written l (text_of ls) (h 0 (omega arith)), line_written l (h 0 (omega arith)))
    (ap (λ (t : List Line). l ∷ t) (said_text ls (λ k b. h (suc k) (omega arith))))
