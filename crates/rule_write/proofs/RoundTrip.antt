-- A text that is read and then written comes back byte for byte. Assumes nothing.
use Prim.Native.Nat.{ℕ}
use mathlib.Core.Path.{◌≡◌, sym, ap, ◌∙◌}
use mathlib.Core.List.{List}
use Rattle.paper.specs.Limits.{Limits}
use Rattle.paper.specs.Told.{holds}
use Rattle.rule_read.specs.Text.{said_by, marks_of, rules_of, symbols_of, text_told}
use Rattle.rule_read.proofs.Said.{Wide}
use Rattle.rule_read.proofs.Exact.{text_holds}
use Rattle.rule_write.specs.Write.{table_text_of}
use Rattle.rule_write.proofs.TextOf.{text_of, text_said}
use Rattle.rule_write.proofs.TableLines.{table_text}
use Rattle.rule_write.proofs.ReadLines.{clear_spoken, lines_back}

pub read_write : (L : Limits) → Wide L.width → (s : List ℕ) (y n r : ℕ) → text_told L s ≡ holds y n r
    → table_text_of L.width y (marks_of (said_by s)) (rules_of (said_by s)) ≡ s
read_write L wide s y n r e =
    let t = text_holds L s y n r e in
    ap (λ (i : ℕ). table_text_of L.width i (marks_of (said_by s)) (rules_of (said_by s))) t.symbols
    ∙ table_text L.width (symbols_of (said_by s)) (marks_of (said_by s)) (rules_of (said_by s))
    ∙ ap text_of (sym (lines_back L (said_by s) t.clear wide t.whole))
    ∙ text_said s (clear_spoken L (said_by s) t.clear)
