-- Each result that a contract of this crate allows is the only one, but for the choice of a witness (docs/WITNESS.md): the functions
-- promise what those on plain slices promise, whose theorems are cited. Assumes nothing.
use Prim.Native.Nat.{ℕ}
use mathlib.Core.Path.{◌≡◌, sym, ◌∙◌}
use mathlib.Core.Logic.{◌⊎◌}
use mathlib.Core.List.{List}
use denote.Ref.{Bor}
use Rattle.paper.specs.Limits.{Limits}
use Rattle.paper.specs.Told.{Checked, check_told}
use Rattle.paper.proofs.ToldLaws.{check_unique}
use Rattle.table.specs.Check.{table_checked}
use Rattle.receiver.specs.Check.{ReceiverChecked}
use Rattle.factorized.proofs.Exact.{check_answer_unique}
use Rattle.accept.specs.Accept.{Judged, told as judged_told}
use Rattle.accept.specs.Accept.{Answer as Judgement}
use Rattle.accept.proofs.JudgeLaws.{accept_unique}
use Rattle.inclusion.specs.Inclusion.{Answered, Answer, told}
use Rattle.std.specs.Prelude.{Some, Ok}
use Rattle.inclusion.proofs.Exact.{include_unique}
use Rattle.view.specs.declared.View.{View}
use Rattle.view.specs.Shown.{view_of, lent_of}

-- two views that `new` may make of the same slices are equal
pub new_unique : (n : ℕ) (x y : Bor (List ℕ)) (s t : View) → s ≡ view_of n x y → t ≡ view_of n x y → s ≡ t
new_unique n x y s t e f = e ∙ sym f

module _ (L : Limits) (t : View) where
  -- two answers of `check` are equal; those of `check_of` by `check_unique` itself
  pub view_check_unique : (a b : Checked) → check_told a ≡ table_checked L t.symbols t.marks.now t.rules.now
      → check_told b ≡ table_checked L t.symbols t.marks.now t.rules.now → a ≡ b
  view_check_unique = check_unique (table_checked L t.symbols t.marks.now t.rules.now)

  -- two answers of `check_receiver` are equal; those of `check_receiver_of` by `check_answer_unique` itself
  pub view_receiver_unique : (a b : Checked) → ReceiverChecked L t.symbols t.marks.now t.rules.now (check_told a)
      → ReceiverChecked L t.symbols t.marks.now t.rules.now (check_told b) → a ≡ b
  view_receiver_unique = check_answer_unique L t.symbols t.marks.now t.rules.now

  -- two answers of `accept` are equal; those of `accept_of` by `accept_unique` itself
  pub view_accept_unique : (ns : List ℕ) (a b : Judgement) → Judged L t.symbols t.marks.now t.rules.now ns (judged_told a)
      → Judged L t.symbols t.marks.now t.rules.now ns (judged_told b) → a ≡ b
  view_accept_unique = accept_unique L t.symbols t.marks.now t.rules.now

-- two answers of `include` are one, and so are the slices, unless both hand out a witness; those of `include_of` by `include_unique` itself
pub view_include_unique : (L : Limits) (s r : View) (ws ws' ws'' : List ℕ) (a b : Answer) → Answered L (lent_of s) (lent_of r) ws ws' (told a)
    → Answered L (lent_of s) (lent_of r) ws ws'' (told b) → ((a ≡ b) × (ws' ≡ ws'')) ⊎ (((k : ℕ) × (a ≡ Ok (Some k))) × ((k : ℕ) × (b ≡ Ok (Some k))))
view_include_unique L s r = include_unique L (lent_of s) (lent_of r)
