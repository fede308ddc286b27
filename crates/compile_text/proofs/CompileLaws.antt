-- The answer to a model text, from what compiling it and writing its table tell. Assumes nothing.
use Prim.Native.Nat.{ℕ, ◌*◌, ◌≤◌}
use mathlib.Core.Path.{◌≡◌, refl, ap, sym, ◌∙◌}
use mathlib.Core.Logic.{inl, inr, if_neg}
use mathlib.Core.List.{List}
use native.Mathlib.Omega.{arith}
use lib.ListN.{length, take, length-take}
use Rattle.paper.specs.Limits.{limits}
use Rattle.paper.specs.Told.{refused, written, holds, is_refusal, after, filled}
use Rattle.paper.specs.declared.Refusal.{Refusal}
use Rattle.table.specs.Room.{NoRoom, no_room?}
use Rattle.model_read.specs.Text.{symbols_in}
use Rattle.std.specs.Prelude.{Ok, Err}
use Rattle.table.specs.declared.Sizes.{Sizes}
use Rattle.model_table.specs.Compile.{model_told, compile_told, the_marks_by, rules_by, Compiled, Compiles, told}
use Rattle.model_table.proofs.Right.{symbols_told, marks_counted, rules_counted, marks_front, rules_front, built_passes}
use Rattle.rule_write.specs.Write as write
use Rattle.rule_write.specs.Write.{Writing, table_text_of, write_told, Writes}
use Rattle.answers.specs.Lines.{refused_line_of, refusal_or}
use Rattle.answers.specs.Written.{WritesText}
use Rattle.answers.proofs.Sizes.{refused_room}
use Rattle.answers.proofs.WrittenLaws.{writes_text, writes_put}
use Rattle.put.specs.Put.{Wrote}
use Rattle.compile_text.specs.Answer.{compile_text_of}

module _ {s M W M' W' : List ℕ} {r : Compiled} (c : Compiles limits s M W r M' W') (m : length M ≡ limits.states) (w : length W ≡ limits.rules * limits.width) where
  room : ¬ NoRoom limits M W
  room (inl h) = omega arith
  room (inr h) = omega arith

  told_model : told r ≡ model_told limits s
  unfolding compile_told
  told_model = c.answer ∙ if_neg (no_room? limits M W) room _ _

  -- a refusal is written as its line
  pub answers_refused : {f : Refusal} {O O' : List ℕ} {e : ℕ} → r ≡ Err f → limits.text ≤ length O
      → Wrote O 0 (refused_line_of f.side f.number f.place) e O' → WritesText limits.text (compile_text_of limits s) O (written e) O'
  unfolding compile_text_of refusal_or
  answers_refused {f} {O} {O'} {e} q h p =
      let t : model_told limits s ≡ refused f.number f.side f.place = sym told_model ∙ ap told q in
      let l = refused_room f.side f.number f.place in
      rw t (writes_put limits.text (refused_line_of f.side f.number f.place) O h (omega arith) (p.fits (omega arith)))

  -- a table is written as its text
  module _ {z : Sizes} (q : r ≡ Ok z) where
    pub states_inside : z.states ≤ length M'
    states_inside =
        let a = ap length (marks_front limits refl c q) in
        omega (arith, a, length-take z.states M', marks_counted limits refl c q)

    pub rules_inside : z.rules * 4 ≤ length W'
    rules_inside =
        let a = ap length (rules_front limits refl c q) in
        omega (arith, a, length-take (z.rules * 4) W', rules_counted limits refl c q)

    pub answers_table : {O O' : List ℕ} {x : Writing} → limits.text ≤ length O
        → Writes limits z.symbols (take z.states M') (take (z.rules * 4) W') O x O' → WritesText limits.text (compile_text_of limits s) O (write.told x) O'
    unfolding compile_text_of refusal_or write_told after is_refusal filled
    answers_table {O} {O'} {x} h y =
        let bs = table_text_of 4 (symbols_in limits s) (the_marks_by limits s) (rules_by limits s) in
        let e : model_told limits s ≡ holds z.symbols z.states z.rules = sym told_model ∙ ap told q in
        let same : table_text_of 4 z.symbols (take z.states M') (take (z.rules * 4) W') ≡ bs =
        rw (symbols_told limits refl c q, marks_front limits refl c q, rules_front limits refl c q) refl in
        let v : write_told limits z.symbols (take z.states M') (take (z.rules * 4) W') O ≡ written (length bs) =
        rw (built_passes limits refl c q) (if_neg (write.no_room? limits O) (λ l. omega arith) _ _ ∙ ap (λ b. written (length b)) same) in
        rw e (writes_text limits.text bs O h (y.answer ∙ v) (y.text ∙ rw (v, same) refl))
