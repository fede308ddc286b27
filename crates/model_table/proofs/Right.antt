-- The table that stands in the slices is right: it accepts the binary form of a document exactly if the models derive that document, it
-- passes 2 to 9, and its text has at most 32,768 bytes. Assumes nothing.
use Prim.Native.Nat.{ℕ, suc, ◌*◌, ◌≤◌}
use native.Mathlib.Omega.{arith}
use mathlib.Core.Path.{◌≡◌, refl, sym, ap, ◌∙◌}
use mathlib.Core.Logic.{◌↔◌}
use mathlib.Core.Option.{some}
use mathlib.Core.List.{List, [], ◌∷◌}
use lib.ListN.{length, take, drop}
use lib.Seq.{take-append_seam}
use Rattle.paper.specs.Limits.{Limits, limits}
use Rattle.paper.specs.Told.{refused, holds, passes, is_refusal, filled}
use Rattle.tree.specs.Tree.{Tree}
use Rattle.table.specs.Rules.{RulesOf, Accepts}
use Rattle.table.specs.Check.{table_checked}
use Rattle.receiver.specs.Receiver.{Receives}
use Rattle.model.specs.Model.{Model}
use Rattle.model.specs.Documents.{Doc, binary, Derives}
use Rattle.model.specs.Documents.{doc}
use Rattle.model_line.specs.Line.{Said, head, content, misshapen}
use Rattle.compiled.specs.States.{states}
use Rattle.model.specs.Documents.{model_of}
use Rattle.compiled.specs.Rules.{rules}
use Rattle.compiled.specs.Valid.{Valid, Unambiguous}
use Rattle.compiled.proofs.Lines.{none_some, model_cases_lem}
use Rattle.compiled.proofs.Marks.{length_marks}
use Rattle.compiled.proofs.Rows.{length_numbers}
use Rattle.compiled.proofs.Accept.{accepts_exactly, accepts_tree}
use Rattle.compiled.proofs.Passes.{check_passes}
use Rattle.compiled.proofs.Received.{receives}
use Rattle.model_read.specs.Text.{symbols_in, said_at, said_by, models_of, WellFormed}
use Rattle.model_read.proofs.Good.{well_symbols, well_valid}
use Rattle.model_read.proofs.Size.{text_size}
use Rattle.model_fill.specs.Ambiguity.{models_in, start_in, AmbiguousAt}
use Rattle.model_table.specs.Compile.{the_marks_by, rules_by, TooManyRules, compile_told, Fit, Compiled, told, Compiles}
use Rattle.std.specs.Prelude.{Ok}
use Rattle.table.specs.declared.Sizes.{Sizes}
use Rattle.model_table.proofs.Exact.{Compiling, is_refused, is_table, compiling, of_refused, compile_table}

-- a model among the M lines is what a line of the text says
pub said_model : (ls : List Said) (a : ℕ) (m : Model) → model_of (models_of ls) a ≡ some m → (j : ℕ) × (said_at ls j ≡ content a m)
unfolding models_of model_of
said_model [] a m e = absurd (none_some e)
said_model (head y s ∷ ls) a m e = let r = said_model ls a m e in (suc r.0, r.1)
said_model (content b n ∷ ls) a m e =
    model_cases_lem {C = (j : ℕ) × (said_at (content b n ∷ ls) j ≡ content a m)} (record { of = b; model = n }) (models_of ls) a (some m) e this
    (λ o s. let r = said_model ls a m s in (suc r.0, r.1))
  where
    this : b ≡ a → some n ≡ some m → (j : ℕ) × (said_at (content b n ∷ ls) j ≡ content a m)
    this p q = let z : n ≡ m = cc in (0, rw (p, z) refl)
said_model (misshapen ∷ ls) a m e = let r = said_model ls a m e in (suc r.0, r.1)

holds_refused : {n k t a d p : ℕ} → holds n k t ≡ refused a d p → ⊥
holds_refused e = let z : ◌≡◌ {A = ℕ} 0 1 = cc in omega arith

filled_front : (n k t : ℕ) (xs o : List ℕ) → take (length xs) (filled (holds n k t) xs o) ≡ xs
unfolding filled is_refusal
filled_front n k t xs o = take-append_seam xs (drop (length xs) o)

module _ (L : Limits) (four : L.width ≡ 4) {s M W M' W' : List ℕ} {r : Compiled} (c : Compiles L s M W r M' W') {z : Sizes} (e : r ≡ Ok z) where
  record Known : Type 0 where
    fit : Fit L s M W
    clear : (j : ℕ) → ¬ AmbiguousAt (said_by L s) j
    few : ¬ TooManyRules L s
    symbols : z.symbols ≡ symbols_in L s
    states : z.states ≡ length (states (symbols_in L s) (models_in L s))
    rules : z.rules ≡ length (rules (symbols_in L s) (models_in L s))
    tells : compile_told L s M W ≡ holds z.symbols z.states z.rules

  known : Known
  known = go (compiling L s M W)
    where
      tells : compile_told L s M W ≡ holds z.symbols z.states z.rules
      tells = sym c.answer ∙ ap told e

      go : Compiling L s M W → Known
      go (is_refused x) = absurd (holds_refused (sym tells ∙ of_refused L s M W x))
      go (is_table f h u) =
          let q = sym tells ∙ compile_table L s M W f h u in
          let a : z.symbols ≡ symbols_in L s = cc in
          let b : z.states ≡ length (states (symbols_in L s) (models_in L s)) = cc in
          let d : z.rules ≡ length (rules (symbols_in L s) (models_in L s)) = cc in
          record { fit = f; clear = h; few = u; symbols = a; states = b; rules = d; tells = tells }

  -- the counts, and the counted fronts of the slices
  pub symbols_told : z.symbols ≡ symbols_in L s
  symbols_told = known.symbols

  pub marks_counted : z.states ≡ length (the_marks_by L s)
  unfolding the_marks_by
  marks_counted = known.states ∙ sym (length_marks (start_in L s) (symbols_in L s) (models_in L s))

  pub rules_counted : z.rules * L.width ≡ length (rules_by L s)
  unfolding rules_by
  rules_counted =
      ap (λ (w : ℕ). z.rules * w) four ∙ ap (λ (i : ℕ). i * 4) known.rules ∙ sym (length_numbers (rules (symbols_in L s) (models_in L s)))

  pub marks_front : take z.states M' ≡ the_marks_by L s
  marks_front = rw (marks_counted, c.marks, known.tells) (filled_front z.symbols z.states z.rules (the_marks_by L s) M)

  pub rules_front : take (z.rules * L.width) W' ≡ rules_by L s
  rules_front = rw (rules_counted, c.rules, known.tells) (filled_front z.symbols z.states z.rules (rules_by L s) W)

  valid : Valid (symbols_in L s) (start_in L s) (models_in L s)
  unfolding models_in start_in
  valid = well_valid L s known.fit.well_formed

  unambiguous : Unambiguous (models_in L s)
  unfolding models_in
  unambiguous a m h x =
      let j = said_model (said_by L s) a m h in
      known.clear j.0 (record { symbol = a; model = m; says = j.1; ambiguous = x })

  -- demand 3: the table accepts exactly what the models derive
  pub accepts_derived : (d : Doc) → Accepts (RulesOf L.width (take (z.rules * L.width) W')) (take z.states M') (binary d)
      ↔ Derives (model_of (models_in L s)) (start_in L s) d
  unfolding the_marks_by rules_by
  accepts_derived d = rw (marks_front, rules_front) (accepts_exactly L four valid d)

  -- the same of every tree, which is the binary form of one document
  pub tree_derived : (x : Tree) → Accepts (RulesOf L.width (take (z.rules * L.width) W')) (take z.states M') x
      ↔ Derives (model_of (models_in L s)) (start_in L s) (doc x)
  unfolding the_marks_by rules_by
  tree_derived x = rw (marks_front, rules_front) (accepts_tree L four valid x)

  -- the table passes 2 to 6, and 7 to 9
  pub built_passes : table_checked L z.symbols (take z.states M') (take (z.rules * L.width) W') ≡ passes
  unfolding the_marks_by rules_by
  built_passes =
      let a = known.few in
      let b = known.fit.states in
      rw (marks_front, rules_front, known.symbols)
      (check_passes L four valid unambiguous (well_symbols L s known.fit.well_formed).1 (omega arith) (omega arith))

  pub built_receives : Receives L (take z.states M') (take (z.rules * L.width) W')
  unfolding the_marks_by rules_by
  built_receives = rw (marks_front, rules_front) (receives L four valid unambiguous)

  pub built_well_formed : WellFormed L s
  built_well_formed = known.fit.well_formed

-- a model text that is not refused has at most 32,768 bytes
pub built_size : {s M W M' W' : List ℕ} {r : Compiled} → Compiles limits s M W r M' W' → {z : Sizes} → r ≡ Ok z → length s ≤ limits.input
built_size {s} c e = text_size s (built_well_formed limits refl c e)
