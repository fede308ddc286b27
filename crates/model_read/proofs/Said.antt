-- What the lines of a text say, as the survey meets them one by one. Assumes nothing.
use Prim.Native.Nat.{ℕ, ◌-◌, ◌≤◌, ◌<◌}
use mathlib.Core.Path.{◌≡◌, refl, sym, ap, ◌∙◌}
use mathlib.Core.List.{List, [], map}
use mathlib.Core.Option.{Option, none, some}
use native.Mathlib.Omega.{arith}
use lib.Dec.{eqb}
use lib.ListN.{length, get_or, take, drop, length-map, length-drop, drop_of_length-le, get_or-map}
use borrow.Author.Tests.{eq-eqb}
use Rattle.paper.specs.Limits.{Limits, at}
use Rattle.lines.specs.Lines.{lines, line_end_of, line_at, Starts}
use Rattle.lines.proofs.LinesLaws.{lines_at, line_part}
use Rattle.lines.proofs.Tests.{split}
use Rattle.model.specs.Model.{Model, bears, places}
use Rattle.postfix.proofs.Written.{model_symbols, model_places}
use Rattle.model_line.specs.Line.{Said, Cut, head, content, misshapen, letter_d, split_of, token_field, head_said_of, content_said, model_said}
use Rattle.model_line.specs.Line.{says, line_of}
use Rattle.std.specs.Prelude as std
use Rattle.std.specs.Prelude.{Some, None}
use Rattle.model_line.specs.declared.Line.{Line}
use Rattle.model_line.proofs.LineLaws.{line_empty, known_misshapen}
use Rattle.model_line.proofs.Known.{says_head, says_content}
use Rattle.model_read.specs.Text.{symbols_of, said_at, symbols_in, said_by}

-- an empty line has no shape
says_empty : (L : Limits) (n : ℕ) → says L n [] ≡ misshapen
says_empty L n = known_misshapen (says L n []) (sym (line_empty L n [] refl))

module _ (L : Limits) (x : List ℕ) where
  -- a header says the same over any number of symbols
  pub head_anyway : (n m : ℕ) {y t : ℕ} → says L n x ≡ head y t → says L m x ≡ head y t
  unfolding says head_said_of
  head_anyway n m {y} {t} e = let h = says_head L n x e in rw (eq-eqb (at x 0) letter_d h.letter, h.numbers)

  content_symbols : (a : ℕ) (o : Option Model) → symbols_of (content_said a o) ≡ 0
  unfolding symbols_of content_said
  content_symbols a none = refl
  content_symbols a (some m) = refl

  model_none : (n : ℕ) (c : Cut) → symbols_of (model_said L n x c) ≡ 0
  unfolding symbols_of model_said
  model_none n (Some (a, i)) = content_symbols a _
  model_none n None = refl

  symbols_anyway : (n m : ℕ) → symbols_of (says L n x) ≡ symbols_of (says L m x)
  unfolding says
  symbols_anyway n m =
      split (eqb (at x 0) letter_d)
      (λ t. rw t refl)
      (λ t. rw t (model_none n (split_of x) ∙ sym (model_none m (split_of x))))

module _ (L : Limits) (s : List ℕ) where
  pub length_said : length (said_by L s) ≡ length (lines s)
  unfolding said_by
  length_said = length-map (lines s) (says L (symbols_in L s))

  pub saying : (k : ℕ) → said_at (said_by L s) k ≡ says L (symbols_in L s) (line_at s k)
  unfolding said_by line_at
  saying k =
      ap (λ (d : Said). get_or (map (says L (symbols_in L s)) (lines s)) k d) (sym (says_empty L (symbols_in L s)))
      ∙ get_or-map (says L (symbols_in L s)) (lines s) k []

  -- the symbols of a text are those of the first line, over whatever symbols it is read
  pub symbols_said : symbols_in L s ≡ symbols_of (said_at (said_by L s) 0)
  unfolding symbols_in
  symbols_said = symbols_anyway L (line_at s 0) 0 (symbols_in L s) ∙ ap symbols_of (sym (saying 0))

  pub symbols_head : {y t : ℕ} → said_at (said_by L s) 0 ≡ head y t → symbols_in L s ≡ y
  unfolding symbols_of
  symbols_head e = symbols_said ∙ rw e refl

  -- the model of an M line: its symbols are those of the text, and its places no more than the tokens
  module _ (k : ℕ) {a : ℕ} {m : Model} (e : said_at (said_by L s) k ≡ content a m) where
    pub said_symbols : (y : ℕ) → y < places m → bears m y < symbols_in L s
    said_symbols y h =
        let c = says_content L (symbols_in L s) (line_at s k) (sym (saying k) ∙ e) in
        model_symbols L (symbols_in L s) (token_field (line_at s k) c.from) m c.model y h

    pub said_places : places m ≤ L.tokens
    said_places =
        let c = says_content L (symbols_in L s) (line_at s k) (sym (saying k) ∙ e) in
        model_places L (symbols_in L s) (token_field (line_at s k) c.from) m c.model

module _ (L : Limits) {s : List ℕ} {k at : ℕ} (g : Starts s k at) where
  pub line_there : at < length s → k < length (said_by L s)
  line_there h =
      let c = lines_at s at (line_end_of at (drop at s)) h refl in
      omega (arith, ap length (sym g.rest ∙ c.2), length-drop k (lines s), length_said L s)

  pub line_missing : length s ≤ at → length (said_by L s) ≤ k
  unfolding lines
  line_missing h =
      omega (arith, ap length (sym g.rest ∙ ap lines (drop_of_length-le s h)), length-drop k (lines s), length_said L s)

  pub line_says : {n e : ℕ} {l : std.Option Line} → e ≡ line_end_of at (drop at s) → n ≡ symbols_in L s
      → l ≡ line_of (says L n (take (e - at) (drop at s))) → l ≡ line_of (said_at (said_by L s) k)
  line_says {n} q i h =
      h ∙ ap (λ (x : List ℕ). line_of (says L n x)) (line_part g q).2
      ∙ ap (λ (m : ℕ). line_of (says L m (line_at s k))) i ∙ ap line_of (sym (saying L s k))
