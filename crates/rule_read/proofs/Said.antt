-- What the lines of a text say, as the reader meets them one by one. Assumes nothing.
use Prim.Native.Nat.{ℕ, ◌+◌, ◌-◌, ◌*◌, ◌≤◌, ◌<◌}
use mathlib.Core.Path.{◌≡◌, refl, sym, ap, ◌∙◌}
use mathlib.Core.List.{List, [], ◌∷◌, ◌++◌, map, append-nil, append_assoc}
use native.Mathlib.Numerals.{add-one}
use native.Mathlib.Omega.{arith}
use lib.ListN.{length, get_or, take, drop, length-map, length-drop, drop_of_length-le, get_or-map}
use lib.Seq.{take-suc}
use Rattle.paper.specs.Limits.{limits}
use Rattle.lines.specs.Lines.{lines, line_end_of, line_at, Starts}
use Rattle.lines.proofs.LinesLaws.{lines_at, line_part}
use Rattle.rule_line.specs.Line.{rule_of, count, line}
use Rattle.rule_line.specs.declared.Line.{Line}
use Rattle.rule_line.specs.declared.Line.TheVariants.{Head, State, Rule, Faulty}
use Rattle.rule_read.specs.Text.{said_by, mark_of, the_rule_of, marks_of, rules_of}
use Rattle.rule_read.specs.Work.{saying_at, rows_of}

line_empty : line [] ≡ Faulty 0
unfolding line count
line_empty = refl

module _ (s : List ℕ) where
  length_said : length (said_by s) ≡ length (lines s)
  unfolding said_by
  length_said = length-map (lines s) line

  pub saying : (k : ℕ) → saying_at (said_by s) k ≡ line (line_at s k)
  unfolding said_by line_at
  saying k = ap (λ (d : Line). get_or (map line (lines s)) k d) (sym line_empty) ∙ get_or-map line (lines s) k []

module _ {s : List ℕ} {k at : ℕ} (g : Starts s k at) where
  pub line_there : at < length s → k < length (said_by s)
  line_there h =
      let c = lines_at s at (line_end_of at (drop at s)) h refl in
      omega (arith, ap length (sym g.rest ∙ c.2), length-drop k (lines s), length_said s)

  pub line_missing : length s ≤ at → length (said_by s) ≤ k
  unfolding lines
  line_missing h = omega (arith, ap length (sym g.rest ∙ ap lines (drop_of_length-le s h)), length-drop k (lines s), length_said s)

  pub line_says : {e : ℕ} {l : Line} → e ≡ line_end_of at (drop at s) → l ≡ line (take (e - at) (drop at s)) → l ≡ saying_at (said_by s) k
  line_says q h = h ∙ ap line (line_part g q).2 ∙ sym (saying s k)

-- one more line
pub take_more : (ls : List Line) (k : ℕ) → k < length ls → take (k + 1) ls ≡ take k ls ++ (saying_at ls k ∷ [])
take_more ls k h = rw (add-one k, take-suc ls k (Faulty 0) h)

marks_last : (xs : List Line) (l : Line) → marks_of (xs ++ (l ∷ [])) ≡ marks_of xs ++ mark_of l
unfolding marks_of
marks_last [] l = append-nil (mark_of l)
marks_last (x ∷ xs) l = ap (λ (r : List ℕ). mark_of x ++ r) (marks_last xs l) ∙ sym (append_assoc (mark_of x) (marks_of xs) (mark_of l))

rules_last : (xs : List Line) (l : Line) → rules_of (xs ++ (l ∷ [])) ≡ rules_of xs ++ the_rule_of l
unfolding rules_of
rules_last [] l = append-nil (the_rule_of l)
rules_last (x ∷ xs) l = ap (λ (r : List ℕ). the_rule_of x ++ r) (rules_last xs l) ∙ sym (append_assoc (the_rule_of x) (rules_of xs) (the_rule_of l))

module _ (ls : List Line) (k : ℕ) {l : Line} (h : k < length ls) (e : l ≡ saying_at ls k) where
  pub marks_more : marks_of (take (k + 1) ls) ≡ marks_of (take k ls) ++ mark_of l
  marks_more = ap marks_of (take_more ls k h) ∙ ap (λ (x : Line). marks_of (take k ls ++ (x ∷ []))) (sym e) ∙ marks_last (take k ls) l

  pub rules_more : rules_of (take (k + 1) ls) ≡ rules_of (take k ls) ++ the_rule_of l
  rules_more = ap rules_of (take_more ls k h) ∙ ap (λ (x : Line). rules_of (take k ls ++ (x ∷ []))) (sym e) ∙ rules_last (take k ls) l

-- a rule line adds as many numbers as a rule has
abbrev pub Wide : ℕ → Type 0
Wide w = (k a b q : ℕ) → length (the_rule_of (rule_of k a b q)) ≡ w

module _ {w : ℕ} (wide : Wide w) where
  pub wide_positive : 0 < w
  unfolding the_rule_of
  wide_positive = omega (arith, wide 0 0 0 0)

  pub rule_length : (l : Line) → length (the_rule_of l) ≡ rows_of l * w
  unfolding the_rule_of rows_of
  rule_length (Head a b) = omega arith
  rule_length (State q s f) = omega arith
  rule_length (Rule r) = omega (arith, wide r.kind r.left r.right r.to)
  rule_length (Faulty i) = omega arith

pub wide_limits : Wide limits.width
unfolding the_rule_of
wide_limits k a b q = refl
