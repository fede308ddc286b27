-- What the reader keeps while it reads: two work slices, with the marks and the rules of the lines so far at their fronts.
use Rattle.std.specs.Prelude.{ℕ, ◌+◌, ◌*◌, ◌≤◌, ◌≡◌, List, ◌++◌, length, get_or, take, Ok}
use Rattle.paper.specs.Limits.{Limits, at}
use Rattle.lines.specs.Number.{most_number}
use Rattle.lines.specs.Lines.{Starts}
use Rattle.table.specs.Check.{TooLarge}
use Rattle.rule_line.specs.declared.Line.{Line}
use Rattle.rule_line.specs.declared.Line.TheVariants.{Head, State, Rule, Faulty}
use Rattle.table.specs.declared.Sizes.{Sizes}
use Rattle.rule_read.specs.Text.{Reading, said_by, mark_of, the_rule_of, marks_of, rules_of, text_told, told}

-- what line k of these lines says, counted from 0
abbrev pub saying_at : List Line → ℕ → Line
saying_at ls k = get_or ls k (Faulty 0)

-- how many rules a line adds
unfoldable pub rows_of : Line → ℕ
rows_of (Head a b) = 0
rows_of (State q s f) = 0
rows_of (Rule r) = 1
rows_of (Faulty i) = 0

-- the slices are long enough for every table
pub record Room (L : Limits) (M W : List ℕ) : Type 0 where
  pub marks : L.states ≤ length M
  pub rules : L.rules * L.width ≤ length W

-- what lines say stands at the front of two slices: m marks, and r rules of w numbers
pub record Fronts (w : ℕ) (ls : List Line) (M W : List ℕ) (m r : ℕ) : Type 0 where
  pub marks : take m M ≡ marks_of ls
  pub rules : take (r * w) W ≡ rules_of ls
  pub marks_in : m ≤ length M
  pub rules_in : r * w ≤ length W

-- there is room for what a line adds
pub record Fits (w : ℕ) (M W : List ℕ) (m r : ℕ) (l : Line) : Type 0 where
  pub marks : m + length (mark_of l) ≤ length M
  pub rules : r * w + length (the_rule_of l) ≤ length W
  pub small : at (mark_of l) 0 ≤ most_number

-- what a line adds is stored behind what was there
pub record Stored (w : ℕ) (M W : List ℕ) (m r : ℕ) (l : Line) (m' r' : ℕ) (M' W' : List ℕ) : Type 0 where
  pub marks_more_of : m' ≡ m + length (mark_of l)
  pub rules_more_of : r' ≡ r + rows_of l
  pub marks : take m' M' ≡ take m M ++ mark_of l
  pub rules : take (r' * w) W' ≡ take (r * w) W ++ the_rule_of l

-- the first line of a text is a head of y symbols and n states without a fault, and the line behind it starts at i
pub record Headed (L : Limits) (s : List ℕ) (y n i : ℕ) : Type 0 where
  pub says : saying_at (said_by s) 0 ≡ Head y n
  pub small : ¬ TooLarge L y n 0
  pub some : 1 ≤ length (said_by s)
  pub behind : Starts s 1 i

-- what the answer tells of a text, and the work slices at a table
pub record Answers (L : Limits) (s : List ℕ) (r : Reading) (M W : List ℕ) : Type 0 where
  pub answer : told r ≡ text_told L s
  pub fronts : {x : Sizes} → r ≡ Ok x → Fronts L.width (said_by s) M W x.states x.rules
