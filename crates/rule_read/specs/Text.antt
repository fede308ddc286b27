-- What reading a rule text tells: refusals 2 to 6 at the first faulty line, in it the lowest number; or the table that the text says.
use Rattle.std.specs.Prelude.{ℕ, zero, suc, ◌+◌, ◌/◌, ◌≤◌, ◌<◌, ◌≡◌, ◌≢◌, ◌⊎◌, List, [], ◌∷◌, ◌++◌, map, length, get_or, take, Result}
use Rattle.std.proofs.Math.Logic.{ite}
use Rattle.std.proofs.Math.Logic.Dec
use Rattle.std.proofs.Math.Decide.{ℕ_discrete, dec_le, dec_lt}
use Rattle.paper.specs.Limits.{Limits}
use Rattle.paper.specs.Told.{Told, refused, holds, filled}
use Rattle.paper.specs.First.{first}
use Rattle.paper.specs.Tests.{dec_or}
use Rattle.table.specs.Rules.{mark_for}
use Rattle.table.specs.Told.{sizes_told}
use Rattle.table.specs.Room.{NoRoom, no_room?}
use Rattle.table.specs.Check.{TooLarge, BadSort, OutOfRange, HasRow, too_large?, bad_sort?, out_of_range?, has_row?}
use Rattle.lines.specs.Lines.{lines}
use Rattle.rule_line.specs.Line.{line}
use Rattle.rule_line.specs.declared.Line.{Line}
use Rattle.rule_line.specs.declared.Line.TheVariants.{Head, State, Rule, Faulty}
use Rattle.paper.specs.declared.RuleRow.{RuleRow}
use Rattle.paper.specs.declared.Refusal.{Refusal}
use Rattle.table.specs.declared.Sizes.{Sizes}

-- what the lines of a text say
unfoldable pub said_by : List ℕ → List Line
said_by s = map line (lines s)

-- the mark that a line adds to the marks, and the four numbers that it adds to the rules (the width of a rule, as the laws ask)
unfoldable pub mark_of : Line → List ℕ
mark_of (Head a b) = []
mark_of (State q s f) = mark_for s f ∷ []
mark_of (Rule r) = []
mark_of (Faulty i) = []

unfoldable pub the_rule_of : Line → List ℕ
the_rule_of (Head a b) = []
the_rule_of (State q s f) = []
the_rule_of (Rule r) = r.kind ∷ r.left ∷ r.right ∷ r.to ∷ []
the_rule_of (Faulty i) = []

-- the marks and the rules that lines say, in their order
unfoldable pub marks_of : List Line → List ℕ
marks_of [] = []
marks_of (l ∷ ls) = mark_of l ++ marks_of ls

unfoldable pub rules_of : List Line → List ℕ
rules_of [] = []
rules_of (l ∷ ls) = the_rule_of l ++ rules_of ls

-- the symbols and the states that the head says; none without a head
unfoldable pub symbols_of : List Line → ℕ
symbols_of [] = 0
symbols_of (Head y n ∷ ls) = y
symbols_of (State q s f ∷ ls) = 0
symbols_of (Rule r ∷ ls) = 0
symbols_of (Faulty i ∷ ls) = 0

unfoldable pub states_of : List Line → ℕ
states_of [] = 0
states_of (Head y n ∷ ls) = n
states_of (State q s f ∷ ls) = 0
states_of (Rule r ∷ ls) = 0
states_of (Faulty i ∷ ls) = 0

-- an S line is out of order, m of n S lines being before it: none is due, or another one
abbrev pub OutOfOrder : ℕ → ℕ → ℕ → Type 0
OutOfOrder n m q = (n ≤ m) ⊎ (q ≢ m)

unfoldable pub out_of_order? : (n m q : ℕ) → Dec (OutOfOrder n m q)
out_of_order? n m q = dec_or (dec_le _ _) (Dec.not (ℕ_discrete _ _))

-- a rule line is early, m of n S lines being before it
abbrev pub TooEarly : ℕ → ℕ → Type 0
TooEarly n m = m < n

abbrev pub too_early? : (n m : ℕ) → Dec (TooEarly n m)
too_early? n m = dec_lt m n

-- a rule line is one too many, behind the rules rs
abbrev pub TooMany : Limits → List ℕ → Type 0
TooMany L rs = L.rules ≤ length rs / L.width

abbrev pub too_many? : (L : Limits) (rs : List ℕ) → Dec (TooMany L rs)
too_many? L rs = dec_le L.rules (length rs / L.width)

-- the lowest number that is wrong with the first line, or 0
unfoldable pub head_fault_of : Limits → Line → ℕ
head_fault_of L (Head y n) = ite (too_large? L y n 0) 4 0
head_fault_of L (State q s f) = 3
head_fault_of L (Rule r) = 3
head_fault_of L (Faulty i) = 2

-- the lowest number that is wrong with a line behind the head of y symbols and n states, or 0: of an S line, m S lines being before it;
-- of a rule line, with the rules rs of the lines before it
unfoldable pub state_line_fault : ℕ → ℕ → ℕ → ℕ → ℕ → ℕ
state_line_fault n m q s f = ite (out_of_order? n m q) 3 (ite (bad_sort? s f) 5 0)

unfoldable pub rule_line_fault : Limits → ℕ → ℕ → ℕ → List ℕ → ℕ → ℕ → ℕ → ℕ → ℕ
rule_line_fault L y n m rs k a b q =
    ite (too_early? n m) 3
    (ite (too_many? L rs) 4 (ite (out_of_range? y n k a b q) 5 (ite (has_row? L.width rs (length rs / L.width) k a b q) 6 0)))

unfoldable pub line_fault_of : Limits → ℕ → ℕ → ℕ → List ℕ → Line → ℕ
line_fault_of L y n m rs (Head a b) = 3
line_fault_of L y n m rs (State q s f) = state_line_fault n m q s f
line_fault_of L y n m rs (Rule r) = rule_line_fault L y n m rs r.kind r.left r.right r.to
line_fault_of L y n m rs (Faulty i) = 2

-- the lowest number that is wrong with line k of these lines, counted from 0; what it is held to is the head and the lines before it
unfoldable pub fault_at : Limits → List Line → ℕ → ℕ
fault_at L ls zero = head_fault_of L (get_or ls 0 (Faulty 0))
fault_at L ls (suc k) =
    let before = take (suc k) ls in
    line_fault_of L (symbols_of ls) (states_of ls) (length (marks_of before)) (rules_of before) (get_or ls (suc k) (Faulty 0))

-- a text ends too soon: lines are missing for the head and a state each
abbrev pub TooSoon : List Line → Type 0
TooSoon ls = length ls < 1 + states_of ls

unfoldable pub too_soon? : (ls : List Line) → Dec (TooSoon ls)
too_soon? ls = dec_lt _ _

-- what a text tells: the first faulty line with the lowest number that is wrong in it; 3 behind the last line of one that ends too soon;
-- or the table that it says
unfoldable pub text_told : Limits → List ℕ → Told
text_told L s =
    let ls = said_by s in
    first (fault_at L ls) (length ls)
    (ite (too_soon? ls) (refused 3 0 (length ls + 1))
    (holds (symbols_of ls) (length (marks_of ls)) (length (rules_of ls) / L.width)))

-- what can be wrong with the first line, each with its number
pub data HeadWrong (L : Limits) : Line → ℕ → Type 0 where
  head_shape_of : {i : ℕ} → HeadWrong L (Faulty i) 2
  state_first_of : {q s f : ℕ} → HeadWrong L (State q s f) 3
  rule_first : {r : RuleRow} → HeadWrong L (Rule r) 3
  head_size_of : {y n : ℕ} → TooLarge L y n 0 → HeadWrong L (Head y n) 4

-- what can be wrong with a line behind the head of y symbols and n states, each with its number: m S lines and the rules rs are
-- before it
pub data LineWrong (L : Limits) (y n m : ℕ) (rs : List ℕ) : Line → ℕ → Type 0 where
  line_shape : {i : ℕ} → LineWrong L y n m rs (Faulty i) 2
  second_head : {a b : ℕ} → LineWrong L y n m rs (Head a b) 3
  state_order_of : {q s f : ℕ} → OutOfOrder n m q → LineWrong L y n m rs (State q s f) 3
  state_sort_of : {q s f : ℕ} → BadSort s f → LineWrong L y n m rs (State q s f) 5
  rule_early_of : {r : RuleRow} → TooEarly n m → LineWrong L y n m rs (Rule r) 3
  rule_many_of : {r : RuleRow} → TooMany L rs → LineWrong L y n m rs (Rule r) 4
  rule_range_of : {r : RuleRow} → OutOfRange y n r.kind r.left r.right r.to → LineWrong L y n m rs (Rule r) 5
  rule_again_of : {r : RuleRow} → HasRow L.width rs (length rs / L.width) r.kind r.left r.right r.to → LineWrong L y n m rs (Rule r) 6

-- what can be wrong with line k of these lines, counted from 0
abbrev pub WrongAt : Limits → List Line → ℕ → ℕ → Type 0
WrongAt L ls zero f = HeadWrong L (get_or ls 0 (Faulty 0)) f
WrongAt L ls (suc k) f =
    LineWrong L (symbols_of ls) (states_of ls) (length (marks_of (take (suc k) ls))) (rules_of (take (suc k) ls)) (get_or ls (suc k) (Faulty 0)) f

-- the refusals of a text, as "given exactly if": the first faulty line, and in it the lowest number; or the text ends too soon
-- (`text_refused_exactly` of proofs/Wrong says that a text tells exactly these)
pub data TextRefused (L : Limits) (s : List ℕ) : ℕ → ℕ → ℕ → Type 0 where
  wrong_line : {n k : ℕ} → k < length (said_by s) → WrongAt L (said_by s) k n → ((m : ℕ) → m < n → ¬ WrongAt L (said_by s) k m)
      → ((j m : ℕ) → j < k → ¬ WrongAt L (said_by s) j m) → TextRefused L s n 0 (k + 1)
  ends_too_soon : ((j m : ℕ) → j < length (said_by s) → ¬ WrongAt L (said_by s) j m) → TooSoon (said_by s)
      → TextRefused L s 3 0 (length (said_by s) + 1)

-- what the reader tells that is lent M for the marks and W for the rules: 1 goes first
unfoldable pub read_told : Limits → List ℕ → List ℕ → List ℕ → Told
read_told L s M W = ite (no_room? L M W) (refused 1 0 0) (text_told L s)

-- the refusals of the reader that is lent M and W, as "given exactly if": 1 goes first, of the whole; then the
-- text's own (`read_refused_exactly` of proofs/Wrong)
pub data ReadRefused (L : Limits) (s M W : List ℕ) : ℕ → ℕ → ℕ → Type 0 where
  short_slice : NoRoom L M W → ReadRefused L s M W 1 0 0
  bad_text : {n d p : ℕ} → ¬ NoRoom L M W → TextRefused L s n d p → ReadRefused L s M W n d p

-- what reading a rule text answers: the sizes of its table, or a refusal
abbrev pub Reading : Type 0
Reading = Result Sizes Refusal

-- what the reader's answer tells
abbrev pub told : Reading → Told
told = sizes_told

-- what the reader answers, and what it leaves in the slices
pub record Reads (L : Limits) (s M W : List ℕ) (r : Reading) (M' W' : List ℕ) : Type 0 where
  pub answer : told r ≡ read_told L s M W
  pub marks : M' ≡ filled (read_told L s M W) (marks_of (said_by s)) M
  pub rules : W' ≡ filled (read_told L s M W) (rules_of (said_by s)) W
