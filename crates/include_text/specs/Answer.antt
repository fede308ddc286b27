-- The text of the answer to two rule texts: the refusal of the sender's text, or of the receiver's; or what the inclusion test tells of the
-- two tables that the texts say, with a witness slice that has room for every witness.
use Rattle.std.specs.Prelude.{ℕ, ◌+◌, ◌*◌, ◌≤◌, ◌<◌, List, ◌++◌, length, drop}
use Rattle.paper.specs.Limits.{Limits}
use Rattle.paper.specs.Told.{Told, refused, written}
use Rattle.rule_read.specs.Text.{said_by, symbols_of, marks_of, rules_of, TextRefused}
use Rattle.inclusion.specs.Inclusion.{Lent, lent, Includes, IncludeRefused, Comparable, Witnessed}
use Rattle.answers.specs.Lines.{refused_line_of, included_line, witness_text}

-- nothing is wrong with a rule text, and the table that it says
abbrev pub Right : Limits → List ℕ → Type 0
Right L s = (n d p : ℕ) → ¬ TextRefused L s n d p

abbrev pub table_of : List ℕ → Lent
table_of s = lent (symbols_of (said_by s)) (marks_of (said_by s)) (rules_of (said_by s))

-- so many numbers has a witness slice for every two tables
abbrev pub witness_room_of : Limits → ℕ
witness_room_of L = 2 * L.nodes

-- the answer to the table A and the receiver's text t
pub data AnswerTo (L : Limits) (A : Lent) (t : List ℕ) : List ℕ → Type 0 where
  receiver_refused : {n d p : ℕ} → TextRefused L t n d p → AnswerTo L A t (refused_line_of 2 n p)
  is_refused : {n d p : ℕ} → Right L t → IncludeRefused L A (table_of t) (witness_room_of L) n d p → AnswerTo L A t (refused_line_of d n p)
  is_included : Right L t → Comparable L A (table_of t) (witness_room_of L) → Includes L A (table_of t) → AnswerTo L A t included_line
  is_witness : {k : ℕ} {ws : List ℕ} → Right L t → Comparable L A (table_of t) (witness_room_of L) → Witnessed L A (table_of t) ws ws k
      → AnswerTo L A t (witness_text ws k)

-- the answer to the sender's text s and the receiver's text t
pub data IncludeText (L : Limits) (s t : List ℕ) : List ℕ → Type 0 where
  sender_refused : {n d p : ℕ} → TextRefused L s n d p → IncludeText L s t (refused_line_of 1 n p)
  compared : {bs : List ℕ} → Right L s → AnswerTo L (table_of s) t bs → IncludeText L s t bs

-- so many bytes have room for every answer: `witness¦3660` with its LF takes 13, and no line of a node more than `J¦3659¦3659` with its LF,
-- 12, while nodes have numbers of at most four digits
abbrev pub head_size_of : ℕ
head_size_of = 13

abbrev pub node_size_of : ℕ
node_size_of = 12

abbrev pub answer_size : Limits → ℕ
answer_size L = head_size_of + node_size_of * L.nodes

-- what is told, and what the lent slice O then holds: 1 if it is too short; or an answer to the two texts, at its front
pub data Answers (L : Limits) (s t O : List ℕ) : Told → List ℕ → Type 0 where
  no_room : length O < answer_size L → Answers L s t O (refused 1 0 0) O
  answered : {bs : List ℕ} → answer_size L ≤ length O → IncludeText L s t bs
      → Answers L s t O (written (length bs)) (bs ++ drop (length bs) O)
