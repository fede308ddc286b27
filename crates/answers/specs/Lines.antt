-- The lines in which the programs answer: a word or a letter, numbers each behind a tab, and LF.
use Rattle.std.specs.Prelude.{ℕ, zero, suc, ◌+◌, ◌*◌, List, [], ◌∷◌, ◌++◌}
use Rattle.std.proofs.Math.Logic.{ite}
use Rattle.std.proofs.Math.Decide.{ℕ_discrete}
use Rattle.paper.specs.Limits.{at}
use Rattle.paper.specs.Told.{Told, refused, passes, accepted, rejected, included, witness, holds, sizes, written}
use Rattle.lines.specs.Fields.{entry, letters}
use Rattle.lines.specs.Lines.{lf}
use Rattle.tree.specs.Tree.{leaf_mark}

-- the words "refused", "included" and "witness" in bytes, and the letters of a leaf and of a join
abbrev pub refused_word : List ℕ
refused_word = 114 ∷ 101 ∷ 102 ∷ 117 ∷ 115 ∷ 101 ∷ 100 ∷ []

abbrev pub included_word : List ℕ
included_word = 105 ∷ 110 ∷ 99 ∷ 108 ∷ 117 ∷ 100 ∷ 101 ∷ 100 ∷ []

abbrev pub witness_word : List ℕ
witness_word = 119 ∷ 105 ∷ 116 ∷ 110 ∷ 101 ∷ 115 ∷ 115 ∷ []

abbrev pub letter_a : ℕ
letter_a = 65

abbrev pub letter_j : ℕ
letter_j = 74

-- refused¦side¦number¦place
unfoldable pub refused_line_of : ℕ → ℕ → ℕ → List ℕ
refused_line_of side number place = refused_word ++ (entry side ++ (entry number ++ (entry place ++ (lf ∷ []))))

-- the line of a refusal, if one is told, or else these bytes
unfoldable pub refusal_or : Told → List ℕ → List ℕ
refusal_or (refused number side place) bs = refused_line_of side number place
refusal_or passes bs = bs
refusal_or accepted bs = bs
refusal_or rejected bs = bs
refusal_or included bs = bs
refusal_or (witness n) bs = bs
refusal_or (holds y n r) bs = bs
refusal_or (sizes y s n) bs = bs
refusal_or (written n) bs = bs

unfoldable pub included_line : List ℕ
included_line = included_word ++ (lf ∷ [])

-- witness¦n
unfoldable pub witness_line : ℕ → List ℕ
witness_line n = witness_word ++ (entry n ++ (lf ∷ []))

-- A¦symbol or J¦left¦right
unfoldable pub node_line : ℕ → ℕ → List ℕ
node_line x y = ite (ℕ_discrete y leaf_mark) (letter_a ∷ (entry x ++ (lf ∷ []))) (letters letter_j 2 x y 0)

-- the lines of the first k nodes of a node list
unfoldable pub node_lines : List ℕ → ℕ → List ℕ
node_lines xs zero = []
node_lines xs (suc i) = node_lines xs i ++ node_line (at xs (2 * i)) (at xs (2 * i + 1))

-- a witness of k nodes
unfoldable pub witness_text : List ℕ → ℕ → List ℕ
witness_text xs k = witness_line k ++ node_lines xs k
