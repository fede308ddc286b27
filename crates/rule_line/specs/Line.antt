-- One line of a rule text, of one of the five shapes: what it says, and how it is written.
use Rattle.std.specs.Prelude.{ℕ, List, [], cond, eqb, get_or, Ok, Err}
use Rattle.paper.specs.Limits.{leaf_kind, join_kind, eps_kind}
use Rattle.lines.specs.Fields.{Fields, fields, letters}
use Rattle.rule_line.specs.declared.Line.{Line}
use Rattle.rule_line.specs.declared.Line.TheVariants.{Head, State, Rule, Faulty}

-- the letters of the lines: T the head, S a state, L a leaf rule, P a join rule, E an ε rule
abbrev pub letter_t : ℕ
letter_t = 84

abbrev pub letter_s : ℕ
letter_s = 83

abbrev pub letter_l : ℕ
letter_l = 76

abbrev pub letter_p : ℕ
letter_p = 80

abbrev pub letter_e : ℕ
letter_e = 69

-- how many numbers follow a letter: none follow what is no letter of a line
unfoldable pub count : ℕ → ℕ
count t =
    cond (eqb t letter_t) 2
    (cond (eqb t letter_s) 3 (cond (eqb t letter_l) 2 (cond (eqb t letter_p) 3 (cond (eqb t letter_e) 2 0))))

-- a rule: its kind, two numbers and its state
abbrev pub rule_of : ℕ → ℕ → ℕ → ℕ → Line
rule_of k a b q = Rule (record { kind = k; left = a; right = b; to = q })

-- what a letter says with its numbers: T symbols states, S state sort final, L symbol state, P left right state, E from to
unfoldable pub says : ℕ → ℕ → ℕ → ℕ → Line
says t a b c =
    cond (eqb t letter_t) (Head a b)
    (cond (eqb t letter_s) (State a b c) (cond (eqb t letter_l) (rule_of leaf_kind a 0 b) (cond (eqb t letter_p) (rule_of join_kind a b c) (rule_of eps_kind a 0 b))))

abbrev pub said : ℕ → Fields → Line
said t (Ok (a, b, c)) = says t a b c
said t (Err i) = Faulty i

-- what the line x says; where it has none of the five shapes, the first byte at which none could go on
unfoldable pub line : List ℕ → Line
line x = cond (eqb (count (get_or x 0 0)) 0) (Faulty 0) (said (get_or x 0 0) (fields (count (get_or x 0 0)) x))

-- how a rule is written, by its kind: a leaf rule, a join rule, or else an ε rule; only a join rule's right is written
unfoldable pub rule_text : ℕ → ℕ → ℕ → ℕ → List ℕ
rule_text k a b q = cond (eqb k leaf_kind) (letters letter_l 2 a q 0) (cond (eqb k join_kind) (letters letter_p 3 a b q) (letters letter_e 2 a q 0))

-- how what a line says is written
unfoldable pub line_text : Line → List ℕ
line_text (Head a b) = letters letter_t 2 a b 0
line_text (State a b c) = letters letter_s 3 a b c
line_text (Rule r) = rule_text r.kind r.left r.right r.to
line_text (Faulty i) = []
