-- How long the text of a table without a fault is, where symbols and states have at most two digits. Assumes nothing.
use Prim.Native.Nat.{ℕ, zero, suc, ◌+◌, ◌-◌, ◌*◌, ◌/◌, ◌%◌, ◌≤◌, ◌<◌, min}
use mathlib.Core.Path.{◌≡◌, refl, ap}
use mathlib.Core.Logic.{by_cases}
use mathlib.Core.List.{List, ◌++◌}
use native.Mathlib.Decide.{ℕ_discrete, dec_lt}
use native.Mathlib.Omega.{arith}
use lib.ListN.{length, length-append}
use Rattle.paper.specs.Limits.{Limits, limits, at}
use Rattle.paper.specs.Told.{passes, holds}
use Rattle.lines.specs.Number.{decimal}
use Rattle.lines.proofs.NumberLaws.{decimal_two, length_one}
use Rattle.lines.proofs.FieldLaws.{length_two, length_three}
use Rattle.table.specs.Check.{table_checked, Sound}
use Rattle.table.proofs.Exact.{passes_exactly}
use Rattle.table.proofs.Range.{symbols_few, states_few, rules_few}
use Rattle.rule_line.specs.Line.{letter_t, letter_s, letter_l, letter_p, letter_e, rule_of, line_text}
use Rattle.rule_line.specs.declared.Line.TheVariants.{Head, State}
use Rattle.rule_line.proofs.LineLaws.{rule_leaf, rule_join, rule_step}
use Rattle.rule_read.specs.Text.{said_by, marks_of, rules_of, text_told}
use Rattle.rule_read.proofs.Said.{wide_limits}
use Rattle.rule_write.specs.Write.{state_line_of, rule_line_of, states_text_of, rules_text_of, table_text_of}
use Rattle.rule_write.proofs.RoundTrip.{read_write}
use Rattle.rule_read.proofs.Passes.{text_passes}
use Rattle.rule_write.proofs.Bounds.{RuleBelow, mark_most, numbers_below}

-- numbers of one digit are below the first, and numbers of at most two below the second
abbrev pub one_digit : ℕ
one_digit = 10

abbrev pub two_digits : ℕ
two_digits = 100

-- at most so many bytes has a head, the line of a state of two digits and the line of a rule
abbrev pub head_bytes : ℕ
head_bytes = 8

abbrev pub state_bytes : ℕ
state_bytes = 9

abbrev pub rule_bytes : ℕ
rule_bytes = 11

head_size : (y n : ℕ) → y < two_digits → n < two_digits → length (line_text (Head y n)) ≤ head_bytes
unfolding line_text
head_size y n hy hn = omega (arith, length_two letter_t 2 y n 0 (λ e. omega arith), decimal_two y hy, decimal_two n hn)

state_size : (i s f : ℕ) → s < one_digit → f < one_digit → length (line_text (State i s f)) + 2 ≡ state_bytes + length (decimal i)
unfolding line_text
state_size i s f hs hf = omega (arith, length_three letter_s 3 i s f refl, length_one s hs, length_one f hf)

rule_size : {k a b q : ℕ} → RuleBelow two_digits k a b q → length (line_text (rule_of k a b q)) ≤ rule_bytes
unfolding line_text
rule_size {k} {a} {b} {q} h =
    let la = decimal_two a h.left in
    let lb = decimal_two b h.right in
    let lq = decimal_two q h.target in
    by_cases (ℕ_discrete k 0)
    (λ e. omega (arith, ap length (rule_leaf a b q e), length_two letter_l 2 a q 0 (λ e. omega arith)))
    (λ d. by_cases (ℕ_discrete k 1)
    (λ e. omega (arith, ap length (rule_join a b q e), length_three letter_p 3 a b q refl))
    (λ e. omega (arith, ap length (rule_step a b q d e), length_two letter_e 2 a q 0 (λ e. omega arith))))

-- the lines of states save a byte where the state has one digit
states_size : (ms : List ℕ) → ((i : ℕ) → i < length ms → at ms i ≤ 7) → (k : ℕ) → k ≤ length ms → k ≤ two_digits
    → length (states_text_of ms k) + min k one_digit ≤ state_bytes * k
unfolding states_text_of
states_size ms g zero h l = omega arith
states_size ms g (suc k) h l =
    let m = g k (omega arith) in
    let ih = states_size ms g k (omega arith) (omega arith) in
    let a = length-append (states_text_of ms k) (line_text (state_line_of ms k)) in
    let b = state_size k (at ms k / 2) (at ms k % 2) (omega arith) (omega arith) in
    by_cases (dec_lt k one_digit)
    (λ t. omega (arith, ih, a, b, length_one k t))
    (λ t. omega (arith, ih, a, b, decimal_two k (omega arith)))

rules_size : (w : ℕ) (xs : List ℕ) (k : ℕ)
    → ((j : ℕ) → j < k → RuleBelow two_digits (at xs (j * w)) (at xs (j * w + 1)) (at xs (j * w + 2)) (at xs (j * w + 3)))
    → length (rules_text_of w xs k) ≤ rule_bytes * k
unfolding rules_text_of
rules_size w xs zero g = omega arith
rules_size w xs (suc k) g =
    omega (arith, rules_size w xs k (λ j h. g j (omega arith)), length-append (rules_text_of w xs k) (line_text (rule_line_of w xs k)), rule_size (g k (omega arith)))

-- the text of a table, by its states and its rules
pub text_size : (L : Limits) → L.symbols < two_digits → L.states < two_digits → (y : ℕ) (ms xs : List ℕ) → Sound L y ms xs
    → length (table_text_of L.width y ms xs) + min (length ms) one_digit ≤ head_bytes + state_bytes * length ms + rule_bytes * (length xs / L.width)
unfolding table_text_of
text_size L hy hn y ms xs sound =
    let n = length ms in
    let r = length xs / L.width in
    let a = symbols_few L sound in
    let b = states_few L sound in
    omega (
      arith,
      length-append (line_text (Head y n)) (states_text_of ms n ++ rules_text_of L.width xs r),
      length-append (states_text_of ms n) (rules_text_of L.width xs r),
      head_size y n (omega arith) (omega arith),
      states_size ms (λ i h. mark_most sound h) n (omega arith) (omega arith),
      rules_size L.width xs r (λ j h. numbers_below sound two_digits (omega arith) (omega arith) h),
    )

-- at most so many bytes has the text of a table within these limits
abbrev pub text_bytes_of : Limits → ℕ
text_bytes_of L = head_bytes + state_bytes * L.states - one_digit + rule_bytes * L.rules

pub text_most : (L : Limits) → L.symbols < two_digits → L.states < two_digits → one_digit ≤ L.states → (y : ℕ) (ms xs : List ℕ)
    → Sound L y ms xs → length (table_text_of L.width y ms xs) ≤ text_bytes_of L
text_most L hy hn ho y ms xs sound =
    let a = states_few L sound in
    let b = rules_few L sound in
    omega (arith, text_size L hy hn y ms xs sound)

-- at the paper's limits
pub table_text_size : (y : ℕ) (ms xs : List ℕ) → table_checked limits y ms xs ≡ passes → length (table_text_of limits.width y ms xs) ≤ 7138
table_text_size y ms xs p = text_most limits (omega arith) (omega arith) (omega arith) y ms xs ((passes_exactly limits y ms xs).0 p)

-- a rule text that is read
pub read_text_size : (s : List ℕ) (y n r : ℕ) → text_told limits s ≡ holds y n r → length s ≤ 7138
read_text_size s y n r e =
    let p = text_passes limits wide_limits s y n r e in
    rw (read_write limits wide_limits s y n r e) at (table_text_size y (marks_of (said_by s)) (rules_of (said_by s)) p)
