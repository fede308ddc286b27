-- A table given as slices, a symbol count, the marks of its states and its rules in rows: refusals 4, 2, 5 and 6, each as "given exactly
-- if", and what the check of a table tells.
use Rattle.std.specs.Prelude.{ℕ, ◌+◌, ◌*◌, ◌/◌, ◌%◌, ◌≤◌, ◌<◌, ◌≡◌, ◌≢◌, ◌⊎◌, List, length}
use Rattle.std.proofs.Math.Logic.{ite}
use Rattle.std.proofs.Math.Logic.Dec
use Rattle.std.proofs.Math.Decide.{ℕ_discrete, dec_le, dec_lt}
use Rattle.paper.specs.Limits.{Limits, at, leaf_kind, join_kind, eps_kind}
use Rattle.paper.specs.Told.{Told, refused, passes}
use Rattle.paper.specs.First.{first}
use Rattle.paper.specs.Tests.{dec_or, dec_below}
use Rattle.table.specs.Rules.{Row, most_sort, most_final, sort_of, final_of}
use Rattle.table.specs.RowTest.{row?}

-- 4: symbols outside 1 to the most, too many states, too many rules (a slice: its length by the width, rounded down)
abbrev pub TooLarge : Limits → ℕ → ℕ → ℕ → Type 0
TooLarge L symbols states rules = (symbols ≡ 0) ⊎ ((L.symbols < symbols) ⊎ ((L.states < states) ⊎ (L.rules < rules)))

-- 2: a rule slice isn't a multiple of the width
abbrev pub Ragged : Limits → List ℕ → Type 0
Ragged L xs = length xs % L.width ≢ 0

-- 5: a sort other than 1, 2 and 3, or a final other than 0 and 1
abbrev pub BadSort : ℕ → ℕ → Type 0
BadSort s f = (s ≡ 0) ⊎ ((most_sort < s) ⊎ (most_final < f))

-- 5: a state mark outside 2 to 7, whose sort is none of the three
abbrev pub BadMark : ℕ → Type 0
BadMark m = BadSort (sort_of m) (final_of m)

-- 2: a kind above 2, or a number that must be 0 isn't
abbrev pub Misshapen : ℕ → ℕ → Type 0
Misshapen k b = (eps_kind < k) ⊎ ((k ≢ join_kind) × (b ≢ 0))

-- 5: a rule names a state that is not below the states, or a symbol that is not below the symbols
abbrev pub OutOfRange : ℕ → ℕ → ℕ → ℕ → ℕ → ℕ → Type 0
OutOfRange symbols states k a b q =
    (states ≤ q) ⊎ (((k ≡ leaf_kind) × (symbols ≤ a)) ⊎ (((k ≢ leaf_kind) × (states ≤ a)) ⊎ ((k ≡ join_kind) × (states ≤ b))))

-- 6: one of the first n rows has these numbers
abbrev pub HasRow : ℕ → List ℕ → ℕ → ℕ → ℕ → ℕ → ℕ → Type 0
HasRow w xs n k a b q = (j : ℕ) × (j < n) × Row w xs j k a b q

unfoldable pub too_large? : (L : Limits) (symbols states rules : ℕ) → Dec (TooLarge L symbols states rules)
too_large? L symbols states rules = dec_or (ℕ_discrete _ _) (dec_or (dec_lt _ _) (dec_or (dec_lt _ _) (dec_lt _ _)))

unfoldable pub ragged? : (L : Limits) (xs : List ℕ) → Dec (Ragged L xs)
ragged? L xs = Dec.not (ℕ_discrete _ _)

unfoldable pub bad_sort? : (s f : ℕ) → Dec (BadSort s f)
bad_sort? s f = dec_or (ℕ_discrete _ _) (dec_or (dec_lt _ _) (dec_lt _ _))

unfoldable pub bad_mark? : (m : ℕ) → Dec (BadMark m)
bad_mark? m = bad_sort? (sort_of m) (final_of m)

unfoldable pub misshapen? : (k b : ℕ) → Dec (Misshapen k b)
misshapen? k b = dec_or (dec_lt _ _) (Dec.and (Dec.not (ℕ_discrete _ _)) (Dec.not (ℕ_discrete _ _)))

unfoldable pub out_of_range? : (symbols states k a b q : ℕ) → Dec (OutOfRange symbols states k a b q)
out_of_range? symbols states k a b q =
    dec_or (dec_le _ _)
    (dec_or (Dec.and (ℕ_discrete _ _) (dec_le _ _))
    (dec_or (Dec.and (Dec.not (ℕ_discrete _ _)) (dec_le _ _)) (Dec.and (ℕ_discrete _ _) (dec_le _ _))))

unfoldable pub has_row? : (w : ℕ) (xs : List ℕ) (n k a b q : ℕ) → Dec (HasRow w xs n k a b q)
has_row? w xs n k a b q = dec_below (λ j. Row w xs j k a b q) (λ j. row? w xs j k a b q) n

-- these three of rule i, whose numbers stand in row i: it is misshapen (2), out of range (5), equal to an earlier rule (6)
abbrev pub RuleMisshapen : Limits → List ℕ → ℕ → Type 0
RuleMisshapen L xs i = let r = i * L.width in Misshapen (at xs r) (at xs (r + 2))

abbrev pub RuleOutOfRange : Limits → ℕ → ℕ → List ℕ → ℕ → Type 0
RuleOutOfRange L symbols states xs i =
    let r = i * L.width in OutOfRange symbols states (at xs r) (at xs (r + 1)) (at xs (r + 2)) (at xs (r + 3))

abbrev pub RuleRepeated : Limits → List ℕ → ℕ → Type 0
RuleRepeated L xs i =
    let r = i * L.width in HasRow L.width xs i (at xs r) (at xs (r + 1)) (at xs (r + 2)) (at xs (r + 3))

-- the number that is wrong with the mark of state i, or 0
unfoldable pub mark_fault : List ℕ → ℕ → ℕ
mark_fault ms i = ite (bad_mark? (at ms i)) 5 0

-- the lowest number that is wrong with rule i, or 0
unfoldable pub rule_fault_of : Limits → ℕ → ℕ → List ℕ → ℕ → ℕ
rule_fault_of L symbols states xs i =
    let r = i * L.width in
    let k = at xs r in
    let a = at xs (r + 1) in
    let b = at xs (r + 2) in
    let q = at xs (r + 3) in
    ite (misshapen? k b) 2 (ite (out_of_range? symbols states k a b q) 5 (ite (has_row? L.width xs i k a b q) 6 0))

-- what the check of a table tells: 4; the slice's length, 2; the marks in order, 5; then the first faulty rule, in it 2, 5, 6
unfoldable pub table_checked : Limits → ℕ → List ℕ → List ℕ → Told
table_checked L symbols ms xs =
    ite (too_large? L symbols (length ms) (length xs / L.width)) (refused 4 0 0)
    (ite (ragged? L xs) (refused 2 0 0)
    (first (mark_fault ms) (length ms) (first (rule_fault_of L symbols (length ms) xs) (length xs / L.width) passes)))

-- rule i has none of the three faults
pub record GoodRule (L : Limits) (symbols states : ℕ) (xs : List ℕ) (i : ℕ) : Type 0 where
  pub shaped : ¬ RuleMisshapen L xs i
  pub in_range : ¬ RuleOutOfRange L symbols states xs i
  pub new : ¬ RuleRepeated L xs i

-- the check comes to rule i: nothing that is looked for earlier is wrong
pub record ComesTo (L : Limits) (symbols : ℕ) (ms xs : List ℕ) (i : ℕ) : Type 0 where
  pub size_good : ¬ TooLarge L symbols (length ms) (length xs / L.width)
  pub length_good_of : ¬ Ragged L xs
  pub marks_good_of : (j : ℕ) → j < length ms → ¬ BadMark (at ms j)
  pub inside : i < length xs / L.width
  pub before : (j : ℕ) → j < i → GoodRule L symbols (length ms) xs j

-- refusals 4, 2, 5 and 6 of a table, as "given exactly if": number, side and place (`refused_exactly` of proofs/Exact says that the
-- check tells exactly these)
pub data TableRefused (L : Limits) (symbols : ℕ) (ms xs : List ℕ) : ℕ → ℕ → ℕ → Type 0 where
  too_large_of : TooLarge L symbols (length ms) (length xs / L.width) → TableRefused L symbols ms xs 4 0 0
  ragged : ¬ TooLarge L symbols (length ms) (length xs / L.width) → Ragged L xs → TableRefused L symbols ms xs 2 0 0
  bad_mark_of : {i : ℕ} → ¬ TooLarge L symbols (length ms) (length xs / L.width) → ¬ Ragged L xs → i < length ms
      → BadMark (at ms i) → ((j : ℕ) → j < i → ¬ BadMark (at ms j)) → TableRefused L symbols ms xs 5 0 (i + 1)
  misshapen : {i : ℕ} → ComesTo L symbols ms xs i → RuleMisshapen L xs i → TableRefused L symbols ms xs 2 0 (i + 1)
  out_of_range_of : {i : ℕ} → ComesTo L symbols ms xs i → ¬ RuleMisshapen L xs i → RuleOutOfRange L symbols (length ms) xs i
      → TableRefused L symbols ms xs 5 0 (i + 1)
  repeated : {i : ℕ} → ComesTo L symbols ms xs i → ¬ RuleMisshapen L xs i → ¬ RuleOutOfRange L symbols (length ms) xs i
      → RuleRepeated L xs i → TableRefused L symbols ms xs 6 0 (i + 1)

-- a table without a fault
pub record Sound (L : Limits) (symbols : ℕ) (ms xs : List ℕ) : Type 0 where
  pub size_good : ¬ TooLarge L symbols (length ms) (length xs / L.width)
  pub length_good_of : ¬ Ragged L xs
  pub marks_good_of : (i : ℕ) → i < length ms → ¬ BadMark (at ms i)
  pub rules_good : (i : ℕ) → i < length xs / L.width → GoodRule L symbols (length ms) xs i
