-- The lines of the nodes of a tree without a fault take at most 12 bytes each. Assumes nothing.
use Prim.Native.Nat.{ℕ, zero, suc, ◌+◌, ◌*◌, ◌≤◌, ◌<◌}
use mathlib.Core.Path.{◌≡◌, refl, ap, sym}
use mathlib.Core.Logic.{inl, inr, by_cases}
use mathlib.Core.List.{List, ◌++◌}
use native.Mathlib.Omega.{arith}
use native.Mathlib.Decide.{ℕ_discrete, dec_le}
use native.Mathlib.Numerals.{add-one}
use lib.ListN.{length, take, length-append}
use lib.Seq.{get_or-take, length-take-le}
use Rattle.paper.specs.Limits.{limits, at}
use Rattle.tree.specs.Tree.{leaf_mark}
use Rattle.tree.specs.Nodes.{BadNode, Sound}
use Rattle.lines.proofs.NumberLaws.{decimal_two}
use Rattle.lines.proofs.FieldLaws.{length_two}
use Rattle.put.specs.Put.{Fit, Wrote}
use Rattle.put.proofs.PutLaws.{put_none, fit_then, fit_as}
use Rattle.answers.specs.Lines.{letter_j, witness_line, node_line, node_lines, witness_text}
use Rattle.answers.proofs.LineLaws.{node_leaf, node_join}
use Rattle.answers.proofs.Sizes.{leaf_size, witness_size, decimal_four}

-- the lines of one node more
pub nodes_more : (xs : List ℕ) (i : ℕ) → node_lines xs (i + 1) ≡ node_lines xs i ++ node_line (at xs (2 * i)) (at xs (2 * i + 1))
unfolding node_lines
nodes_more xs i = rw (add-one i) refl

pub fit_none : (o : List ℕ) (a : ℕ) (xs : List ℕ) → Fit o a (node_lines xs 0) a o
unfolding node_lines
fit_none o a xs h = put_none o a

pub fit_more : {o o₁ o₂ : List ℕ} {a e r : ℕ} (xs : List ℕ) (i : ℕ) → Fit o a (node_lines xs i) e o₁
    → Wrote o₁ e (node_line (at xs (2 * i)) (at xs (2 * i + 1))) r o₂ → Fit o a (node_lines xs (i + 1)) r o₂
fit_more xs i f w = fit_as (sym (nodes_more xs i)) (fit_then f w.fits)

pub full : {o o' : List ℕ} {a e i n : ℕ} (xs : List ℕ) → i ≡ n → Fit o a (node_lines xs i) e o' → Fit o a (node_lines xs n) e o'
full xs q f = rw q at f

-- a good node's line
node_size : (y : ℕ) (xs : List ℕ) (i : ℕ) → y ≤ 40 → i < 3660 → ¬ BadNode y xs i → length (node_line (at xs (2 * i)) (at xs (2 * i + 1))) ≤ 12
node_size y xs i few h g = by_cases (ℕ_discrete (at xs (2 * i + 1)) leaf_mark)
    (λ e. by_cases (dec_le y (at xs (2 * i))) (λ b. absurd (g (inl (e, b))))
    (λ b. let l = ap length (node_leaf (at xs (2 * i)) (at xs (2 * i + 1)) e) in
    omega (arith, l, leaf_size (at xs (2 * i)), decimal_two (at xs (2 * i)) (omega arith))))
    (λ d. by_cases (dec_le i (at xs (2 * i))) (λ b. absurd (g (inr (d, inl b))))
    (λ b. by_cases (dec_le i (at xs (2 * i + 1))) (λ c. absurd (g (inr (d, inr c))))
    (λ c. let l = ap length (node_join (at xs (2 * i)) (at xs (2 * i + 1)) d) in
    let k = length_two letter_j 2 (at xs (2 * i)) (at xs (2 * i + 1)) 0 (λ e. omega arith) in
    omega (arith, l, k, decimal_four (at xs (2 * i)) (omega arith), decimal_four (at xs (2 * i + 1)) (omega arith)))))

-- the lines of the first nodes depend on these alone
nodes_front : (xs : List ℕ) (n i : ℕ) → i ≤ n → node_lines (take (2 * n) xs) i ≡ node_lines xs i
unfolding node_lines
nodes_front xs n zero h = refl
nodes_front xs n (suc i) h =
    rw (nodes_front xs n i (omega arith), get_or-take (2 * n) xs (2 * i) 0 (omega arith), get_or-take (2 * n) xs (2 * i + 1) 0 (omega arith)) refl

lines_size : (y : ℕ) (xs : List ℕ) (k : ℕ) → y ≤ 40 → k ≤ 3660 → ((i : ℕ) → i < k → ¬ BadNode y xs i) → length (node_lines xs k) ≤ 12 * k
unfolding node_lines
lines_size y xs zero few h g = omega arith
lines_size y xs (suc k) few h g =
    let a = lines_size y xs k few (omega arith) (λ i l. g i (omega arith)) in
    let b = node_size y xs k few (omega arith) (g k (omega arith)) in
    omega (arith, a, b, length-append (node_lines xs k) (node_line (at xs (2 * k)) (at xs (2 * k + 1))))

-- a witness takes 13 bytes and at most 12 a node
pub witness_text_size : (y : ℕ) (ws : List ℕ) (k : ℕ) → y ≤ 40 → k ≤ 3660 → 2 * k ≤ length ws → Sound limits y (take (2 * k) ws)
    → length (witness_text ws k) ≤ 13 + 12 * 3660
unfolding witness_text
witness_text_size y ws k few h l s =
    let n = length-take-le (2 * k) ws l in
    let a = lines_size y (take (2 * k) ws) k few h (λ i j. s.nodes_good i (omega arith)) in
    let b = ap length (nodes_front ws k k (omega arith)) in
    omega (arith, a, b, witness_size k, decimal_four k (omega arith), length-append (witness_line k) (node_lines ws k))
