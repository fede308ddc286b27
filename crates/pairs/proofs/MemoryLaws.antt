-- Laws of the work memory: its parts are as long as they should be, a number is read in the part where it stands, and a number set in
-- one part leaves the others. Assumes nothing.
use Prim.Native.Nat.{ℕ, zero, suc, ◌+◌, ◌-◌, ◌≤◌, ◌<◌}
use mathlib.Core.Path.{◌≡◌, refl, sym, ap, ◌∙◌}
use mathlib.Core.Logic.{by_cases, if_pos, if_neg}
use mathlib.Core.List.{List, [], ◌∷◌}
use native.Mathlib.Decide.{ℕ_discrete, dec_lt}
use native.Mathlib.Omega.{arith}
use lib.ListN.{length, take, drop, set, length-set, length-drop, get_or-eq_default}
use lib.Seq.{length-take-le, get_or-take, get_or-drop, take-set-le, drop-set-lt, take-set-lt, drop-set-add, take-add, drop_at}
use Rattle.paper.specs.Limits.{at}
use Rattle.pairs.specs.Memory.{part, found_at, the_queue_at, the_lefts_at, the_rights_at, end_at, memory, with_found, with_queue, with_lefts, with_rights, found_mark, taken_mark, Marked, putting, taking, zeros}

pub length_part : (ws : List ℕ) (o n : ℕ) → o + n ≤ length ws → length (part ws o n) ≡ n
length_part ws o n h = length-take-le n (drop o ws) (let e = length-drop o ws in omega arith)

pub at_part : (ws : List ℕ) (o n i : ℕ) → i < n → at (part ws o n) i ≡ at ws (o + i)
at_part ws o n i h = get_or-take n (drop o ws) i 0 h ∙ get_or-drop o ws i 0

-- a number set in a part
pub part_set : (ws : List ℕ) (o n i v : ℕ) → i < n → part (set ws (o + i) v) o n ≡ set (part ws o n) i v
part_set ws o n i v h = ap (λ (l : List ℕ). take n l) (drop-set-add o ws i v) ∙ take-set-lt n (drop o ws) i v h

-- a number set before a part, and behind it
pub part_before : (ws : List ℕ) (o n i v : ℕ) → i < o → part (set ws i v) o n ≡ part ws o n
part_before ws o n i v h = ap (λ (l : List ℕ). take n l) (drop-set-lt o ws i v h)

pub part_behind : (ws : List ℕ) (o n i v : ℕ) → o + n ≤ i → part (set ws i v) o n ≡ part ws o n
part_behind ws o n i v h =
    ap (λ (l : List ℕ). take n l) (ap (λ (j : ℕ). drop o (set ws j v)) (omega arith) ∙ drop-set-add o ws (i - o) v)
    ∙ take-set-le n (drop o ws) (i - o) v (omega arith)

-- marks
pub marked_inside : (s : List ℕ) (c : ℕ) → Marked s c → c < length s
marked_inside s c h = by_cases (dec_lt c (length s))
    (λ l. l)
    (λ l. absurd (let z : at s c ≡ 0 = get_or-eq_default s 0 {n = c} (omega arith) in omega arith))

pub zeros_set : (s : List ℕ) (i v : ℕ) → i < length s → at s i ≡ 0 → 1 ≤ v → zeros (set s i v) + 1 ≡ zeros s
unfolding zeros
zeros_set [] i v h e l = absurd (omega arith)
zeros_set (x ∷ xs) zero v h e l =
    let a = if_pos {C = ℕ} (ℕ_discrete x 0) e 1 0 in
    let b = if_neg {C = ℕ} (ℕ_discrete v 0) (omega arith) 1 0 in
    omega arith
zeros_set (x ∷ xs) (suc i) v h e l = let a = zeros_set xs i v (omega arith) e l in omega arith

-- marking a marked pair again leaves the count of the others
pub zeros_again : (s : List ℕ) (i v : ℕ) → Marked s i → 1 ≤ v → zeros (set s i v) ≡ zeros s
unfolding zeros
zeros_again [] i v h l = refl
zeros_again (x ∷ xs) zero v h l =
    let a = if_neg {C = ℕ} (ℕ_discrete x 0) (λ e. absurd (omega arith)) 1 0 in
    let b = if_neg {C = ℕ} (ℕ_discrete v 0) (omega arith) 1 0 in
    omega arith
zeros_again (x ∷ xs) (suc i) v h l = let a = zeros_again xs i v h l in omega arith

pub zeros_clear : (s : List ℕ) → ((c : ℕ) → at s c ≡ 0) → zeros s ≡ length s
unfolding zeros
zeros_clear [] h = refl
zeros_clear (x ∷ xs) h =
    let a = if_pos {C = ℕ} (ℕ_discrete x 0) (h 0) 1 0 in
    let b = zeros_clear xs (λ c. h (suc c)) in
    omega arith

-- a number set in one part of the slice
module _ (b N : ℕ) (ws : List ℕ) (c v : ℕ) (h : c < N) where
  pub set_found : memory b N (set ws (found_at b N + c) v) ≡ with_found (memory b N ws) (set (memory b N ws).found c v)
  unfolding memory
  set_found = rw (
    length-set ws (found_at b N + c) v,
    take-set-le b ws (found_at b N + c) v (omega arith),
    part_set ws (found_at b N) N c v h,
    part_before ws (the_queue_at b N) N (found_at b N + c) v (omega arith),
    part_before ws (the_lefts_at b N) N (found_at b N + c) v (omega arith),
    part_before ws (the_rights_at b N) N (found_at b N + c) v (omega arith),
  ) refl

  pub set_queue : memory b N (set ws (the_queue_at b N + c) v) ≡ with_queue (memory b N ws) (set (memory b N ws).queue c v)
  unfolding memory
  set_queue = rw (
    length-set ws (the_queue_at b N + c) v,
    take-set-le b ws (the_queue_at b N + c) v (omega arith),
    part_behind ws (found_at b N) N (the_queue_at b N + c) v (omega arith),
    part_set ws (the_queue_at b N) N c v h,
    part_before ws (the_lefts_at b N) N (the_queue_at b N + c) v (omega arith),
    part_before ws (the_rights_at b N) N (the_queue_at b N + c) v (omega arith),
  ) refl

  pub set_lefts : memory b N (set ws (the_lefts_at b N + c) v) ≡ with_lefts (memory b N ws) (set (memory b N ws).lefts c v)
  unfolding memory
  set_lefts = rw (
    length-set ws (the_lefts_at b N + c) v,
    take-set-le b ws (the_lefts_at b N + c) v (omega arith),
    part_behind ws (found_at b N) N (the_lefts_at b N + c) v (omega arith),
    part_behind ws (the_queue_at b N) N (the_lefts_at b N + c) v (omega arith),
    part_set ws (the_lefts_at b N) N c v h,
    part_before ws (the_rights_at b N) N (the_lefts_at b N + c) v (omega arith),
  ) refl

  pub set_rights : memory b N (set ws (the_rights_at b N + c) v) ≡ with_rights (memory b N ws) (set (memory b N ws).rights c v)
  unfolding memory
  set_rights = rw (
    length-set ws (the_rights_at b N + c) v,
    take-set-le b ws (the_rights_at b N + c) v (omega arith),
    part_behind ws (found_at b N) N (the_rights_at b N + c) v (omega arith),
    part_behind ws (the_queue_at b N) N (the_rights_at b N + c) v (omega arith),
    part_behind ws (the_lefts_at b N) N (the_rights_at b N + c) v (omega arith),
    part_set ws (the_rights_at b N) N c v h,
  ) refl

-- a pair put into the queue, and a pair taken, as they are written to the slice
pub set_putting : (b N : ℕ) (ws : List ℕ) (k c a d : ℕ) → k < N → c < N
    → memory b N (set (set (set (set ws (found_at b N + c) found_mark) (the_queue_at b N + k) c) (the_lefts_at b N + c) a) (the_rights_at b N + c) d)
    ≡ putting (memory b N ws) k c a d
unfolding putting
set_putting b N ws k c a d hk hc =
    let u = set ws (found_at b N + c) found_mark in
    let v = set u (the_queue_at b N + k) c in
    let w = set v (the_lefts_at b N + c) a in
    rw (set_rights b N w c d hc, set_lefts b N v c a hc, set_queue b N u k c hk, set_found b N ws c found_mark hc) refl

pub set_taking : (b N : ℕ) (ws : List ℕ) (c : ℕ) → c < N → memory b N (set ws (found_at b N + c) taken_mark) ≡ taking (memory b N ws) c
unfolding taking
set_taking b N ws c h = set_found b N ws c taken_mark h

-- the lengths of the parts, and reading in them
pub size_of : (b N : ℕ) (ws : List ℕ) → (memory b N ws).size ≡ length ws
unfolding memory
size_of b N ws = refl

module _ (b N : ℕ) (ws : List ℕ) (h : end_at b N ≤ length ws) where
  pub found_long : length (memory b N ws).found ≡ N
  unfolding memory
  found_long = length_part ws (found_at b N) N (omega arith)

  pub queue_long : length (memory b N ws).queue ≡ N
  unfolding memory
  queue_long = length_part ws (the_queue_at b N) N (omega arith)

  pub lefts_long : length (memory b N ws).lefts ≡ N
  unfolding memory
  lefts_long = length_part ws (the_lefts_at b N) N (omega arith)

  pub rights_long : length (memory b N ws).rights ≡ N
  unfolding memory
  rights_long = length_part ws (the_rights_at b N) N (omega arith)

module _ (b N : ℕ) (ws : List ℕ) (c : ℕ) (h : c < N) where
  pub found_at_lem : at (memory b N ws).found c ≡ at ws (found_at b N + c)
  unfolding memory
  found_at_lem = at_part ws (found_at b N) N c h

  pub queue_at : at (memory b N ws).queue c ≡ at ws (the_queue_at b N + c)
  unfolding memory
  queue_at = at_part ws (the_queue_at b N) N c h

  pub lefts_at : at (memory b N ws).lefts c ≡ at ws (the_lefts_at b N + c)
  unfolding memory
  lefts_at = at_part ws (the_lefts_at b N) N c h

  pub rights_at : at (memory b N ws).rights c ≡ at ws (the_rights_at b N + c)
  unfolding memory
  rights_at = at_part ws (the_rights_at b N) N c h

pub fixed_at : (b N : ℕ) (ws : List ℕ) (c : ℕ) → c < b → at (memory b N ws).fixed c ≡ at ws c
unfolding memory
fixed_at b N ws c h = get_or-take b ws c 0 h

-- a part of the front, that ends with it
pub fixed_drop : (b N : ℕ) (ws : List ℕ) (i : ℕ) → i ≤ b → b ≤ length ws → take (b - i) (drop i ws) ≡ drop i (memory b N ws).fixed
unfolding memory
fixed_drop b N ws i h l =
    let e : i + (b - i) ≡ b = omega arith in
    sym (drop_at (take i ws) (take (b - i) (drop i ws)) i (length-take-le i ws (omega arith)))
    ∙ ap (λ (s : List ℕ). drop i s) (sym (take-add i (b - i) ws) ∙ ap (λ (n : ℕ). take n ws) e)
