-- The tests of specs/Sets and the families of rules say the same. Assumes nothing.
use Prim.Native.Nat.{ℕ, zero, suc, ◌<◌}
use native.Mathlib.Omega.{arith}
use native.Mathlib.Decide.{ℕ_discrete}
use mathlib.Core.Path.{◌≡◌, subst}
use mathlib.Core.Logic.{◌≢◌}
use mathlib.Core.Bool.{Bool, true, false, ◌||◌, ◌&&◌}
use mathlib.Core.List.{List, [], ◌∷◌, ◌++◌}
use lib.Dec.{T, eqb→eq, eqb_refl}
use Rattle.model.specs.Model.{Model, symbol, empty, sequence, choice, star, maybe, plus, Word, one, nothing, both, left, right, stop, more, skip, take, some}
use Rattle.model.specs.Sets.{nullable, first, last, follow, some_below}
use Rattle.model.proofs.Families.{First, f_here, f_seq_l, f_seq_r, f_alt_l, f_alt_r, f_star, f_opt, f_plus, Last, l_here, l_seq_l, l_seq_r, l_alt_l, l_alt_r, l_star, l_opt, l_plus, Follow, n_seq_l, n_seq_r, n_across, n_alt_l, n_alt_r, n_star, n_star_again, n_opt, n_plus, n_plus_again}

-- tests taken apart and put together
pub or_elim : {C : Type 0} (a b : Bool) → (T a → C) → (T b → C) → T (a || b) → C
or_elim true b f g t = f tt
or_elim false b f g t = g t

pub or_left : (a b : Bool) → T a → T (a || b)
or_left true b t = tt
or_left false b t = absurd t

pub or_right : (a b : Bool) → T b → T (a || b)
or_right true b t = tt
or_right false b t = t

pub and_elim : {C : Type 0} (a b : Bool) → (T a → T b → C) → T (a && b) → C
and_elim true b f t = f tt t
and_elim false b f t = absurd t

pub and_both : (a b : Bool) → T a → T b → T (a && b)
and_both true b t u = u
and_both false b t u = absurd t

-- nullable: the empty word is a word
pub nullable_word : (m : Model) → T (nullable m) → Word m []
nullable_word (symbol a) t = absurd t
nullable_word empty t = nothing
nullable_word (sequence l r) t = and_elim (nullable l) (nullable r) (λ p q. both (nullable_word l p) (nullable_word r q)) t
nullable_word (choice l r) t = or_elim (nullable l) (nullable r) (λ p. left (nullable_word l p)) (λ p. right (nullable_word r p)) t
nullable_word (star m) t = stop
nullable_word (maybe m) t = skip
nullable_word (plus m) t = some (nullable_word m t) stop

-- of a word: the model is nullable if the word is empty
abbrev Empty : List ℕ → Type 0
Empty [] = Unit {0}
Empty (x ∷ u) = ⊥

empty_l : (u v : List ℕ) → Empty (u ++ v) → Empty u
empty_l [] v e = tt
empty_l (x ∷ u) v e = e

empty_r : (u v : List ℕ) → Empty (u ++ v) → Empty v
empty_r [] v e = e
empty_r (x ∷ u) v e = absurd e

empty_nullable : {m : Model} {w : List ℕ} → Word m w → Empty w → T (nullable m)
empty_nullable one e = e
empty_nullable nothing e = tt
empty_nullable (both {l = l} {r = r} {u = u} {v = v} a b) e = and_both (nullable l) (nullable r) (empty_nullable a (empty_l u v e)) (empty_nullable b (empty_r u v e))
empty_nullable (left {l = l} {r = r} a) e = or_left (nullable l) (nullable r) (empty_nullable a e)
empty_nullable (right {l = l} {r = r} a) e = or_right (nullable l) (nullable r) (empty_nullable a e)
empty_nullable stop e = tt
empty_nullable (more a b) e = tt
empty_nullable skip e = tt
empty_nullable (take a) e = tt
empty_nullable (some {u = u} {v = v} a b) e = empty_nullable a (empty_l u v e)

pub word_nullable : {m : Model} → Word m [] → T (nullable m)
word_nullable a = empty_nullable a tt

-- first
pub test_first : (m : Model) (x : ℕ) → T (first m x) → First m x
test_first (symbol a) x t = subst (First (symbol a)) (eqb→eq a x t) f_here
test_first empty x t = absurd t
test_first (sequence l r) x t = or_elim (first l x) (nullable l && first r x) (λ p. f_seq_l (test_first l x p)) (and_elim (nullable l) (first r x) (λ e p. f_seq_r (nullable_word l e) (test_first r x p))) t
test_first (choice l r) x t = or_elim (first l x) (first r x) (λ p. f_alt_l (test_first l x p)) (λ p. f_alt_r (test_first r x p)) t
test_first (star m) x t = f_star (test_first m x t)
test_first (maybe m) x t = f_opt (test_first m x t)
test_first (plus m) x t = f_plus (test_first m x t)

pub first_test : {m : Model} {x : ℕ} → First m x → T (first m x)
first_test (f_here {a = a}) = eqb_refl a
first_test (f_seq_l {l = l} {r = r} {x = x} p) = or_left (first l x) (nullable l && first r x) (first_test p)
first_test (f_seq_r {l = l} {r = r} {x = x} e p) = or_right (first l x) (nullable l && first r x) (and_both (nullable l) (first r x) (word_nullable e) (first_test p))
first_test (f_alt_l {l = l} {r = r} {x = x} p) = or_left (first l x) (first r x) (first_test p)
first_test (f_alt_r {l = l} {r = r} {x = x} p) = or_right (first l x) (first r x) (first_test p)
first_test (f_star p) = first_test p
first_test (f_opt p) = first_test p
first_test (f_plus p) = first_test p

-- last
pub test_last : (m : Model) (x : ℕ) → T (last m x) → Last m x
test_last (symbol a) x t = subst (Last (symbol a)) (eqb→eq a x t) l_here
test_last empty x t = absurd t
test_last (sequence l r) x t = or_elim (last l x && nullable r) (last r x) (and_elim (last l x) (nullable r) (λ p e. l_seq_l (test_last l x p) (nullable_word r e))) (λ p. l_seq_r (test_last r x p)) t
test_last (choice l r) x t = or_elim (last l x) (last r x) (λ p. l_alt_l (test_last l x p)) (λ p. l_alt_r (test_last r x p)) t
test_last (star m) x t = l_star (test_last m x t)
test_last (maybe m) x t = l_opt (test_last m x t)
test_last (plus m) x t = l_plus (test_last m x t)

pub last_test : {m : Model} {x : ℕ} → Last m x → T (last m x)
last_test (l_here {a = a}) = eqb_refl a
last_test (l_seq_l {l = l} {r = r} {x = x} p e) = or_left (last l x && nullable r) (last r x) (and_both (last l x) (nullable r) (last_test p) (word_nullable e))
last_test (l_seq_r {l = l} {r = r} {x = x} p) = or_right (last l x && nullable r) (last r x) (last_test p)
last_test (l_alt_l {l = l} {r = r} {x = x} p) = or_left (last l x) (last r x) (last_test p)
last_test (l_alt_r {l = l} {r = r} {x = x} p) = or_right (last l x) (last r x) (last_test p)
last_test (l_star p) = last_test p
last_test (l_opt p) = last_test p
last_test (l_plus p) = last_test p

-- follow
pub test_follow : (m : Model) (x y : ℕ) → T (follow m x y) → Follow m x y
test_follow (symbol a) x y t = absurd t
test_follow empty x y t = absurd t
test_follow (sequence l r) x y t = or_elim (follow l x y) (follow r x y || (last l x && first r y)) (λ p. n_seq_l (test_follow l x y p)) (or_elim (follow r x y) (last l x && first r y) (λ p. n_seq_r (test_follow r x y p)) (and_elim (last l x) (first r y) (λ p q. n_across (test_last l x p) (test_first r y q)))) t
test_follow (choice l r) x y t = or_elim (follow l x y) (follow r x y) (λ p. n_alt_l (test_follow l x y p)) (λ p. n_alt_r (test_follow r x y p)) t
test_follow (star m) x y t = or_elim (follow m x y) (last m x && first m y) (λ p. n_star (test_follow m x y p)) (and_elim (last m x) (first m y) (λ p q. n_star_again (test_last m x p) (test_first m y q))) t
test_follow (maybe m) x y t = n_opt (test_follow m x y t)
test_follow (plus m) x y t = or_elim (follow m x y) (last m x && first m y) (λ p. n_plus (test_follow m x y p)) (and_elim (last m x) (first m y) (λ p q. n_plus_again (test_last m x p) (test_first m y q))) t

pub follow_test : {m : Model} {x y : ℕ} → Follow m x y → T (follow m x y)
follow_test (n_seq_l {l = l} {r = r} {x = x} {y = y} p) = or_left (follow l x y) (follow r x y || (last l x && first r y)) (follow_test p)
follow_test (n_seq_r {l = l} {r = r} {x = x} {y = y} p) = or_right (follow l x y) (follow r x y || (last l x && first r y)) (or_left (follow r x y) (last l x && first r y) (follow_test p))
follow_test (n_across {l = l} {r = r} {x = x} {y = y} p q) = or_right (follow l x y) (follow r x y || (last l x && first r y)) (or_right (follow r x y) (last l x && first r y) (and_both (last l x) (first r y) (last_test p) (first_test q)))
follow_test (n_alt_l {l = l} {r = r} {x = x} {y = y} p) = or_left (follow l x y) (follow r x y) (follow_test p)
follow_test (n_alt_r {l = l} {r = r} {x = x} {y = y} p) = or_right (follow l x y) (follow r x y) (follow_test p)
follow_test (n_star {m = m} {x = x} {y = y} p) = or_left (follow m x y) (last m x && first m y) (follow_test p)
follow_test (n_star_again {m = m} {x = x} {y = y} p q) = or_right (follow m x y) (last m x && first m y) (and_both (last m x) (first m y) (last_test p) (first_test q))
follow_test (n_opt p) = follow_test p
follow_test (n_plus {m = m} {x = x} {y = y} p) = or_left (follow m x y) (last m x && first m y) (follow_test p)
follow_test (n_plus_again {m = m} {x = x} {y = y} p q) = or_right (follow m x y) (last m x && first m y) (and_both (last m x) (first m y) (last_test p) (first_test q))

-- a number below n passes a test
pub test_below : (n : ℕ) (p : ℕ → Bool) → T (some_below n p) → (i : ℕ) × (i < n) × T (p i)
test_below zero p t = absurd t
test_below (suc n) p t = or_elim (p n) (some_below n p) (λ h. (n, omega arith, h)) (λ h. let k = test_below n p h in (k.0, omega arith, k.2)) t

pub below_test : (n : ℕ) (p : ℕ → Bool) (i : ℕ) → i < n → T (p i) → T (some_below n p)
below_test zero p i h t = absurd (omega arith)
below_test (suc n) p i h t = go (ℕ_discrete i n) (λ d. below_test n p i (omega arith) t)
  where
    go : Dec (i ≡ n) → (i ≢ n → T (some_below n p)) → T (p n || some_below n p)
    go (yes e) k = or_left (p n) (some_below n p) (subst (λ j. T (p j)) e t)
    go (no d) k = or_right (p n) (some_below n p) (k d)
