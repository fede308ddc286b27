-- What can come next after a beginning.
use Prim.Native.Nat.{ℕ}
use mathlib.Core.Path.{◌≡◌, refl}
use mathlib.Core.Logic.{◌↔◌, ◌≢◌}
use mathlib.Core.List.{List, [], ◌∷◌, ◌++◌, append_assoc}
use Rattle.model.specs.Model.{Model, symbol, empty, sequence, choice, star, maybe, plus, Word, one, nothing, both, left, right, stop, more, skip, take, some, bears, marked, Ambiguous}
use Rattle.model.proofs.Families.{Has, h_here, h_seq_l, h_seq_r, h_alt_l, h_alt_r, h_star, h_opt, h_plus, First, Last, Follow, Linear, first_has, follow_from, follow_to}
use Rattle.model.proofs.Local.{Run, done, step, Walk, walk, word_walk, walk_word}
use Rattle.model.proofs.Places.{mark_linear}

-- Every model has a word, and every symbol of a model stands in one.
pub a_word : (m : Model) → (w : List ℕ) × Word m w
a_word (symbol a) = (a ∷ [], one)
a_word empty = ([], nothing)
a_word (sequence l r) = ((a_word l).0 ++ (a_word r).0, both (a_word l).1 (a_word r).1)
a_word (choice l r) = ((a_word l).0, left (a_word l).1)
a_word (star m) = ([], stop)
a_word (maybe m) = ([], skip)
a_word (plus m) = ((a_word m).0 ++ [], some (a_word m).1 stop)

pub data Passes (m : Model) (x : ℕ) : Type 0 where
  passes : (u v : List ℕ) → Word m (u ++ (x ∷ v)) → Passes m x

pass_seq_l : {l r : Model} {x : ℕ} → Passes l x → (w : List ℕ) × Word r w → Passes (sequence l r) x
pass_seq_l (passes u v a) b = passes u (v ++ b.0) (rw append_assoc at (both a b.1))

pass_seq_r : {l r : Model} {x : ℕ} → (w : List ℕ) × Word l w → Passes r x → Passes (sequence l r) x
pass_seq_r b (passes u v a) = passes (b.0 ++ u) v (rw append_assoc (both b.1 a))

pass_star : {m : Model} {x : ℕ} → Passes m x → Passes (star m) x
pass_star (passes u v a) = passes u (v ++ []) (rw append_assoc at (more a stop))

pass_plus : {m : Model} {x : ℕ} → Passes m x → Passes (plus m) x
pass_plus (passes u v a) = passes u (v ++ []) (rw append_assoc at (some a stop))

pass_opt : {m : Model} {x : ℕ} → Passes m x → Passes (maybe m) x
pass_opt (passes u v a) = passes u v (take a)

pass_alt_l : {l r : Model} {x : ℕ} → Passes l x → Passes (choice l r) x
pass_alt_l (passes u v a) = passes u v (left a)

pass_alt_r : {l r : Model} {x : ℕ} → Passes r x → Passes (choice l r) x
pass_alt_r (passes u v a) = passes u v (right a)

pub has_passes : {m : Model} {x : ℕ} → Has m x → Passes m x
has_passes h_here = passes [] [] one
has_passes (h_seq_l p) = pass_seq_l (has_passes p) (a_word _)
has_passes (h_seq_r p) = pass_seq_r (a_word _) (has_passes p)
has_passes (h_alt_l p) = pass_alt_l (has_passes p)
has_passes (h_alt_r p) = pass_alt_r (has_passes p)
has_passes (h_star p) = pass_star (has_passes p)
has_passes (h_opt p) = pass_opt (has_passes p)
has_passes (h_plus p) = pass_plus (has_passes p)

-- The last of a beginning that is not empty.
abbrev pub end : ℕ → List ℕ → ℕ
end z [] = z
end z (a ∷ u) = end a u

-- After a beginning: First where it is empty, else Follow of its last.
abbrev pub After : Model → List ℕ → ℕ → Type 0
After m [] y = First m y
After m (z ∷ u) y = Follow m (end z u) y

-- A run cut at a place, and put on another end.
run_from : {m : Model} (u : List ℕ) {z : ℕ} (v : List ℕ) → Run m z (u ++ v) → Run m (end z u) v
run_from [] v q = q
run_from (a ∷ u) v (step p q) = run_from u v q

run_onto : {m : Model} (u : List ℕ) {z : ℕ} (v : List ℕ) {v' : List ℕ} → Run m z (u ++ v) → Run m (end z u) v' → Run m z (u ++ v')
run_onto [] v q k = k
run_onto (a ∷ u) v (step p q) k = step p (run_onto u v q k)

step_of : {m : Model} {z y : ℕ} {v : List ℕ} → Run m z (y ∷ v) → Follow m z y
step_of (step p q) = p

rest_of : {m : Model} {z y : ℕ} {v : List ℕ} → Run m z (y ∷ v) → Run m y v
rest_of (step p q) = q

walk_rest : {m : Model} (u : List ℕ) {y : ℕ} {v : List ℕ} → Walk m (u ++ (y ∷ v)) → Run m y v
walk_rest [] (walk f q) = q
walk_rest (z ∷ u) (walk f q) = rest_of (run_from u _ q)

-- Every symbol of a model can be run on to an end.
completion : {m : Model} {y : ℕ} → Passes m y → (v : List ℕ) × Run m y v
completion (passes u v a) = (v, walk_rest u (word_walk a))

-- G2, for every model and for a linear one.
walk_after : {m : Model} (u : List ℕ) (y : ℕ) (v : List ℕ) → Walk m (u ++ (y ∷ v)) → After m u y
walk_after [] y v (walk f q) = f
walk_after (z ∷ u) y v (walk f q) = step_of (run_from u _ q)

walk_on : {m : Model} (u v : List ℕ) {y : ℕ} {v' : List ℕ} → Walk m (u ++ v) → After m u y → Run m y v' → Walk m (u ++ (y ∷ v'))
walk_on [] v k f q = walk f q
walk_on (z ∷ u) v (walk f k) p q = walk f (run_onto u v k (step p q))

after_has : {m : Model} (u : List ℕ) {y : ℕ} → After m u y → Has m y
after_has [] f = first_has f
after_has (z ∷ u) p = follow_to p

pub next_after : {m : Model} (u : List ℕ) (y : ℕ) → (v : List ℕ) × Word m (u ++ (y ∷ v)) → After m u y
next_after u y k = walk_after u y k.0 (word_walk k.1)

pub after_next : {m : Model} → Linear m → (u v : List ℕ) (y : ℕ) → Word m (u ++ v) → After m u y → (v' : List ℕ) × Word m (u ++ (y ∷ v'))
after_next li u v y a p =
    let c = completion (has_passes (after_has u p)) in
    (c.0, walk_word li _ (walk_on u v (word_walk a) p c.1))

-- Two places with one symbol, both First or both after one place.
pub data Clash (m : Model) : Type 0 where
  at_start : (x y : ℕ) → x ≢ y → bears m x ≡ bears m y → First (marked m) x → First (marked m) y → Clash m
  after_place : (z x y : ℕ) → x ≢ y → bears m x ≡ bears m y → Follow (marked m) z x → Follow (marked m) z y → Clash m

clash : (m : Model) (u : List ℕ) (x y : ℕ) → x ≢ y → bears m x ≡ bears m y → After (marked m) u x → After (marked m) u y → Clash m
clash m [] x y d s p q = at_start x y d s p q
clash m (z ∷ u) x y d s p q = after_place (end z u) x y d s p q

end_snoc : (a : ℕ) (u : List ℕ) (z : ℕ) → end a (u ++ (z ∷ [])) ≡ z
end_snoc a [] z = refl
end_snoc a (b ∷ u) z = end_snoc b u z

pub after_snoc : {m : Model} (u : List ℕ) (z : ℕ) {y : ℕ} → Follow m z y → After m (u ++ (z ∷ [])) y
after_snoc [] z p = p
after_snoc (a ∷ u) z p = rw (end_snoc a u z) p

pub snoc_after : {m : Model} (u : List ℕ) (z : ℕ) {y : ℕ} → After m (u ++ (z ∷ [])) y → Follow m z y
snoc_after [] z p = p
snoc_after (a ∷ u) z p = rw (end_snoc a u z) at p

-- A walk may stop behind a place at which words end, and where it stops words end.
pub walk_last : {m : Model} (u : List ℕ) {x : ℕ} (v : List ℕ) → Walk m (u ++ (x ∷ v)) → Last m x → Walk m (u ++ (x ∷ []))
walk_last [] v (walk f q) e = walk f (done e)
walk_last (z ∷ u) {x} v (walk f q) e = walk f (run_onto u (x ∷ v) q (step (step_of (run_from u (x ∷ v) q)) (done e)))

last_of : {m : Model} {x : ℕ} → Run m x [] → Last m x
last_of (done e) = e

pub walk_end : {m : Model} (u : List ℕ) {x : ℕ} → Walk m (u ++ (x ∷ [])) → Last m x
walk_end u k = last_of (walk_rest u k)

unclash : (m : Model) → Clash m → Ambiguous m
unclash m (at_start x y d s p q) =
    let a = a_word (marked m) in
    record { begun = []; x = x; y = y; two = d; alike = s; comes_x = after_next (mark_linear m 0) [] a.0 x a.1 p; comes_y = after_next (mark_linear m 0) [] a.0 y a.1 q }
unclash m (after_place z x y d s p q) = go (has_passes (follow_from p))
  where
    go : Passes (marked m) z → Ambiguous m
    go (passes u v a) =
        let b : Word (marked m) ((u ++ (z ∷ [])) ++ v) = rw append_assoc a in
        record { begun = u ++ (z ∷ []); x = x; y = y; two = d; alike = s; comes_x = after_next (mark_linear m 0) (u ++ (z ∷ [])) v x b (after_snoc u z p); comes_y = after_next (mark_linear m 0) (u ++ (z ∷ [])) v y b (after_snoc u z q) }

pub ambiguous_iff : (m : Model) → Ambiguous m ↔ Clash m
ambiguous_iff m = (λ a. clash m a.begun a.x a.y a.two a.alike (next_after a.begun a.x a.comes_x) (next_after a.begun a.y a.comes_y), unclash m)
