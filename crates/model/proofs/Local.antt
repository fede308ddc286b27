-- A word of a linear model is a walk: it begins in First, goes on by Follow and ends in Last.
use Prim.Native.Nat.{ℕ}
use mathlib.Core.List.{List, [], ◌∷◌, ◌++◌}
use Rattle.model.specs.Model.{Model, symbol, empty, sequence, choice, star, maybe, plus, Word, one, nothing, both, left, right, stop, more, skip, take, some}
use Rattle.model.proofs.Families.{Has, First, f_here, f_seq_l, f_seq_r, f_alt_l, f_alt_r, f_star, f_opt, f_plus, Last, l_here, l_seq_l, l_seq_r, l_alt_l, l_alt_r, l_star, l_opt, l_plus, Follow, n_seq_l, n_seq_r, n_across, n_alt_l, n_alt_r, n_star, n_star_again, n_opt, n_plus, n_plus_again, Apart, Linear, li_symbol, li_empty, li_seq, li_alt, li_star, li_opt, li_plus, first_has, last_has, follow_from, follow_to}

-- Once x is read, the rest v completes a word.
pub data Run (m : Model) : ℕ → List ℕ → Type 0 where
  done : {x : ℕ} → Last m x → Run m x []
  step : {x y : ℕ} {v : List ℕ} → Follow m x y → Run m y v → Run m x (y ∷ v)

pub data Walk (m : Model) : List ℕ → Type 0 where
  none : Word m [] → Walk m []
  walk : {x : ℕ} {v : List ℕ} → First m x → Run m x v → Walk m (x ∷ v)

-- A walk of one model is a walk of another.
mono : {m n : Model} {x : ℕ} {v : List ℕ} → ((x : ℕ) → Last m x → Last n x) → ((x y : ℕ) → Follow m x y → Follow n x y) → Run m x v → Run n x v
mono f g (done e) = done (f _ e)
mono f g (step p q) = step (g _ _ p) (mono f g q)

-- 1. Every word is a walk.
seq_run : {l r : Model} {x : ℕ} {u v : List ℕ} → Run l x u → Walk r v → Run (sequence l r) x (u ++ v)
seq_run (done e) (none b) = done (l_seq_l e b)
seq_run (done e) (walk f q) = step (n_across e f) (mono (λ x. l_seq_r) (λ x y. n_seq_r) q)
seq_run (step p q) k = step (n_seq_l p) (seq_run q k)

seq_walk : {l r : Model} {u v : List ℕ} → Walk l u → Walk r v → Walk (sequence l r) (u ++ v)
seq_walk (none a) (none b) = none (both a b)
seq_walk (none a) (walk f q) = walk (f_seq_r a f) (mono (λ x. l_seq_r) (λ x y. n_seq_r) q)
seq_walk (walk f q) k = walk (f_seq_l f) (seq_run q k)

star_run : {m : Model} {x : ℕ} {u v : List ℕ} → Run m x u → Walk (star m) v → Run (star m) x (u ++ v)
star_run (done e) (none b) = done (l_star e)
star_run (done e) (walk (f_star f) q) = step (n_star_again e f) q
star_run (step p q) k = step (n_star p) (star_run q k)

star_walk : {m : Model} {u v : List ℕ} → Walk m u → Walk (star m) v → Walk (star m) (u ++ v)
star_walk (none a) k = k
star_walk (walk f q) k = walk (f_star f) (star_run q k)

star_to_plus : {m : Model} {x : ℕ} {v : List ℕ} → Run (star m) x v → Run (plus m) x v
star_to_plus (done (l_star e)) = done (l_plus e)
star_to_plus (step (n_star p) q) = step (n_plus p) (star_to_plus q)
star_to_plus (step (n_star_again e f) q) = step (n_plus_again e f) (star_to_plus q)

plus_walk : {m : Model} {u v : List ℕ} → Walk m u → Walk (star m) v → Walk (plus m) (u ++ v)
plus_walk (none a) (none b) = none (some a stop)
plus_walk (none a) (walk (f_star f) q) = walk (f_plus f) (star_to_plus q)
plus_walk (walk f q) k = walk (f_plus f) (star_to_plus (star_run q k))

alt_l_walk : {l r : Model} {w : List ℕ} → Walk l w → Walk (choice l r) w
alt_l_walk (none a) = none (left a)
alt_l_walk (walk f q) = walk (f_alt_l f) (mono (λ x. l_alt_l) (λ x y. n_alt_l) q)

alt_r_walk : {l r : Model} {w : List ℕ} → Walk r w → Walk (choice l r) w
alt_r_walk (none a) = none (right a)
alt_r_walk (walk f q) = walk (f_alt_r f) (mono (λ x. l_alt_r) (λ x y. n_alt_r) q)

opt_walk : {m : Model} {w : List ℕ} → Walk m w → Walk (maybe m) w
opt_walk (none a) = none (take a)
opt_walk (walk f q) = walk (f_opt f) (mono (λ x. l_opt) (λ x y. n_opt) q)

pub word_walk : {m : Model} {w : List ℕ} → Word m w → Walk m w
word_walk one = walk f_here (done l_here)
word_walk nothing = none nothing
word_walk (both a b) = seq_walk (word_walk a) (word_walk b)
word_walk (left a) = alt_l_walk (word_walk a)
word_walk (right a) = alt_r_walk (word_walk a)
word_walk stop = none stop
word_walk (more a b) = star_walk (word_walk a) (word_walk b)
word_walk skip = none skip
word_walk (take a) = opt_walk (word_walk a)
word_walk (some a b) = plus_walk (word_walk a) (word_walk b)

-- 2. Every walk of a linear model is a word.
data Cut (A B : List ℕ → Type 0) : List ℕ → Type 0 where
  cut : {u v : List ℕ} → A u → B v → Cut A B (u ++ v)

grow : {m : Model} {B : List ℕ → Type 0} {x y : ℕ} {v : List ℕ} → Follow m x y → Cut (Run m y) B v → Cut (Run m x) B (y ∷ v)
grow p (cut q b) = cut (step p q) b

seq_right : {l r : Model} {x : ℕ} {v : List ℕ} → Apart l r → Has r x → Run (sequence l r) x v → Run r x v
seq_right d h (done (l_seq_l e n)) = absurd (d _ (last_has e) h)
seq_right d h (done (l_seq_r e)) = done e
seq_right d h (step (n_seq_l p) q) = absurd (d _ (follow_from p) h)
seq_right d h (step (n_seq_r p) q) = step p (seq_right d (follow_to p) q)
seq_right d h (step (n_across e f) q) = absurd (d _ (last_has e) h)

seq_left : {l r : Model} {x : ℕ} {v : List ℕ} → Apart l r → Has l x → Run (sequence l r) x v → Cut (Run l x) (Walk r) v
seq_left d h (done (l_seq_l e n)) = cut (done e) (none n)
seq_left d h (done (l_seq_r e)) = absurd (d _ h (last_has e))
seq_left d h (step (n_seq_l p) q) = grow p (seq_left d (follow_to p) q)
seq_left d h (step (n_seq_r p) q) = absurd (d _ h (follow_from p))
seq_left d h (step (n_across e f) q) = cut (done e) (walk f (seq_right d (first_has f) q))

alt_left : {l r : Model} {x : ℕ} {v : List ℕ} → Apart l r → Has l x → Run (choice l r) x v → Run l x v
alt_left d h (done (l_alt_l e)) = done e
alt_left d h (done (l_alt_r e)) = absurd (d _ h (last_has e))
alt_left d h (step (n_alt_l p) q) = step p (alt_left d (follow_to p) q)
alt_left d h (step (n_alt_r p) q) = absurd (d _ h (follow_from p))

alt_right : {l r : Model} {x : ℕ} {v : List ℕ} → Apart l r → Has r x → Run (choice l r) x v → Run r x v
alt_right d h (done (l_alt_l e)) = absurd (d _ (last_has e) h)
alt_right d h (done (l_alt_r e)) = done e
alt_right d h (step (n_alt_l p) q) = absurd (d _ (follow_from p) h)
alt_right d h (step (n_alt_r p) q) = step p (alt_right d (follow_to p) q)

opt_run : {m : Model} {x : ℕ} {v : List ℕ} → Run (maybe m) x v → Run m x v
opt_run (done (l_opt e)) = done e
opt_run (step (n_opt p) q) = step p (opt_run q)

-- (the claim for a smaller model)
abbrev Back : Model → Type 0
Back m = (w : List ℕ) → Walk m w → Word m w

again : {m : Model} {x : ℕ} {v : List ℕ} → Back m → First m x → Cut (Run m x) (Word (star m)) v → Word (star m) (x ∷ v)
again back f (cut q b) = more (back _ (walk f q)) b

star_cut : {m : Model} {x : ℕ} {v : List ℕ} → Back m → Run (star m) x v → Cut (Run m x) (Word (star m)) v
star_cut back (done (l_star e)) = cut (done e) stop
star_cut back (step (n_star p) q) = grow p (star_cut back q)
star_cut back (step (n_star_again e f) q) = cut (done e) (again back f (star_cut back q))

plus_cut : {m : Model} {x : ℕ} {v : List ℕ} → Back m → Run (plus m) x v → Cut (Run m x) (Word (star m)) v
plus_cut back (done (l_plus e)) = cut (done e) stop
plus_cut back (step (n_plus p) q) = grow p (plus_cut back q)
plus_cut back (step (n_plus_again e f) q) = cut (done e) (again back f (plus_cut back q))

seq_word : {l r : Model} {x : ℕ} {v : List ℕ} → Back l → Back r → First l x → Cut (Run l x) (Walk r) v → Word (sequence l r) (x ∷ v)
seq_word bl br f (cut q k) = both (bl _ (walk f q)) (br _ k)

plus_word : {m : Model} {x : ℕ} {v : List ℕ} → Back m → First m x → Cut (Run m x) (Word (star m)) v → Word (plus m) (x ∷ v)
plus_word back f (cut q b) = some (back _ (walk f q)) b

symbol_back : {a : ℕ} → Back (symbol a)
symbol_back w (none a) = a
symbol_back w (walk f_here (done e)) = one
symbol_back w (walk f_here (step f q)) = elim f [ ]

empty_back : Back empty
empty_back w (none a) = a
empty_back w (walk f q) = elim f [ ]

seq_back : {l r : Model} → Apart l r → Back l → Back r → Back (sequence l r)
seq_back d bl br w (none a) = a
seq_back d bl br w (walk (f_seq_l f) q) = seq_word bl br f (seq_left d (first_has f) q)
seq_back d bl br w (walk (f_seq_r a f) q) = both a (br _ (walk f (seq_right d (first_has f) q)))

alt_back : {l r : Model} → Apart l r → Back l → Back r → Back (choice l r)
alt_back d bl br w (none a) = a
alt_back d bl br w (walk (f_alt_l f) q) = left (bl _ (walk f (alt_left d (first_has f) q)))
alt_back d bl br w (walk (f_alt_r f) q) = right (br _ (walk f (alt_right d (first_has f) q)))

star_back : {m : Model} → Back m → Back (star m)
star_back b w (none a) = a
star_back b w (walk (f_star f) q) = again b f (star_cut b q)

opt_back : {m : Model} → Back m → Back (maybe m)
opt_back b w (none a) = a
opt_back b w (walk (f_opt f) q) = take (b _ (walk f (opt_run q)))

plus_back : {m : Model} → Back m → Back (plus m)
plus_back b w (none a) = a
plus_back b w (walk (f_plus f) q) = plus_word b f (plus_cut b q)

pub walk_word : {m : Model} → Linear m → (w : List ℕ) → Walk m w → Word m w
walk_word li_symbol = symbol_back
walk_word li_empty = empty_back
walk_word (li_seq kl kr d) = seq_back d (walk_word kl) (walk_word kr)
walk_word (li_alt kl kr d) = alt_back d (walk_word kl) (walk_word kr)
walk_word (li_star k) = star_back (walk_word k)
walk_word (li_opt k) = opt_back (walk_word k)
walk_word (li_plus k) = plus_back (walk_word k)
