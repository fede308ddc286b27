-- Which symbols can begin a word of a model, end one, and follow one another in one: the rules (Glushkov).
use Prim.Native.Nat.{ℕ}
use mathlib.Core.List.{[]}
use Rattle.model.specs.Model.{Model, symbol, empty, sequence, choice, star, maybe, plus, Word}

-- The symbol stands in the model.
pub data Has : Model → ℕ → Type 0 where
  h_here : {a : ℕ} → Has (symbol a) a
  h_seq_l : {l r : Model} {x : ℕ} → Has l x → Has (sequence l r) x
  h_seq_r : {l r : Model} {x : ℕ} → Has r x → Has (sequence l r) x
  h_alt_l : {l r : Model} {x : ℕ} → Has l x → Has (choice l r) x
  h_alt_r : {l r : Model} {x : ℕ} → Has r x → Has (choice l r) x
  h_star : {m : Model} {x : ℕ} → Has m x → Has (star m) x
  h_opt : {m : Model} {x : ℕ} → Has m x → Has (maybe m) x
  h_plus : {m : Model} {x : ℕ} → Has m x → Has (plus m) x

pub data First : Model → ℕ → Type 0 where
  f_here : {a : ℕ} → First (symbol a) a
  f_seq_l : {l r : Model} {x : ℕ} → First l x → First (sequence l r) x
  f_seq_r : {l r : Model} {x : ℕ} → Word l [] → First r x → First (sequence l r) x
  f_alt_l : {l r : Model} {x : ℕ} → First l x → First (choice l r) x
  f_alt_r : {l r : Model} {x : ℕ} → First r x → First (choice l r) x
  f_star : {m : Model} {x : ℕ} → First m x → First (star m) x
  f_opt : {m : Model} {x : ℕ} → First m x → First (maybe m) x
  f_plus : {m : Model} {x : ℕ} → First m x → First (plus m) x

pub data Last : Model → ℕ → Type 0 where
  l_here : {a : ℕ} → Last (symbol a) a
  l_seq_l : {l r : Model} {x : ℕ} → Last l x → Word r [] → Last (sequence l r) x
  l_seq_r : {l r : Model} {x : ℕ} → Last r x → Last (sequence l r) x
  l_alt_l : {l r : Model} {x : ℕ} → Last l x → Last (choice l r) x
  l_alt_r : {l r : Model} {x : ℕ} → Last r x → Last (choice l r) x
  l_star : {m : Model} {x : ℕ} → Last m x → Last (star m) x
  l_opt : {m : Model} {x : ℕ} → Last m x → Last (maybe m) x
  l_plus : {m : Model} {x : ℕ} → Last m x → Last (plus m) x

pub data Follow : Model → ℕ → ℕ → Type 0 where
  n_seq_l : {l r : Model} {x y : ℕ} → Follow l x y → Follow (sequence l r) x y
  n_seq_r : {l r : Model} {x y : ℕ} → Follow r x y → Follow (sequence l r) x y
  n_across : {l r : Model} {x y : ℕ} → Last l x → First r y → Follow (sequence l r) x y
  n_alt_l : {l r : Model} {x y : ℕ} → Follow l x y → Follow (choice l r) x y
  n_alt_r : {l r : Model} {x y : ℕ} → Follow r x y → Follow (choice l r) x y
  n_star : {m : Model} {x y : ℕ} → Follow m x y → Follow (star m) x y
  n_star_again : {m : Model} {x y : ℕ} → Last m x → First m y → Follow (star m) x y
  n_opt : {m : Model} {x y : ℕ} → Follow m x y → Follow (maybe m) x y
  n_plus : {m : Model} {x y : ℕ} → Follow m x y → Follow (plus m) x y
  n_plus_again : {m : Model} {x y : ℕ} → Last m x → First m y → Follow (plus m) x y

-- No symbol stands in the model twice.
abbrev pub Apart : Model → Model → Type 0
Apart l r = (x : ℕ) → Has l x → Has r x → ⊥

pub data Linear : Model → Type 0 where
  li_symbol : {a : ℕ} → Linear (symbol a)
  li_empty : Linear empty
  li_seq : {l r : Model} → Linear l → Linear r → Apart l r → Linear (sequence l r)
  li_alt : {l r : Model} → Linear l → Linear r → Apart l r → Linear (choice l r)
  li_star : {m : Model} → Linear m → Linear (star m)
  li_opt : {m : Model} → Linear m → Linear (maybe m)
  li_plus : {m : Model} → Linear m → Linear (plus m)

-- What begins, ends or follows stands in the model.
pub first_has : {m : Model} {x : ℕ} → First m x → Has m x
first_has f_here = h_here
first_has (f_seq_l p) = h_seq_l (first_has p)
first_has (f_seq_r e p) = h_seq_r (first_has p)
first_has (f_alt_l p) = h_alt_l (first_has p)
first_has (f_alt_r p) = h_alt_r (first_has p)
first_has (f_star p) = h_star (first_has p)
first_has (f_opt p) = h_opt (first_has p)
first_has (f_plus p) = h_plus (first_has p)

pub last_has : {m : Model} {x : ℕ} → Last m x → Has m x
last_has l_here = h_here
last_has (l_seq_l p e) = h_seq_l (last_has p)
last_has (l_seq_r p) = h_seq_r (last_has p)
last_has (l_alt_l p) = h_alt_l (last_has p)
last_has (l_alt_r p) = h_alt_r (last_has p)
last_has (l_star p) = h_star (last_has p)
last_has (l_opt p) = h_opt (last_has p)
last_has (l_plus p) = h_plus (last_has p)

pub follow_from : {m : Model} {x y : ℕ} → Follow m x y → Has m x
follow_from (n_seq_l p) = h_seq_l (follow_from p)
follow_from (n_seq_r p) = h_seq_r (follow_from p)
follow_from (n_across e f) = h_seq_l (last_has e)
follow_from (n_alt_l p) = h_alt_l (follow_from p)
follow_from (n_alt_r p) = h_alt_r (follow_from p)
follow_from (n_star p) = h_star (follow_from p)
follow_from (n_star_again e f) = h_star (last_has e)
follow_from (n_opt p) = h_opt (follow_from p)
follow_from (n_plus p) = h_plus (follow_from p)
follow_from (n_plus_again e f) = h_plus (last_has e)

pub follow_to : {m : Model} {x y : ℕ} → Follow m x y → Has m y
follow_to (n_seq_l p) = h_seq_l (follow_to p)
follow_to (n_seq_r p) = h_seq_r (follow_to p)
follow_to (n_across e f) = h_seq_r (first_has f)
follow_to (n_alt_l p) = h_alt_l (follow_to p)
follow_to (n_alt_r p) = h_alt_r (follow_to p)
follow_to (n_star p) = h_star (follow_to p)
follow_to (n_star_again e f) = h_star (first_has f)
follow_to (n_opt p) = h_opt (follow_to p)
follow_to (n_plus p) = h_plus (follow_to p)
follow_to (n_plus_again e f) = h_plus (first_has f)
