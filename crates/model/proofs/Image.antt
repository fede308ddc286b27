-- Words of a model are the words of its places, read by the symbols that they bear.
use Prim.Native.Nat.{ℕ, ◌+◌, ◌<◌}
use native.Mathlib.Omega.{arith}
use native.Mathlib.Nat.{zero-add, add_assoc}
use mathlib.Core.Path.{◌≡◌, refl, ap₂, ap, subst, sym, ◌∙◌}
use mathlib.Core.Logic.{◌↔◌}
use mathlib.Core.List.{List, ◌++◌, map, map-append}
use lib.ListN.{length, get_or, length-append, get_or-append}
use lib.Seq.{get_or-append-add}
use Rattle.model.specs.Model.{Model, symbol, empty, sequence, choice, star, maybe, plus, Word, one, nothing, both, left, right, stop, more, skip, take, some, symbols, bears, mark, marked}

-- A model with its symbols renamed.
abbrev pub rename : (ℕ → ℕ) → Model → Model
rename g (symbol a) = symbol (g a)
rename g empty = empty
rename g (sequence l r) = sequence (rename g l) (rename g r)
rename g (choice l r) = choice (rename g l) (rename g r)
rename g (star m) = star (rename g m)
rename g (maybe m) = maybe (rename g m)
rename g (plus m) = plus (rename g m)

-- A renamed word.
pub data Image (g : ℕ → ℕ) (m : Model) : List ℕ → Type 0 where
  image : {u : List ℕ} → Word m u → Image g m (map g u)

pub rename_word : (g : ℕ → ℕ) {m : Model} {u : List ℕ} → Word m u → Word (rename g m) (map g u)
rename_word g one = one
rename_word g nothing = nothing
rename_word g (both {u = u} {v = v} a b) = rw (map-append g u v) (both (rename_word g a) (rename_word g b))
rename_word g (left a) = left (rename_word g a)
rename_word g (right a) = right (rename_word g a)
rename_word g stop = stop
rename_word g (more {u = u} {v = v} a b) = rw (map-append g u v) (more (rename_word g a) (rename_word g b))
rename_word g skip = skip
rename_word g (take a) = take (rename_word g a)
rename_word g (some {u = u} {v = v} a b) = rw (map-append g u v) (some (rename_word g a) (rename_word g b))

-- Every word of the renamed model is a renamed word.
abbrev From : (ℕ → ℕ) → Model → Type 0
From g m = (w : List ℕ) → Word (rename g m) w → Image g m w

both_image : {g : ℕ → ℕ} {l r : Model} {u v : List ℕ} → Image g l u → Image g r v → Image g (sequence l r) (u ++ v)
both_image {g = g} (image {u = u} a) (image {u = v} b) = rw (← map-append g u v) (image (both a b))

more_image : {g : ℕ → ℕ} {m : Model} {u v : List ℕ} → Image g m u → Image g (star m) v → Image g (star m) (u ++ v)
more_image {g = g} (image {u = u} a) (image {u = v} b) = rw (← map-append g u v) (image (more a b))

some_image : {g : ℕ → ℕ} {m : Model} {u v : List ℕ} → Image g m u → Image g (star m) v → Image g (plus m) (u ++ v)
some_image {g = g} (image {u = u} a) (image {u = v} b) = rw (← map-append g u v) (image (some a b))

left_image : {g : ℕ → ℕ} {l r : Model} {w : List ℕ} → Image g l w → Image g (choice l r) w
left_image (image a) = image (left a)

right_image : {g : ℕ → ℕ} {l r : Model} {w : List ℕ} → Image g r w → Image g (choice l r) w
right_image (image a) = image (right a)

take_image : {g : ℕ → ℕ} {m : Model} {w : List ℕ} → Image g m w → Image g (maybe m) w
take_image (image a) = image (take a)

from_symbol : {g : ℕ → ℕ} {a : ℕ} → From g (symbol a)
from_symbol w one = image one

from_empty : {g : ℕ → ℕ} → From g empty
from_empty w nothing = image nothing

from_seq : {g : ℕ → ℕ} {l r : Model} → From g l → From g r → From g (sequence l r)
from_seq bl br w (both a b) = both_image (bl _ a) (br _ b)

from_alt : {g : ℕ → ℕ} {l r : Model} → From g l → From g r → From g (choice l r)
from_alt bl br w (left a) = left_image (bl _ a)
from_alt bl br w (right a) = right_image (br _ a)

-- (for any model n whose words are all renamed words of m)
star_image : {g : ℕ → ℕ} {m n : Model} → ((w : List ℕ) → Word n w → Image g m w) → (w : List ℕ) → Word (star n) w → Image g (star m) w
star_image b w stop = image stop
star_image b w (more a c) = more_image (b _ a) (star_image b _ c)

from_star : {g : ℕ → ℕ} {m : Model} → From g m → From g (star m)
from_star b = star_image b

from_opt : {g : ℕ → ℕ} {m : Model} → From g m → From g (maybe m)
from_opt b w skip = image skip
from_opt b w (take a) = take_image (b _ a)

from_plus : {g : ℕ → ℕ} {m : Model} → From g m → From g (plus m)
from_plus b w (some a c) = some_image (b _ a) (from_star b _ c)

pub from_renamed : (g : ℕ → ℕ) (m : Model) (w : List ℕ) → Word (rename g m) w → Image g m w
from_renamed g (symbol a) = from_symbol
from_renamed g empty = from_empty
from_renamed g (sequence l r) = from_seq (from_renamed g l) (from_renamed g r)
from_renamed g (choice l r) = from_alt (from_renamed g l) (from_renamed g r)
from_renamed g (star m) = from_star (from_renamed g m)
from_renamed g (maybe m) = from_opt (from_renamed g m)
from_renamed g (plus m) = from_plus (from_renamed g m)

-- The places, read by what they bear, are the model again.
abbrev Reads : (ℕ → ℕ) → ℕ → List ℕ → Type 0
Reads g f s = (i : ℕ) → i < length s → g (f + i) ≡ get_or s i 0

reads_left : (g : ℕ → ℕ) (s t : List ℕ) (f : ℕ) → Reads g f (s ++ t) → Reads g f s
reads_left g s t f h i k = h i (simp length-append (omega arith)) ∙ get_or-append s t 0 i k

reads_right : (g : ℕ → ℕ) (s t : List ℕ) (f : ℕ) → Reads g f (s ++ t) → Reads g (f + length s) t
reads_right g s t f h i k = rw add_assoc (h (length s + i) (simp length-append (omega arith)) ∙ get_or-append-add s t i 0)

agree : (g : ℕ → ℕ) (m : Model) (f : ℕ) → Reads g f (symbols m) → rename g (mark f m) ≡ m
agree g (symbol a) f h = ap symbol (ap g (omega arith) ∙ h 0 (omega arith))
agree g empty f h = refl
agree g (sequence l r) f h = ap₂ sequence (agree g l f (reads_left g (symbols l) (symbols r) f h)) (agree g r _ (reads_right g (symbols l) (symbols r) f h))
agree g (choice l r) f h = ap₂ choice (agree g l f (reads_left g (symbols l) (symbols r) f h)) (agree g r _ (reads_right g (symbols l) (symbols r) f h))
agree g (star m) f h = ap star (agree g m f h)
agree g (maybe m) f h = ap maybe (agree g m f h)
agree g (plus m) f h = ap plus (agree g m f h)

pub bears_marked : (m : Model) → rename (bears m) (marked m) ≡ m
bears_marked m = agree (bears m) m 0 (λ i h. rw zero-add refl)

-- 6.
pub word_iff_places : (m : Model) (w : List ℕ) → Word m w ↔ Image (bears m) (marked m) w
word_iff_places m w = (λ a. from_renamed (bears m) (marked m) w (subst (λ n. Word n w) (sym (bears_marked m)) a), back)
  where
    back : {w : List ℕ} → Image (bears m) (marked m) w → Word m w
    back (image {u = u} a) = subst (λ n. Word n (map (bears m) u)) (bears_marked m) (rename_word (bears m) a)
