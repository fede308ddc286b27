-- A word of a model is read from position 0 on, a place at a time, to a position at which words end. Assumes nothing.
use Prim.Native.Nat.{ℕ, zero, suc}
use mathlib.Core.Path.{◌≡◌, refl, subst}
use mathlib.Core.Logic.{◌↔◌}
use mathlib.Core.List.{List, [], ◌∷◌, map}
use Rattle.model.specs.Model.{Model, Word, bears, marked}
use Rattle.model.proofs.Local.{Run, done, step, Walk, walk, word_walk, walk_word}
use Rattle.model.proofs.Local
use Rattle.model.proofs.Places.{mark_linear}
use Rattle.model.proofs.Image.{Image, image, word_iff_places}
use Rattle.model.proofs.Positions.{Comes, Ends}

-- the rest of a word, from a position on
pub data Reads (m : Model) : ℕ → List ℕ → Type 0 where
  at_end : {i : ℕ} → Ends m i → Reads m i []
  next : {i y a : ℕ} {w : List ℕ} → Comes m i y → bears m y ≡ a → Reads m (suc y) w → Reads m i (a ∷ w)

run_reads : {m : Model} {x : ℕ} {v : List ℕ} → Run (marked m) x v → Reads m (suc x) (map (bears m) v)
run_reads (done e) = at_end e
run_reads (step p q) = next p refl (run_reads q)

walk_reads : {m : Model} {u : List ℕ} → Walk (marked m) u → Reads m 0 (map (bears m) u)
walk_reads (Local.none a) = at_end a
walk_reads (walk f q) = next f refl (run_reads q)

image_reads : {m : Model} {w : List ℕ} → Image (bears m) (marked m) w → Reads m 0 w
image_reads (image a) = walk_reads (word_walk a)

-- the places of the rest of a word
abbrev Rest : Model → ℕ → List ℕ → Type 0
Rest m zero v = Walk (marked m) v
Rest m (suc x) v = Run (marked m) x v

rest_next : (m : Model) (i : ℕ) {y : ℕ} {v : List ℕ} → Comes m i y → Run (marked m) y v → Rest m i (y ∷ v)
rest_next m zero p q = walk p q
rest_next m (suc x) p q = step p q

rest_end : (m : Model) (i : ℕ) → Ends m i → Rest m i []
rest_end m zero e = Local.none e
rest_end m (suc x) e = done e

record Traced (m : Model) (i : ℕ) (w : List ℕ) : Type 0 where
  places : List ℕ
  rest : Rest m i places
  same : map (bears m) places ≡ w

traced : {m : Model} {i : ℕ} {w : List ℕ} → Reads m i w → Traced m i w
traced {m} {i} (at_end e) = record { places = []; rest = rest_end m i e; same = refl }
traced {m} {i} (next {y = y} c b k) =
    let t = traced k in record { places = y ∷ t.places; rest = rest_next m i c t.rest; same = cc (b, t.same) }

pub reads_exactly : (m : Model) (w : List ℕ) → Reads m 0 w ↔ Word m w
reads_exactly m w = (
  λ r. let k = traced r in subst (Word m) k.same
      ((word_iff_places m _).1 (image (walk_word (mark_linear m 0) k.places k.rest))),
  λ a. image_reads ((word_iff_places m w).0 a),
)
