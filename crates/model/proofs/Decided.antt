-- Whether a word is a model's, and whether models derive a document, computed. Assumes nothing.
use Prim.Native.Nat.{ℕ, suc}
use mathlib.Core.Path.{◌≡◌, refl, sym, subst}
use mathlib.Core.Logic.{◌↔◌}
use mathlib.Core.Bool.{Bool, true, false, ◌&&◌}
use mathlib.Core.Option.{Option, none, some}
use mathlib.Core.List.{List, [], ◌∷◌}
use lib.Dec.{T, eqb, eqb→eq, eqb_refl}
use Rattle.model.specs.Model.{Model, Word, bears, places}
use Rattle.model.specs.Documents.{Doc, node, Docs, nil, cons, top, tops, Models, Derives, derive, Each, each_nil, each_cons}
use Rattle.model.specs.Sets.{comes, ends, some_below}
use Rattle.model.proofs.Tests.{test_below, below_test, and_elim, and_both}
use Rattle.model.proofs.Positions.{test_comes, comes_test, test_ends, ends_test, comes_to}
use Rattle.model.proofs.Read.{Reads, at_end, next, reads_exactly}

-- the rest of a word can be read from position i on
abbrev pub reads : Model → ℕ → List ℕ → Bool
reads m i [] = ends m i
reads m i (a ∷ w) = some_below (places m) (λ y. (comes m i y && eqb (bears m y) a) && reads m (suc y) w)

test_reads : (m : Model) (i : ℕ) (w : List ℕ) → T (reads m i w) → Reads m i w
test_reads m i [] t = at_end (test_ends m i t)
test_reads m i (a ∷ w) t =
    let h = test_below (places m) (λ y. (comes m i y && eqb (bears m y) a) && reads m (suc y) w) t in
    and_elim (comes m i h.0 && eqb (bears m h.0) a) (reads m (suc h.0) w) (λ p q.
    and_elim (comes m i h.0) (eqb (bears m h.0) a)
    (λ c b. next (test_comes m i h.0 c) (eqb→eq _ _ b) (test_reads m (suc h.0) w q)) p) h.2

reads_test : {m : Model} {i : ℕ} {w : List ℕ} → Reads m i w → T (reads m i w)
reads_test {m} {i} (at_end e) = ends_test m i e
reads_test {m} {i} (next {y = y} {a = a} {w = w} c b k) =
    below_test (places m) (λ y. (comes m i y && eqb (bears m y) a) && reads m (suc y) w) y (comes_to m i y c)
    (and_both (comes m i y && eqb (bears m y) a) (reads m (suc y) w)
    (and_both (comes m i y) (eqb (bears m y) a) (comes_test m i y c) (subst (λ z. T (eqb (bears m y) z)) b (eqb_refl (bears m y))))
    (reads_test k))

pub word_exactly : (m : Model) (w : List ℕ) → T (reads m 0 w) ↔ Word m w
word_exactly m w = (λ t. (reads_exactly m w).0 (test_reads m 0 w t), λ a. reads_test ((reads_exactly m w).1 a))

-- derivation
abbrev pub fits : Option Model → List ℕ → Bool
fits none w = false
fits (some m) w = reads m 0 w

abbrev mutual
  pub derives : Models → Doc → Bool
  derives M (node a ds) = fits (M a) (tops ds) && derives_each M ds

  pub derives_each : Models → Docs → Bool
  derives_each M nil = true
  derives_each M (cons d ds) = derives M d && derives_each M ds

found : (o : Option Model) (w : List ℕ) → T (fits o w) → (m : Model) × (o ≡ some m) × Word m w
found none w t = absurd t
found (some m) w t = (m, refl, (word_exactly m w).0 t)

fit : {m : Model} (o : Option Model) (w : List ℕ) → o ≡ some m → Word m w → T (fits o w)
fit {m} o w e a = subst (λ o. T (fits o w)) (sym e) ((word_exactly m w).1 a)

mutual
  test_derives : (M : Models) (d : Doc) → T (derives M d) → Derives M (top d) d
  test_derives M (node a ds) t = and_elim (fits (M a) (tops ds)) (derives_each M ds)
      (λ p q. let f = found (M a) (tops ds) p in derive f.1 f.2 (test_each M ds q)) t

  test_each : (M : Models) (ds : Docs) → T (derives_each M ds) → Each M ds
  test_each M nil t = each_nil
  test_each M (cons d ds) t =
      and_elim (derives M d) (derives_each M ds) (λ p q. each_cons (test_derives M d p) (test_each M ds q)) t

mutual
  derives_test : {M : Models} {a : ℕ} {d : Doc} → Derives M a d → T (derives M d)
  derives_test {M} (derive {a = a} {ds = ds} e w es) =
      and_both (fits (M a) (tops ds)) (derives_each M ds) (fit (M a) (tops ds) e w) (each_test es)

  each_test : {M : Models} {ds : Docs} → Each M ds → T (derives_each M ds)
  each_test each_nil = tt
  each_test {M} (each_cons {d = d} {ds = ds} k es) = and_both (derives M d) (derives_each M ds) (derives_test k) (each_test es)

pub derives_exactly : (M : Models) (d : Doc) → T (derives M d) ↔ Derives M (top d) d
derives_exactly M d = (test_derives M d, derives_test)
