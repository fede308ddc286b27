-- What can come next at a position and where a word may end, as rules, as tests and by words; and ambiguity as a test. Assumes nothing.
use Prim.Native.Nat.{ℕ, zero, suc, ◌<◌}
use native.Mathlib.Omega.{arith}
use mathlib.Core.Path.{◌≡◌, subst}
use mathlib.Core.Logic.{◌↔◌, ◌≢◌}
use mathlib.Core.Bool.{not, ◌&&◌}
use mathlib.Core.List.{[], ◌∷◌, ◌++◌, append_assoc}
use lib.Dec.{T, eqb, eqb→eq, eqb_refl, T_not, not_T}
use Rattle.model.specs.Model.{Model, Word, bears, places, marked, Ambiguous, ComesNext, MayEnd}
use Rattle.model.specs.Sets.{comes, ends, some_below, alike, ambiguous}
use Rattle.model.proofs.Families.{Has, First, Last, Follow, first_has, last_has, follow_from, follow_to}
use Rattle.model.proofs.Local.{word_walk, walk_word}
use Rattle.model.proofs.Places.{has_inside, mark_linear}
use Rattle.model.proofs.Next.{Passes, passes, a_word, has_passes, next_after, after_next, after_snoc, snoc_after, walk_last, walk_end, Clash, at_start, after_place, ambiguous_iff}
use Rattle.model.proofs.Tests.{and_elim, and_both, nullable_word, word_nullable, test_first, first_test, test_last, last_test, test_follow, follow_test, test_below, below_test}

-- the rules by position
abbrev pub Comes : Model → ℕ → ℕ → Type 0
Comes m zero y = First (marked m) y
Comes m (suc x) y = Follow (marked m) x y

abbrev pub Ends : Model → ℕ → Type 0
Ends m zero = Word (marked m) []
Ends m (suc x) = Last (marked m) x

pub test_comes : (m : Model) (i y : ℕ) → T (comes m i y) → Comes m i y
test_comes m zero y t = test_first (marked m) y t
test_comes m (suc x) y t = test_follow (marked m) x y t

pub comes_test : (m : Model) (i y : ℕ) → Comes m i y → T (comes m i y)
comes_test m zero y p = first_test p
comes_test m (suc x) y p = follow_test p

pub test_ends : (m : Model) (i : ℕ) → T (ends m i) → Ends m i
test_ends m zero t = nullable_word (marked m) t
test_ends m (suc x) t = test_last (marked m) x t

pub ends_test : (m : Model) (i : ℕ) → Ends m i → T (ends m i)
ends_test m zero e = word_nullable e
ends_test m (suc x) e = last_test e

-- positions and places lie inside the model
place_of : (m : Model) {x : ℕ} → Has (marked m) x → x < places m
place_of m h = let k = has_inside m 0 h in omega arith

pub comes_to : (m : Model) (i y : ℕ) → Comes m i y → y < places m
comes_to m zero y p = place_of m (first_has p)
comes_to m (suc x) y p = place_of m (follow_to p)

pub comes_from : (m : Model) (i y : ℕ) → Comes m i y → i < suc (places m)
comes_from m zero y p = omega arith
comes_from m (suc x) y p = let h = place_of m (follow_from p) in omega arith

-- by words
pub comes_next_lem : (m : Model) (i y : ℕ) → Comes m i y → ComesNext m i y
comes_next_lem m zero y p = let a = a_word (marked m) in after_next (mark_linear m 0) [] a.0 y a.1 p
comes_next_lem m (suc x) y p = go (has_passes (follow_from p))
  where
    go : Passes (marked m) x → ComesNext m (suc x) y
    go (passes u v a) =
        let b : Word (marked m) ((u ++ (x ∷ [])) ++ v) = rw append_assoc a in
        (u, after_next (mark_linear m 0) (u ++ (x ∷ [])) v y b (after_snoc u x p))

pub next_comes : (m : Model) (i y : ℕ) → ComesNext m i y → Comes m i y
next_comes m zero y k = next_after [] y k
next_comes m (suc x) y k = snoc_after k.0 x (next_after (k.0 ++ (x ∷ [])) y k.1)

pub ends_may : (m : Model) (i : ℕ) → Ends m i → MayEnd m i
ends_may m zero e = e
ends_may m (suc x) e = go (has_passes (last_has e))
  where
    go : Passes (marked m) x → MayEnd m (suc x)
    go (passes u v a) = (u, walk_word (mark_linear m 0) _ (walk_last u v (word_walk a) e))

pub may_ends : (m : Model) (i : ℕ) → MayEnd m i → Ends m i
may_ends m zero e = e
may_ends m (suc x) k = walk_end k.0 (word_walk k.1)

pub comes_exactly : (m : Model) (i y : ℕ) → T (comes m i y) ↔ ComesNext m i y
comes_exactly m i y = (λ t. comes_next_lem m i y (test_comes m i y t), λ k. comes_test m i y (next_comes m i y k))

pub ends_exactly : (m : Model) (i : ℕ) → T (ends m i) ↔ MayEnd m i
ends_exactly m i = (λ t. ends_may m i (test_ends m i t), λ k. ends_test m i (may_ends m i k))

-- two like places at one position
pub clash_at : (m : Model) (i x y : ℕ) → x ≢ y → bears m x ≡ bears m y → Comes m i x → Comes m i y → Ambiguous m
clash_at m zero x y d s p q = (ambiguous_iff m).1 (at_start x y d s p q)
clash_at m (suc z) x y d s p q = (ambiguous_iff m).1 (after_place z x y d s p q)

pub record Clashes (m : Model) : Type 0 where
  pub position : ℕ
  pub x : ℕ
  pub y : ℕ
  pub two : x ≢ y
  pub same : bears m x ≡ bears m y
  pub comes_x : Comes m position x
  pub comes_y : Comes m position y

clashes : (m : Model) → Clash m → Clashes m
clashes m (at_start x y d s p q) = record { position = 0; x = x; y = y; two = d; same = s; comes_x = p; comes_y = q }
clashes m (after_place z x y d s p q) = record { position = suc z; x = x; y = y; two = d; same = s; comes_x = p; comes_y = q }

pub ambiguous_clashes : (m : Model) → Ambiguous m ↔ Clashes m
ambiguous_clashes m = (λ a. clashes m ((ambiguous_iff m).0 a), λ c. clash_at m c.position c.x c.y c.two c.same c.comes_x c.comes_y)

-- ambiguity as a test
alike_test : (m : Model) (x y : ℕ) → x ≢ y → bears m x ≡ bears m y → T (alike m x y)
alike_test m x y d s =
    and_both (not (eqb x y)) (eqb (bears m x) (bears m y)) (not_T (eqb x y) (λ t. d (eqb→eq x y t)))
    (subst (λ b. T (eqb (bears m x) b)) s (eqb_refl (bears m x)))

unlike : (x y : ℕ) → T (not (eqb x y)) → x ≢ y
unlike x y t e = T_not (eqb x y) t (subst (λ z. T (eqb x z)) e (eqb_refl x))

clashes_test : (m : Model) → Clashes m → T (ambiguous m)
clashes_test m c =
    below_test _ (λ i. some_below (places m) (λ x. some_below (places m) (λ y. alike m x y && (comes m i x && comes m i y))))
    c.position (comes_from m c.position c.x c.comes_x)
    (below_test _ (λ x. some_below (places m) (λ y. alike m x y && (comes m c.position x && comes m c.position y)))
    c.x (comes_to m c.position c.x c.comes_x)
    (below_test _ (λ y. alike m c.x y && (comes m c.position c.x && comes m c.position y))
    c.y (comes_to m c.position c.y c.comes_y)
    (and_both (alike m c.x c.y) (comes m c.position c.x && comes m c.position c.y) (alike_test m c.x c.y c.two c.same)
    (and_both (comes m c.position c.x) (comes m c.position c.y) (comes_test m c.position c.x c.comes_x)
    (comes_test m c.position c.y c.comes_y)))))

test_clashes : (m : Model) → T (ambiguous m) → Clashes m
test_clashes m t =
    let i = test_below (suc (places m)) (λ i. some_below (places m) (λ x. some_below (places m) (λ y. alike m x y && (comes m i x && comes m i y)))) t in
    let x = test_below (places m) (λ x. some_below (places m) (λ y. alike m x y && (comes m i.0 x && comes m i.0 y))) i.2 in
    let y = test_below (places m) (λ y. alike m x.0 y && (comes m i.0 x.0 && comes m i.0 y)) x.2 in
    and_elim (alike m x.0 y.0) (comes m i.0 x.0 && comes m i.0 y.0) (λ a b.
    and_elim (not (eqb x.0 y.0)) (eqb (bears m x.0) (bears m y.0)) (λ d s.
    and_elim (comes m i.0 x.0) (comes m i.0 y.0) (λ p q.
    record { position = i.0; x = x.0; y = y.0; two = unlike x.0 y.0 d; same = eqb→eq _ _ s; comes_x = test_comes m i.0 x.0 p; comes_y = test_comes m i.0 y.0 q })
    b) a) y.2

pub ambiguous_exactly : (m : Model) → T (ambiguous m) ↔ Ambiguous m
ambiguous_exactly m = (λ t. (ambiguous_clashes m).1 (test_clashes m t), λ a. clashes_test m ((ambiguous_clashes m).0 a))
