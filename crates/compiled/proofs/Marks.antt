-- The marks of the models' table: elements have sort 2, and only the start is final; the others have sort 1. Assumes nothing.
use Prim.Native.Nat.{ℕ, zero, suc, ◌≤◌, ◌<◌}
use native.Mathlib.Omega.{arith}
use native.Mathlib.Decide.{dec_lt}
use mathlib.Core.Path.{◌≡◌, refl, sym, ◌∙◌, ap, subst}
use mathlib.Core.Logic.{⊎_elim, by_cases, inl}
use mathlib.Core.Bool.{Bool, true, false, cond}
use mathlib.Core.List.{List, [], ◌∷◌, map}
use lib.ListN.{length, get_or, length-map, get_or-eq_default}
use lib.Dec.{T, eqb, eqb→eq, eqb_refl}
use Rattle.paper.specs.Limits.{at}
use Rattle.table.specs.Rules.{Final, sort_of, final_of, mark_for, left_sort, right_sort, most_sort, most_final}
use Rattle.table.specs.Check.{BadSort, BadMark}
use Rattle.model.specs.Model.{Model}
use Rattle.compiled.specs.States.{State, element, inside, states, the_state_at, mark_of, marks}
use Rattle.model.specs.Documents.{Line}
use Rattle.receiver.specs.Receiver.{MayLeft, MayRight}
use Rattle.compiled.specs.Meaning.{Numbered}
use Rattle.compiled.proofs.Lines.{cond_yes}
use Rattle.compiled.proofs.Numbers.{number_element, element_number}

pub at_map : {A : Type 0} (f : A → ℕ) (l : List A) (i : ℕ) (d : A) → i < length l → at (map f l) i ≡ f (get_or l i d)
at_map f [] i d h = absurd (omega arith)
at_map f (x ∷ l) zero d h = refl
at_map f (x ∷ l) (suc i) d h = at_map f l i d (omega arith)

-- the mark of a state
data Marked (start : ℕ) : State → ℕ → Type 0 where
  start_mark : {a : ℕ} → a ≡ start → Marked start (element a) 5
  element_mark : {a : ℕ} → Marked start (element a) 4
  inside_mark : {a i : ℕ} {m : Model} → Marked start (inside a m i) 2

element_marked : (start a : ℕ) (b : Bool) → (T b → a ≡ start) → Marked start (element a) (mark_for right_sort (cond b 1 0))
element_marked start a true h = start_mark (h tt)
element_marked start a false h = element_mark

marked : (start : ℕ) (s : State) → Marked start s (mark_of start s)
unfolding mark_of
marked start (element a) = element_marked start a (eqb a start) (eqb→eq a start)
marked start (inside a m i) = inside_mark

final_is : {start m : ℕ} {s : State} → Marked start s m → final_of m ≡ 1 → s ≡ element start
final_is (start_mark e) h = ap element e
final_is element_mark h = absurd (omega arith)
final_is inside_mark h = absurd (omega arith)

good_sort : (s f : ℕ) → 0 < s → s ≤ most_sort → f ≤ most_final → ¬ BadSort s f
good_sort s f h k l = ⊎_elim (λ e. omega arith) (⊎_elim (λ e. omega arith) (λ e. omega arith))

good_mark : {start m : ℕ} {s : State} → Marked start s m → ¬ BadMark m
good_mark (start_mark e) = good_sort 2 1 (omega arith) (omega arith) (omega arith)
good_mark element_mark = good_sort 2 0 (omega arith) (omega arith) (omega arith)
good_mark inside_mark = good_sort 1 0 (omega arith) (omega arith) (omega arith)

element_sort : {start a m : ℕ} → Marked start (element a) m → sort_of m ≡ right_sort
element_sort (start_mark e) = refl
element_sort element_mark = refl

inside_sort : {start a i k : ℕ} {m : Model} → Marked start (inside a m i) k → sort_of k ≡ left_sort
inside_sort inside_mark = refl

module _ (start n : ℕ) (ls : List Line) where
  pub length_marks : length (marks start n ls) ≡ length (states n ls)
  unfolding marks
  length_marks = length-map (states n ls) (mark_of start)

  mark_at : (q : ℕ) → q < length (states n ls) → at (marks start n ls) q ≡ mark_of start (the_state_at (states n ls) q)
  unfolding marks the_state_at
  mark_at q h = at_map (mark_of start) (states n ls) q (element 0) h

  mark_of_lem : {q : ℕ} {s : State} → Numbered n ls q s → Marked start s (at (marks start n ls) q)
  mark_of_lem {q} {s} h =
      subst (λ s. Marked start s (at (marks start n ls) q)) h.is
      (subst (Marked start (the_state_at (states n ls) q)) (sym (mark_at q h.below)) (marked start (the_state_at (states n ls) q)))

  this : (q : ℕ) → q < length (states n ls) → Numbered n ls q (the_state_at (states n ls) q)
  this q h = record { below = h; is = refl }

  -- every mark is good
  pub marks_good : (q : ℕ) → q < length (marks start n ls) → ¬ BadMark (at (marks start n ls) q)
  marks_good q h = good_mark (mark_of_lem (this q (let z = length_marks in omega arith)))

  -- the start and no other state is final
  pub final_start : (q : ℕ) → Final (marks start n ls) q → q ≡ start
  final_start q f = by_cases (dec_lt q (length (states n ls)))
      (λ l. element_number (record { below = l; is = final_is (mark_of_lem (this q l)) f }))
      (λ d. absurd (let z = length_marks in
      let y : at (marks start n ls) q ≡ 0 = get_or-eq_default (marks start n ls) 0 {n = q} (omega arith) in
      let x : final_of 0 ≡ 1 = subst (λ m. final_of m ≡ 1) y f in omega arith))

  pub start_final : start < n → Final (marks start n ls) start
  unfolding mark_of
  start_final h =
      let k = number_element {n = n} {ls = ls} start h in
      let e = mark_at start k.below ∙ ap (mark_of start) k.is
      ∙ ap (mark_for right_sort) (cond_yes (eqb start start) 1 0 (eqb_refl start)) in
      ap final_of e

  -- elements may stand right of a join and not left, the others left and not right
  pub element_right : {q a : ℕ} → Numbered n ls q (element a) → MayRight (marks start n ls) q × ¬ MayLeft (marks start n ls) q
  element_right h = let e = element_sort (mark_of_lem h) in (inl e, ⊎_elim (λ k. omega arith) (λ k. omega arith))

  pub inside_left : {q a i : ℕ} {m : Model} → Numbered n ls q (inside a m i)
      → MayLeft (marks start n ls) q × ¬ MayRight (marks start n ls) q
  inside_left h = let e = inside_sort (mark_of_lem h) in (inl e, ⊎_elim (λ k. omega arith) (λ k. omega arith))
