-- A line made in an array of its own, and then put into the lent slice. Assumes nothing.
use Prim.Native.Nat.{ℕ, ◌+◌, ◌≤◌}
use mathlib.Core.Path.{◌≡◌, ap, sym, ◌∙◌}
use mathlib.Core.Logic.{◌≢◌, if_pos, if_neg}
use mathlib.Core.List.{List, [], ◌∷◌, ◌++◌}
use native.Mathlib.Omega.{arith}
use native.Mathlib.Decide.{ℕ_discrete}
use lib.ListN.{length, take, drop}
use lib.Seq.{sets-eq, take-append_seam, length-take-le}
use Rattle.lines.specs.Fields.{entry, letters}
use Rattle.lines.specs.Lines.{lf}
use Rattle.tree.specs.Tree.{leaf_mark}
use Rattle.put.specs.Put.{Fit, Wrote}
use Rattle.put.proofs.PutLaws.{put_length, fit_then}
use Rattle.answers.specs.Lines.{refused_word, letter_a, letter_j, refused_line_of, node_line}
use Rattle.answers.proofs.Sizes.{refused_room, word_room}

-- the line bs stands at the front of the array ls, and ends at e
pub record Made (bs : List ℕ) (e : ℕ) (ls : List ℕ) : Type 0 where
  pub inside : e ≤ length ls
  pub front : take e ls ≡ bs

pub made : {l ls : List ℕ} {e : ℕ} {bs : List ℕ} → length bs ≤ length l → Fit l 0 bs e ls → Made bs e ls
made {l} {ls} {e} {bs} h f =
    let p = f (omega arith) in
    let n : e ≡ length bs = omega (arith, p.ends) in
    let q : ls ≡ bs ++ drop (0 + length bs) l = p.holds ∙ sets-eq bs l 0 (omega arith) in
    record {
      inside = omega (arith, put_length p);
      front = ap (λ k. take k ls) n ∙ ap (take (length bs)) q ∙ take-append_seam bs (drop (0 + length bs) l);
    }

pub length_taken : {bs ls : List ℕ} {e : ℕ} → Made bs e ls → e ≡ length (take e ls)
length_taken {bs} {ls} {e} m = sym (length-take-le e ls m.inside)

pub wrote_made : {o o' bs ls : List ℕ} {at r e : ℕ} → Made bs e ls → Wrote o at (take e ls) r o' → Wrote o at bs r o'
wrote_made m w = rw m.front at w

-- the pieces of each line, put one behind the other into an array that has room
module _ {l l₁ l₂ ls : List ℕ} {e₁ e₂ e : ℕ} where
  pub word_made : (word : List ℕ) (n : ℕ) → length word ≤ 40 → 80 ≤ length l → Fit l 0 word e₁ l₁ → Fit l₁ e₁ (entry n) e₂ l₂
      → Fit l₂ e₂ (lf ∷ []) e ls → Made (word ++ (entry n ++ (lf ∷ []))) e ls
  word_made word n w h f g k = made (omega (arith, word_room word n w)) (fit_then f (fit_then g k))

  pub refused_made : (side number place : ℕ) {e₃ e₄ : ℕ} {l₃ l₄ : List ℕ} → 80 ≤ length l → Fit l 0 refused_word e₁ l₁
      → Fit l₁ e₁ (entry side) e₂ l₂ → Fit l₂ e₂ (entry number) e₃ l₃ → Fit l₃ e₃ (entry place) e₄ l₄ → Fit l₄ e₄ (lf ∷ []) e ls
      → Made (refused_line_of side number place) e ls
  unfolding refused_line_of
  refused_made side number place h f g i j k =
      made (omega (arith, refused_room side number place)) (fit_then f (fit_then g (fit_then i (fit_then j k))))

-- the line of a node
pub node_leaf : (x y : ℕ) → y ≡ leaf_mark → node_line x y ≡ letter_a ∷ (entry x ++ (lf ∷ []))
unfolding node_line
node_leaf x y h = if_pos (ℕ_discrete y leaf_mark) h _ _

pub node_join : (x y : ℕ) → y ≢ leaf_mark → node_line x y ≡ letters letter_j 2 x y 0
unfolding node_line
node_join x y h = if_neg (ℕ_discrete y leaf_mark) h _ _
