-- From the work slices to the lent ones. Assumes nothing.
use Prim.Native.Nat.{ℕ, ◌*◌, ◌≤◌}
use mathlib.Core.Path.{◌≡◌, ap, sym, ◌∙◌}
use mathlib.Core.List.{List, ◌++◌}
use lib.ListN.{length, take, drop}
use lib.Seq.{length-take-le}
use Rattle.paper.specs.Limits.{Limits}
use Rattle.paper.specs.Told.{Told, refused, holds, refusal, is_refusal, filled}
use Rattle.paper.specs.declared.Refusal.{Refusal}
use Rattle.rule_read.specs.Text.{Reading, said_by, marks_of, rules_of, read_told, told, Reads}
use Rattle.table.specs.Room.{NoRoom}
use Rattle.rule_read.specs.Work.{Answers}
use Rattle.std.specs.Prelude.{Ok, Err}
use Rattle.table.specs.declared.Sizes.{Sizes}
use Rattle.rule_read.proofs.Exact.{read_short, read_on}

-- a slice after an answer
module _ (t : Told) (xs o : List ℕ) where
  fill_refused : {n d p : ℕ} → t ≡ refused n d p → filled t xs o ≡ o
  unfolding filled is_refusal
  fill_refused e = rw e

  fill_table : {y n r : ℕ} → t ≡ holds y n r → filled t xs o ≡ xs ++ drop (length xs) o
  unfolding filled is_refusal
  fill_table e = rw e

  -- the first n numbers of a slice that are xs, copied to the front of another
  fill_front : {y n r : ℕ} → t ≡ holds y n r → (k : ℕ) (xw : List ℕ) → take k xw ≡ xs → k ≤ length xw → take k xw ++ drop k o ≡ filled t xs o
  fill_front e k xw q h =
      let z : k ≡ length xs = sym (length-take-le k xw h) ∙ ap length q in
      ap (λ (i : ℕ). take k xw ++ drop i o) z ∙ ap (λ (x : List ℕ). x ++ drop (length xs) o) q ∙ sym (fill_table e)

module _ (L : Limits) (s M W : List ℕ) where
  -- no table is told: the slices are as they were
  reads_unfilled : {x : Reading} {n d p : ℕ} → told x ≡ read_told L s M W → read_told L s M W ≡ refused n d p → Reads L s M W x M W
  reads_unfilled a e =
      record {
        answer = a;
        marks = sym (fill_refused (read_told L s M W) (marks_of (said_by s)) M e);
        rules = sym (fill_refused (read_told L s M W) (rules_of (said_by s)) W e);
      }

  pub reads_short : {x : Refusal} → NoRoom L M W → x ≡ record { number = 1; side = 0; place = 0 } → Reads L s M W (Err x) M W
  reads_short h e = reads_unfilled (ap refusal e ∙ sym (read_short L s M W h)) (read_short L s M W h)

  module _ {a : Reading} {M₁ W₁ : List ℕ} (h : ¬ NoRoom L M W) (g : Answers L s a M₁ W₁) where
    pub reads_refused : {x : Refusal} → a ≡ Err x → Reads L s M W (Err x) M W
    reads_refused {x} e =
        let q : refusal x ≡ read_told L s M W = ap told (sym e) ∙ g.answer ∙ sym (read_on L s M W h) in
        reads_unfilled q (sym q)

    pub reads_table : {x : Sizes} {M' W' : List ℕ} → a ≡ Ok x → M' ≡ take x.states M₁ ++ drop x.states M
        → W' ≡ take (x.rules * L.width) W₁ ++ drop (x.rules * L.width) W → Reads L s M W (Ok x) M' W'
    reads_table {x} e u v =
        let q : holds x.symbols x.states x.rules ≡ read_told L s M W = ap told (sym e) ∙ g.answer ∙ sym (read_on L s M W h) in
        let f = g.fronts e in
        record {
          answer = q;
          marks = u ∙ fill_front (read_told L s M W) (marks_of (said_by s)) M (sym q) x.states M₁ f.marks f.marks_in;
          rules = v ∙ fill_front (read_told L s M W) (rules_of (said_by s)) W (sym q) (x.rules * L.width) W₁ f.rules f.rules_in;
        }
