-- The stack's array: what it holds of the models, and a model pushed or put in the place of others. Assumes nothing.
use Prim.Native.Nat.{ℕ, ◌≤◌, ◌<◌}
use mathlib.Core.Path.{◌≡◌, refl, sym, ap, ◌∙◌}
use mathlib.Core.Bool.{Bool}
use mathlib.Core.List.{List, [], ◌∷◌}
use native.Mathlib.Omega.{arith}
use lib.ListN.{length, set}
use lib.Seq.{get_or-set_same, get_or-set_other}
use Rattle.model.specs.Model.{Model}
use Rattle.model.specs.Sets.{nullable}
use Rattle.model_sets.specs.Stack.{part, total, Kept, Same, Stays}
use Rattle.model_sets.specs.declared.Part.{Part}
use Rattle.model_sets.specs.declared.Stack.{Stack}

-- whether a model can be empty is changed
abbrev pub emptied : List Part → ℕ → Bool → List Part
emptied S i w = set S i (record { start = (part S i).start; empty = w })

part_set : (S : List Part) (i j : ℕ) (v : Part) → j ≡ i → i < length S → part (set S i v) j ≡ v
part_set S i j v e h = ap (part (set S i v)) e ∙ get_or-set_same S i v _ h

-- a store above the stack
kept_above : (S : List Part) (st : List Model) (i : ℕ) (v : Part) → length st ≤ i → Kept S st → Kept (set S i v) st
kept_above S [] i v h k = tt
kept_above S (m ∷ st) i v h k =
    let e : part (set S i v) (length st) ≡ part S (length st) = get_or-set_other S i (length st) v _ (omega arith) in
    (ap (λ (p : Part). p.start) e ∙ k.0, (ap (λ (p : Part). p.empty) e ∙ k.1.0, kept_above S st i v (omega arith) k.1.1))

-- a model put on the stack
pub kept_push : (S : List Part) (st : List Model) (m : Model) (d n : ℕ) (w : Bool) → length st ≡ d → total st ≡ n → d < length S
    → w ≡ nullable m → Kept S st → Kept (set S d (record { start = n; empty = w })) (m ∷ st)
kept_push S st m d n w e t h z k =
    let v : Part = record { start = n; empty = w } in
    let q = part_set S d (length st) v e h in
    (ap (λ (p : Part). p.start) q ∙ sym t, (ap (λ (p : Part). p.empty) q ∙ z, kept_above S st d v (omega arith) k))

-- the lowest of the models that go is replaced
pub kept_in : (S : List Part) (st : List Model) (m m' : Model) (i : ℕ) (w : Bool) → length st ≡ i → i < length S → w ≡ nullable m'
    → Kept S (m ∷ st) → Kept (emptied S i w) (m' ∷ st)
kept_in S st m m' i w e h z k =
    let v : Part = record { start = (part S i).start; empty = w } in
    let q = part_set S i (length st) v e h in (
      ap (λ (p : Part). p.start) q ∙ ap (λ (x : ℕ). (part S x).start) (sym e) ∙ k.0,
      (ap (λ (p : Part). p.empty) q ∙ z, kept_above S st i v (omega arith) k.1.1),
    )

pub kept_as : (S : List Part) (st : List Model) (m m' : Model) → nullable m ≡ nullable m' → Kept S (m ∷ st) → Kept S (m' ∷ st)
kept_as S st m m' e k = (k.0, (k.1.0 ∙ e, k.1.1))

-- the same memory
pub same_start : (z : Stack) → Same z z
same_start z = record { ends = refl; next = refl; ends_length = refl; next_length = refl; models_length = refl }

pub same_on : {z z' z'' : Stack} → Same z z' → Same z' z'' → Same z z''
same_on a b =
    record {
      ends = b.ends ∙ a.ends;
      next = b.next ∙ a.next;
      ends_length = b.ends_length ∙ a.ends_length;
      next_length = b.next_length ∙ a.next_length;
      models_length = b.models_length ∙ a.models_length;
    }

pub stays_start : (z : Stack) → Stays z z
stays_start z = record { ends = refl; models = refl; depth = refl; places = refl }
