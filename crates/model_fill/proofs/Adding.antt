-- What adding one M line to the slices does, from what each call of it promises. Assumes nothing.
use Prim.Native.Nat.{ℕ, suc, ◌+◌, ◌-◌, ◌*◌, ◌≤◌, ◌<◌}
use native.Mathlib.Omega.{arith}
use native.Mathlib.Nat.{mul-le-mul_right, add-mul, suc-mul}
use mathlib.Core.Path.{◌≡◌, refl, sym, ap, subst, ◌∙◌}
use mathlib.Core.Logic.{◌≢◌, by_cases, if_pos, if_neg}
use mathlib.Core.Option.{Option, none, some}
use mathlib.Core.List.{List, ◌++◌}
use lib.ListN.{length, take, drop}
use Rattle.paper.specs.Limits.{Limits, at}
use Rattle.rows.specs.Fill.{Filled}
use Rattle.model.specs.Model.{Model, places}
use Rattle.postfix.specs.Field.{model_in}
use Rattle.model_line.specs.Line.{says, content, split_of, token_field}
use Rattle.std.specs.Prelude as std
use Rattle.std.specs.Prelude.{Some, None}
use Rattle.std.proofs.lemmas.Option.{none-some, same_Some, some_pair_parts}
use Rattle.model_line.proofs.SplitLaws.{not_field}
use Rattle.model_line.proofs.Known.{says_content}
use Rattle.model_sets.specs.Sets.{Room, room?, answer_of, Fills}
use Rattle.compiled.specs.States.{State, insides, the_state_at}
use Rattle.model_fill.specs.Kept.{belongs_to, Long, Kept}
use Rattle.model_fill.specs.Work.{Adds}
use Rattle.model_fill.proofs.Lending.{Behind, lent_behind, lent_at, lent_length}
use Rattle.model_fill.proofs.KeptLaws.{kept_more}

answer_places : (stride : ℕ) (o : Option Model) (m : Model) (b e n : ℕ) → o ≡ some m → Room stride (places m) b e n
    → answer_of stride o b e n ≡ Some (places m)
unfolding answer_of
answer_places stride o m b e n s h = rw s (if_pos (room? stride (places m) b e n) h (Some (places m)) None)

-- no more places are answered than there are states
pub answer_few : (stride : ℕ) (o : Option Model) (b e n : ℕ) {k : ℕ} → Some k ≡ answer_of stride o b e n → k ≤ stride
unfolding answer_of
answer_few stride none b e n a = absurd (none-some _ (sym a))
answer_few stride (some m) b e n {k} a =
    by_cases (room? stride (places m) b e n)
    (λ h. let z = same_Some _ _ (a ∙ if_pos (room? stride (places m) b e n) h (Some (places m)) None) in let g = h.0 in omega arith)
    (λ h. absurd (none-some _ (sym (a ∙ if_neg (room? stride (places m) b e n) h (Some (places m)) None))))

-- a line without a token field adds nothing, as it says no model
pub adds_misshapen : (L : Limits) (n : ℕ) (x : List ℕ) {B O E N : List ℕ} (base : ℕ) → None ≡ split_of x → Long L.states B O E N
    → Adds L n x B O E N base base B O E N
adds_misshapen L n x base e l =
    record { long = l; adds = λ S a m s b k f r. absurd (not_field (e ∙ (says_content L n x s).cut)) }

-- the rests of three slices, lent and given back
module _ (L : Limits) (n : ℕ) (x : List ℕ) {B O E N : List ℕ} (base from : ℕ) {symbol : ℕ} {r : std.Option ℕ} {B₁ E₁ N₁ : List ℕ}
    (long : Long L.states B O E N) (small : base < L.states) (cut : Some (symbol, from) ≡ split_of x)
    (fills : Fills L n (token_field x from)
    (take (length B - (base + 1)) (drop (base + 1) B)) (take (length E - base) (drop base E))
    (take (length N - (base * L.states + (base + 1))) (drop (base * L.states + (base + 1)) N)) r B₁ E₁ N₁)
    (sizeB : length B₁ ≡ length B - (base + 1)) (sizeE : length E₁ ≡ length E - base)
    (sizeN : length N₁ ≡ length N - (base * L.states + (base + 1))) where
  abbrev stride : ℕ
  stride = L.states

  abbrev row : ℕ
  row = base * stride + (base + 1)

  row_inside : row ≤ length N
  row_inside =
      let h : suc base * stride ≤ stride * stride = mul-le-mul_right stride small in
      omega (arith, suc-mul base stride, long.next)

  abbrev back_b : List ℕ
  back_b = take (base + 1) B ++ (B₁ ++ drop (length B - (base + 1)) (drop (base + 1) B))

  abbrev back_e : List ℕ
  back_e = take base E ++ (E₁ ++ drop (length E - base) (drop base E))

  abbrev back_n : List ℕ
  back_n = take row N ++ (N₁ ++ drop (length N - row) (drop row N))

  behind_b : Behind (base + 1) B B₁ back_b
  behind_b = lent_behind (base + 1) (length B - (base + 1)) B B₁ (omega (arith, long.bears)) refl sizeB

  behind_e : Behind base E E₁ back_e
  behind_e = lent_behind base (length E - base) E E₁ (omega (arith, long.ends)) refl sizeE

  behind_n : Behind row N N₁ back_n
  behind_n = lent_behind row (length N - row) N N₁ row_inside refl sizeN

  pub long_back : {O' : List ℕ} → length O' ≡ length O → Long stride back_b O' back_e back_n
  long_back h =
      record {
        bears = behind_b.size ∙ long.bears;
        owners = h ∙ long.owners;
        ends = behind_e.size ∙ long.ends;
        next = behind_n.size ∙ long.next;
      }

  -- the model that the line says stands in its field
  same_field : {a : ℕ} {m : Model} → says L n x ≡ content a m → (a ≡ symbol) × (model_in L n (token_field x from) ≡ some m)
  same_field {a} {m} s =
      let c = says_content L n x s in
      let e = some_pair_parts _ _ _ _ (sym c.cut ∙ sym cut) in
      (e.0, ap (λ (i : ℕ). model_in L n (token_field x i)) (sym e.1) ∙ c.model)

  -- there is room for the sets of its places
  has_room : (p : ℕ) → base + suc p ≤ stride → Room stride p
      (length (take (length B - (base + 1)) (drop (base + 1) B))) (length (take (length E - base) (drop base E)))
      (length (take (length N - row) (drop row N)))
  has_room p h =
      let lb = lent_length (base + 1) (length B - (base + 1)) B refl in
      let le = lent_length base (length E - base) E refl in
      let ln = lent_length row (length N - row) N refl in
      let a : (base + suc p) * stride ≤ stride * stride = mul-le-mul_right stride h in
      let b : (base + suc p) * stride ≡ base * stride + (p * stride + stride) = add-mul base (suc p) stride ∙ ap (λ (n : ℕ). base * stride + n) (suc-mul p stride) in
      (omega arith, (omega (arith, long.bears), (omega (arith, long.ends), omega (arith, long.next))))

  placed : (m : Model) → model_in L n (token_field x from) ≡ some m → base + suc (places m) ≤ stride → r ≡ Some (places m)
  placed m s h = fills.answer ∙ answer_places stride _ m _ _ _ s (has_room (places m) h)

  pub adds_unfit : None ≡ r → Adds L n x B O E N base base back_b O back_e back_n
  adds_unfit e =
      record { long = long_back refl; adds = λ S a m s b k f h. absurd (none-some _ (e ∙ placed m (same_field s).1 h)) }

  pub adds_line : {k : ℕ} {O' : List ℕ} → Some k ≡ r → Filled O base (base + 1 + k) symbol O'
      → Adds L n x B O E N base (base + 1 + k) back_b O' back_e back_n
  adds_line {k} {O'} e fill = record { long = long_back fill.size; adds = added }
    where
      same_fill : {u v w : ℕ} → base + 1 + k ≡ u → base ≡ v → symbol ≡ w → Filled O v u w O'
      same_fill {u} {v} {w} p q o =
          subst (λ (n : ℕ). Filled O v u n O') o (subst (λ (n : ℕ). Filled O n u symbol O') q (subst (λ (n : ℕ). Filled O base n symbol O') p fill))

      added : (S : List State) (a : ℕ) (m : Model) → says L n x ≡ content a m → base ≡ length S → Kept stride S B O E N
          → ((q : ℕ) → q < length S → belongs_to (the_state_at S q) ≢ a) → base + suc (places m) ≤ stride
          → (base + 1 + k ≡ base + suc (places m)) × Kept stride (S ++ insides (record { of = a; model = m })) back_b O' back_e back_n
      added S a m s b kept fresh h =
          let f = same_field s in
          let c : k ≡ places m = same_Some _ _ (e ∙ placed m f.1 h) in
          let i : base + 1 + k ≡ base + suc (places m) = omega arith in (
            i,
            kept_more kept a m (omega arith) fresh
                (λ i. lent_at (base + 1) (length B - (base + 1)) B i refl ∙ ap (λ (n : ℕ). at B (n + 1 + i)) b)
                (λ i. lent_at base (length E - base) E i refl ∙ ap (λ (n : ℕ). at E (n + i)) b)
                (λ i. lent_at row (length N - row) N i refl ∙ ap (λ (n : ℕ). at N (n * stride + (n + 1) + i)) b)
                (fills.filled f.1 (sym e))
                (subst (λ (n : ℕ). Behind (n + 1) B B₁ back_b) b behind_b) (subst (λ (n : ℕ). Behind n E E₁ back_e) b behind_e)
                (subst (λ (n : ℕ). Behind (n * stride + (n + 1)) N N₁ back_n) b behind_n)
                (same_fill (i ∙ ap (λ (n : ℕ). n + suc (places m)) b) b (sym f.0)),
          )
