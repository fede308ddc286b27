-- One more line added behind the states so far: its sets are filled into the rests of the slices, and its symbol into the owners, and
-- all is kept again. Assumes nothing.
use Prim.Native.Nat.{ℕ, zero, suc, ◌+◌, ◌-◌, ◌*◌, ◌≤◌, ◌<◌}
use native.Mathlib.Omega.{arith}
use native.Mathlib.Nat.{add-mul, suc-mul, mul-le-mul_right}
use native.Mathlib.Decide.{dec_lt, dec_le, ℕ_discrete}
use mathlib.Core.Path.{◌≡◌, refl, sym, ap, ◌∙◌}
use mathlib.Core.Logic.{◌≢◌, by_cases, inl, inr}
use mathlib.Core.Bool.{true, false, cond, ◌&&◌}
use mathlib.Core.List.{List, ◌++◌}
use lib.ListN.{length, drop, get_or-append}
use lib.Seq.{get_or-append-add, get_or-drop}
use lib.Dec.{leb, ltb}
use borrow.Author.Tests.{le-leb, lt-leb, lt-ltb, le-ltb}
use Rattle.paper.specs.Limits.{at}
use Rattle.rows.specs.Fill.{Filled}
use Rattle.model.specs.Model.{Model, symbols, places}
use Rattle.model.specs.Sets.{comes, ends}
use Rattle.model_sets.specs.Sets.{flag, Holds}
use Rattle.compiled.specs.States.{State, inside, insides, the_state_at, may_end, goes_on_of}
use Rattle.model.specs.Documents.{Line}
use Rattle.model_fill.specs.Kept.{no_symbol_of, borne, belongs_to, Kept}
use Rattle.model_fill.proofs.Lending.{Behind}
use Rattle.model_fill.proofs.StateLaws.{state_none, goes_none, goes_initial, goes_apart, goes_within, new_state, old_state, no_state}

-- the flags of places that are there, and of others
cond_in : (i p x y : ℕ) → i ≤ p → cond (leb i p) x y ≡ x
cond_in i p x y h = rw (le-leb i p h) refl

cond_out : (i p x y : ℕ) → p < i → cond (leb i p) x y ≡ y
cond_out i p x y h = rw (lt-leb i p h) refl

cond_both : (i p z k x y : ℕ) → i ≤ p → z < k → cond (leb i p && ltb z k) x y ≡ x
cond_both i p z k x y h g = rw (le-leb i p h, lt-ltb z k g) refl

cond_row : (i p z k x y : ℕ) → p < i → cond (leb i p && ltb z k) x y ≡ y
cond_row i p z k x y h = rw (lt-leb i p h) refl

cond_column : (i p z k x y : ℕ) → k ≤ z → cond (leb i p && ltb z k) x y ≡ y
cond_column i p z k x y h = rw (le-ltb z k h) (both (leb i p))
  where
    both : (b : _) → cond (b && false) x y ≡ y
    both true = refl
    both false = refl

module _ {stride : ℕ} {S : List State} {B O E N : List ℕ} (kept : Kept stride S B O E N) (a : ℕ) (m : Model) where
  abbrev ln : Line
  ln = record { of = a; model = m }

  abbrev base : ℕ
  base = length S

  abbrev p : ℕ
  p = places m

  abbrev S' : List State
  S' = S ++ insides ln

  module _ (room : base + suc p ≤ stride) (fresh : (q : ℕ) → q < base → belongs_to (the_state_at S q) ≢ a)
      {B₀ E₀ N₀ B₁ E₁ N₁ B' O' E' N' : List ℕ}
      (lentB : (i : ℕ) → at B₀ i ≡ at B (base + 1 + i)) (lentE : (i : ℕ) → at E₀ i ≡ at E (base + i))
      (lentN : (i : ℕ) → at N₀ i ≡ at N (base * stride + (base + 1) + i))
      (holds : Holds stride m B₀ E₀ N₀ B₁ E₁ N₁)
      (behind_b : Behind (base + 1) B B₁ B') (behind_e : Behind base E E₁ E') (behind_n : Behind (base * stride + (base + 1)) N N₁ N')
      (filled : Filled O base (base + suc p) a O') where
    -- what was kept behind the states so far
    no_symbol : (q : ℕ) → base ≤ q → q < stride → at B q ≡ no_symbol_of
    unfolding borne
    no_symbol q h g = kept.bearing q g ∙ ap borne (state_none S q h)

    no_owner : (q : ℕ) → base ≤ q → q < stride → at O q ≡ no_symbol_of
    unfolding belongs_to
    no_owner q h g = kept.owning q g ∙ ap belongs_to (state_none S q h)

    no_end : (q : ℕ) → base ≤ q → q < stride → at E q ≡ 0
    unfolding may_end flag
    no_end q h g = kept.ending q g ∙ ap (λ (s : State). flag (may_end s)) (state_none S q h)

    no_next : (q y : ℕ) → q < stride → y < stride → goes_on_of (the_state_at S q) (the_state_at S y) ≡ false → at N (q * stride + y) ≡ 0
    unfolding flag
    no_next q y h g e = kept.coming q y h g ∙ ap flag e

    no_row : (q y : ℕ) → base ≤ q → q < stride → y < stride → at N (q * stride + y) ≡ 0
    unfolding goes_on_of
    no_row q y h g k = no_next q y g k (ap (λ (s : State). goes_on_of s (the_state_at S y)) (state_none S q h))

    -- what each state then bears
    bear_new : (y : ℕ) → base + 1 + y < stride → at B' (base + 1 + y) ≡ borne (the_state_at S' (base + 1 + y))
    unfolding borne
    bear_new y g =
        behind_b.behind y ∙ ap (λ (l : List ℕ). at l y) holds.bearing
        ∙ by_cases (dec_lt y p)
        (λ h.
        let e : base + 1 + y ≡ base + suc y = omega arith in
        get_or-append (symbols m) (drop p B₀) 0 y h ∙ sym (ap borne (ap (the_state_at S') e ∙ new_state S ln (suc y) (omega arith))))
        (λ h.
        let e : y ≡ p + (y - p) = omega arith in
        ap (at (symbols m ++ drop p B₀)) e ∙ get_or-append-add (symbols m) (drop p B₀) (y - p) 0 ∙ get_or-drop p B₀ (y - p) 0
        ∙ ap (at B₀) (sym e) ∙ lentB y ∙ no_symbol (base + 1 + y) (omega arith) g
        ∙ sym (ap borne (no_state S ln (base + 1 + y) (omega arith))))

    bear : (q : ℕ) → q < stride → at B' q ≡ borne (the_state_at S' q)
    unfolding borne
    bear q g =
        by_cases (dec_lt q base)
        (λ h. behind_b.before q (omega arith) ∙ kept.bearing q g ∙ ap borne (sym (old_state S ln q h)))
        (λ h. by_cases (ℕ_discrete q base)
        (λ e. behind_b.before q (omega arith) ∙ no_symbol q (omega arith) g
        ∙ sym (ap borne (ap (the_state_at S') (first e) ∙ new_state S ln 0 (omega arith))))
        (λ e.
        let z : q ≡ base + 1 + (q - base - 1) = omega arith in
        ap (at B') z ∙ bear_new (q - base - 1) (omega arith) ∙ ap (λ (n : ℕ). borne (the_state_at S' n)) (sym z)))
      where
        first : q ≡ base → q ≡ base + 0
        first e = omega arith

    -- whom each belongs to
    own : (q : ℕ) → q < stride → at O' q ≡ belongs_to (the_state_at S' q)
    unfolding belongs_to
    own q g =
        let l = kept.long.owners in
        by_cases (dec_lt q base)
        (λ h. filled.outside q (inl h) ∙ kept.owning q g ∙ ap belongs_to (sym (old_state S ln q h)))
        (λ h. by_cases (dec_lt q (base + suc p))
        (λ k.
        let z : q ≡ base + (q - base) = omega arith in
        filled.inside q (omega arith) k (omega arith)
        ∙ sym (ap belongs_to (ap (the_state_at S') z ∙ new_state S ln (q - base) (omega arith))))
        (λ k. filled.outside q (inr (omega arith)) ∙ no_owner q (omega arith) g ∙ sym (ap belongs_to (no_state S ln q (omega arith)))))

    -- where words may end
    end_new : (i : ℕ) → base + i < stride → at E' (base + i) ≡ flag (may_end (the_state_at S' (base + i)))
    unfolding may_end flag
    end_new i g =
        behind_e.behind i ∙ holds.ending i
        ∙ by_cases (dec_le i p)
        (λ h. cond_in i p (flag (ends m i)) (at E₀ i) h ∙ sym (ap (λ (s : State). flag (may_end s)) (new_state S ln i (omega arith))))
        (λ h. cond_out i p (flag (ends m i)) (at E₀ i) (omega arith) ∙ lentE i ∙ no_end (base + i) (omega arith) g
        ∙ sym (ap (λ (s : State). flag (may_end s)) (no_state S ln (base + i) (omega arith))))

    end : (q : ℕ) → q < stride → at E' q ≡ flag (may_end (the_state_at S' q))
    end q g =
        by_cases (dec_lt q base)
        (λ h. behind_e.before q h ∙ kept.ending q g ∙ ap (λ (s : State). flag (may_end s)) (sym (old_state S ln q h)))
        (λ h.
        let z : q ≡ base + (q - base) = omega arith in
        ap (at E') z ∙ end_new (q - base) (omega arith) ∙ ap (λ (n : ℕ). flag (may_end (the_state_at S' n))) (sym z))

    -- nothing goes on where a state is missing, or from one model into another
    from_none : (q : ℕ) (t : State) → base + suc p ≤ q → goes_on_of (the_state_at S' q) t ≡ false
    unfolding goes_on_of
    from_none q t h = ap (λ (s : State). goes_on_of s t) (no_state S ln q h)

    to_none : (s : State) (y : ℕ) → base + suc p ≤ y → goes_on_of s (the_state_at S' y) ≡ false
    to_none s y h = ap (goes_on_of s) (no_state S ln y h) ∙ goes_none s 0

    old_to_new : (q y : ℕ) → q < base → base ≤ y → goes_on_of (the_state_at S q) (the_state_at S' y) ≡ false
    unfolding belongs_to
    old_to_new q y h g =
        by_cases (dec_lt y (base + suc p))
        (λ k.
        let z : y ≡ base + (y - base) = omega arith in
        ap (goes_on_of (the_state_at S q)) (ap (the_state_at S') z ∙ new_state S ln (y - base) (omega arith))
        ∙ goes_apart (the_state_at S q) (inside a m (y - base)) (fresh q h))
        (λ k. to_none (the_state_at S q) y (omega arith))

    new_to_old : (i y : ℕ) → y < base + 1 → goes_on_of (the_state_at S' (base + i)) (the_state_at S' y) ≡ false
    unfolding belongs_to
    new_to_old i y g =
        by_cases (dec_le i p)
        (λ k. ap (λ (s : State). goes_on_of s (the_state_at S' y)) (new_state S ln i (omega arith)) ∙
        by_cases (dec_lt y base)
        (λ h. ap (goes_on_of (inside a m i)) (old_state S ln y h)
        ∙ goes_apart (inside a m i) (the_state_at S y) (λ e. fresh y h (sym e)))
        (λ h. let z : y ≡ base + 0 = omega arith in
        ap (goes_on_of (inside a m i)) (ap (the_state_at S') z ∙ new_state S ln 0 (omega arith)) ∙ goes_initial (inside a m i) a m))
        (λ k. from_none (base + i) (the_state_at S' y) (omega arith))

    -- what can come next
    next_old : (q y : ℕ) → q < base → y < stride → at N' (q * stride + y) ≡ flag (goes_on_of (the_state_at S' q) (the_state_at S' y))
    unfolding flag
    next_old q y h g =
        let w : suc q * stride ≤ base * stride = mul-le-mul_right stride h in
        let r : q * stride + stride ≤ base * stride = omega (arith, suc-mul q stride, w) in
        behind_n.before (q * stride + y) (omega arith)
        ∙ by_cases (dec_lt y base)
        (λ k. kept.coming q y (omega arith) g
        ∙ ap flag (sym (ap (λ (s : State). goes_on_of s (the_state_at S' y)) (old_state S ln q h) ∙ ap (goes_on_of (the_state_at S q)) (old_state S ln y k))))
        (λ k. no_next q y (omega arith) g (ap (goes_on_of (the_state_at S q)) (state_none S y (omega arith)) ∙ goes_none (the_state_at S q) 0)
        ∙ ap flag (sym (ap (λ (s : State). goes_on_of s (the_state_at S' y)) (old_state S ln q h) ∙ old_to_new q y h (omega arith))))

    next_early : (i y : ℕ) → base + i < stride → y < base + 1 → at N' ((base + i) * stride + y) ≡ 0
    next_early zero y h g =
        let z : (base + 0) * stride ≡ base * stride = ap (λ (n : ℕ). n * stride) (omega arith) in
        behind_n.before ((base + 0) * stride + y) (omega arith) ∙ no_row (base + 0) y (omega arith) h (omega arith)
    next_early (suc j) y h g =
        let c = stride + y - (base + 1) in
        let z : (base + suc j) * stride ≡ base * stride + (j * stride + stride) = add-mul base (suc j) stride ∙ ap (λ (n : ℕ). base * stride + n) (suc-mul j stride) in
        let e : (base + suc j) * stride + y ≡ base * stride + (base + 1) + (j * stride + c) = omega arith in
        ap (at N') e ∙ behind_n.behind (j * stride + c) ∙ holds.coming j c (omega arith)
        ∙ cond_column j p c p (flag (comes m j c)) (at N₀ (j * stride + c)) (omega arith)
        ∙ lentN (j * stride + c) ∙ ap (at N) (sym e) ∙ no_row (base + suc j) y (omega arith) h (omega arith)

    next_late : (i z : ℕ) → base + i < stride → base + 1 + z < stride
        → at N' ((base + i) * stride + (base + 1 + z)) ≡ flag (goes_on_of (the_state_at S' (base + i)) (the_state_at S' (base + 1 + z)))
    unfolding flag
    next_late i z h g =
        let w : (base + i) * stride ≡ base * stride + i * stride = add-mul base i stride in
        let e : (base + i) * stride + (base + 1 + z) ≡ base * stride + (base + 1) + (i * stride + z) = omega arith in
        let old : at N₀ (i * stride + z) ≡ 0 =
        lentN (i * stride + z) ∙ ap (at N) (sym e) ∙ no_row (base + i) (base + 1 + z) (omega arith) h g in
        ap (at N') e ∙ behind_n.behind (i * stride + z) ∙ holds.coming i z (omega arith)
        ∙ by_cases (dec_le i p)
        (λ k. by_cases (dec_lt z p)
        (λ l.
        let y : base + 1 + z ≡ base + suc z = omega arith in
        cond_both i p z p (flag (comes m i z)) (at N₀ (i * stride + z)) k l
        ∙ ap flag (sym (ap (λ (s : State). goes_on_of s (the_state_at S' (base + 1 + z))) (new_state S ln i (omega arith))
        ∙ ap (goes_on_of (inside a m i)) (ap (the_state_at S') y ∙ new_state S ln (suc z) (omega arith)) ∙ goes_within a m i z)))
        (λ l. cond_column i p z p (flag (comes m i z)) (at N₀ (i * stride + z)) (omega arith) ∙ old
        ∙ ap flag (sym (to_none (the_state_at S' (base + i)) (base + 1 + z) (omega arith)))))
        (λ k. cond_row i p z p (flag (comes m i z)) (at N₀ (i * stride + z)) (omega arith) ∙ old
        ∙ ap flag (sym (from_none (base + i) (the_state_at S' (base + 1 + z)) (omega arith))))

    next_new : (i y : ℕ) → base + i < stride → y < stride
        → at N' ((base + i) * stride + y) ≡ flag (goes_on_of (the_state_at S' (base + i)) (the_state_at S' y))
    unfolding flag
    next_new i y h g =
        by_cases (dec_lt y (base + 1))
        (λ k. next_early i y h k ∙ ap flag (sym (new_to_old i y k)))
        (λ k.
        let z : y ≡ base + 1 + (y - (base + 1)) = omega arith in
        ap (λ (n : ℕ). at N' ((base + i) * stride + n)) z ∙ next_late i (y - (base + 1)) h (omega arith)
        ∙ ap (λ (n : ℕ). flag (goes_on_of (the_state_at S' (base + i)) (the_state_at S' n))) (sym z))

    come : (q y : ℕ) → q < stride → y < stride → at N' (q * stride + y) ≡ flag (goes_on_of (the_state_at S' q) (the_state_at S' y))
    come q y h g =
        by_cases (dec_lt q base) (λ k. next_old q y k g)
        (λ k.
        let z : q ≡ base + (q - base) = omega arith in
        ap (λ (n : ℕ). at N' (n * stride + y)) z ∙ next_new (q - base) y (omega arith) g
        ∙ ap (λ (n : ℕ). flag (goes_on_of (the_state_at S' n) (the_state_at S' y))) (sym z))

    pub kept_more : Kept stride S' B' O' E' N'
    kept_more =
        record {
          long = record {
            bears = behind_b.size ∙ kept.long.bears;
            owners = filled.size ∙ kept.long.owners;
            ends = behind_e.size ∙ kept.long.ends;
            next = behind_n.size ∙ kept.long.next;
          };
          bearing = bear;
          owning = own;
          ending = end;
          coming = come;
        }
