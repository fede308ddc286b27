-- 7 by a set of left sides: a left side is known by its number, and what the set says of one more rule. Assumes nothing.
use Prim.Native.Nat.{ℕ, suc, ◌+◌, ◌*◌, ◌/◌, ◌<◌}
use mathlib.Core.Path.{◌≡◌, sym, ap, ◌∙◌}
use mathlib.Core.Logic.{◌≢◌, by_cases, if_pos, if_neg}
use mathlib.Core.Bool.{true, false}
use mathlib.Core.List.{List}
use native.Mathlib.Decide.{ℕ_discrete, dec_lt}
use native.Mathlib.Nat.{suc-mul, mul-le-mul_right}
use native.Mathlib.Omega.{arith}
use lib.ListN.{length, replicate, length-replicate}
use Rattle.paper.specs.Limits.{Limits, at, leaf_kind, join_kind, eps_kind}
use Rattle.paper.proofs.TellsLaws.{tells_yes, tells_no}
use Rattle.bits.specs.Bits.{word, bit_at, Made}
use Rattle.bits.proofs.Sets.{zeros_empty}
use Rattle.factorized.specs.Work.{InRange, side_of, rule_side, side_words, Seen, Looked}

module _ (L : Limits) (k a b : ℕ) where
  pub side_leaf : k ≡ leaf_kind → side_of L k a b ≡ a
  unfolding side_of
  side_leaf e = if_pos (ℕ_discrete k leaf_kind) e _ _

  pub side_join : k ≢ leaf_kind → side_of L k a b ≡ L.symbols + a * L.states + b
  unfolding side_of
  side_join d = if_neg (ℕ_discrete k leaf_kind) d _ _

-- pairs of numbers below s, written as one number
pair_below : (s a b c : ℕ) → a < c → b < s → a * s + b < c * s
pair_below s a b c h l = omega (arith, suc-mul a s, mul-le-mul_right {m = suc a} {n = c} s h)

module _ (s a b c d : ℕ) (h : b < s) (l : d < s) (e : a * s + b ≡ c * s + d) where
  pair_left : a ≡ c
  pair_left = by_cases (dec_lt a c) (λ k. let x = pair_below s a b c k h in absurd (omega arith))
      (λ k. by_cases (dec_lt c a) (λ m. let x = pair_below s c d a m l in absurd (omega arith)) (λ m. omega arith))

  pair_right : b ≡ d
  pair_right = let x = ap (λ (k : ℕ). k * s) pair_left in omega arith

module _ (L : Limits) (xs : List ℕ) (range : InRange L xs L.states) where
  abbrev w : ℕ
  w = L.width

  joins : (i : ℕ) → i < length xs / w → at xs (i * w) ≢ eps_kind → at xs (i * w) ≢ leaf_kind → at xs (i * w) ≡ join_kind
  joins i h d e = omega (arith, range.kinds i h)

  -- every left side has a bit
  side_below : (i : ℕ) → i < length xs / w → at xs (i * w) ≢ eps_kind → rule_side L xs i < side_words L * word
  side_below i h d = by_cases (ℕ_discrete (at xs (i * w)) leaf_kind)
      (λ e. omega (arith, side_leaf L _ (at xs (i * w + 1)) (at xs (i * w + 2)) e, (range.leaves i h e).0))
      (λ n.
      let (a, b) = range.joins i h (joins i h d n) in
      omega (arith, side_join L _ (at xs (i * w + 1)) (at xs (i * w + 2)) n, pair_below L.states (at xs (i * w + 1)) (at xs (i * w + 2)) L.states a b))

  abbrev SameSide : ℕ → ℕ → Type 0
  SameSide j i =
      (at xs (j * w) ≡ at xs (i * w)) × ((at xs (j * w + 1) ≡ at xs (i * w + 1)) × (at xs (j * w + 2) ≡ at xs (i * w + 2)))

  leaf_join : (j i : ℕ) → j < length xs / w → at xs (j * w) ≡ leaf_kind → at xs (i * w) ≢ leaf_kind → rule_side L xs j ≢ rule_side L xs i
  leaf_join j i h e n z =
      omega (arith, (range.leaves j h e).0, side_leaf L _ (at xs (j * w + 1)) (at xs (j * w + 2)) e, side_join L _ (at xs (i * w + 1)) (at xs (i * w + 2)) n)

  -- two rules with one number have one left side
  side_one : (j i : ℕ) → j < length xs / w → i < length xs / w → at xs (j * w) ≢ eps_kind → at xs (i * w) ≢ eps_kind
      → rule_side L xs j ≡ rule_side L xs i → SameSide j i
  side_one j i h l d c z = by_cases (ℕ_discrete (at xs (j * w)) leaf_kind)
      (λ e. by_cases (ℕ_discrete (at xs (i * w)) leaf_kind)
      (λ f. (
        e ∙ sym f,
        (
          sym (side_leaf L _ (at xs (j * w + 1)) (at xs (j * w + 2)) e) ∙ z ∙ side_leaf L _ (at xs (i * w + 1)) (at xs (i * w + 2)) f,
          (range.leaves j h e).1 ∙ sym (range.leaves i l f).1,
        ),
      ))
      (λ n. absurd (leaf_join j i h e n z)))
      (λ m. by_cases (ℕ_discrete (at xs (i * w)) leaf_kind)
      (λ f. absurd (leaf_join i j l f m (sym z)))
      (λ n. two m n))
    where
      two : at xs (j * w) ≢ leaf_kind → at xs (i * w) ≢ leaf_kind → SameSide j i
      two m n =
          let e = joins j h d m in
          let f = joins i l c n in
          let y : at xs (j * w + 1) * L.states + at xs (j * w + 2) ≡ at xs (i * w + 1) * L.states + at xs (i * w + 2) =
          omega (arith, side_join L _ (at xs (j * w + 1)) (at xs (j * w + 2)) m, side_join L _ (at xs (i * w + 1)) (at xs (i * w + 2)) n) in
          let r = (range.joins j h e).1 in
          let s = (range.joins i l f).1 in
          (e ∙ sym f, (pair_left L.states _ _ _ _ r s y, pair_right L.states _ _ _ _ r s y))

  -- rule i, where the set has the left sides of those before it
  module _ (i : ℕ) (row : i < length xs / w) (ws : List ℕ) (seen : Seen L xs i ws) where
    pub looked_eps : at xs (i * w) ≡ eps_kind → Looked L xs i false ws
    looked_eps e = record {
      tells = tells_no (λ x. x.0 e);
      long = seen.long;
      seen = λ _. record {
        long = seen.long;
        only = λ t b. let (j, h, d, z) = seen.only t b in (j, omega arith, d, z);
        all = λ j h d. by_cases (ℕ_discrete j i) (λ q. absurd (d (rw q e))) (λ q. seen.all j (omega arith) d);
      };
    }

    -- s being its own
    module _ (s : ℕ) (mine : s ≡ rule_side L xs i) (kind : at xs (i * w) ≢ eps_kind) where
      pub looked_again : bit_at ws s ≡ 1 → Looked L xs i true ws
      looked_again b =
          let (j, h, d, z) = seen.only s b in
          record {
            tells = tells_yes (kind, (j, h, side_one j i (omega arith) row d kind (z ∙ mine)));
            long = seen.long;
            seen = λ t. let z : ◌≡◌ {A = ℕ} 0 1 = cc in absurd (omega arith);
          }

      pub looked_new : (vs : List ℕ) → bit_at ws s ≢ 1 → Made ws s 1 vs → Looked L xs i false vs
      looked_new vs n m =
          let here : bit_at vs s ≡ 1 = m.here (omega (arith, side_below i row kind, seen.long)) in
          record {
            tells = tells_no (λ (d, (j, h, (a, (b, c)))). n (rw mine (rw (← a, ← b, ← c) (seen.all j h (λ z. d (sym a ∙ z))))));
            long = m.long ∙ seen.long;
            seen = λ _. record {
              long = m.long ∙ seen.long;
              only = λ t b. by_cases (ℕ_discrete t s)
                  (λ q. (i, omega arith, kind, sym mine ∙ sym q))
                  (λ q. let (j, h, d, z) = seen.only t (sym (m.others t q) ∙ b) in (j, omega arith, d, z));
              all = λ j h d. by_cases (ℕ_discrete j i)
                  (λ q. rw q (rw mine at here))
                  (λ q. by_cases (ℕ_discrete (rule_side L xs j) s)
                  (λ e. rw e here)
                  (λ e. m.others (rule_side L xs j) e ∙ seen.all j (omega arith) d));
            };
          }

pub seen_none : (L : Limits) (xs : List ℕ) (n : ℕ) → n ≡ side_words L → Seen L xs 0 (replicate n 0)
seen_none L xs n e = record {
  long = length-replicate n 0 ∙ e;
  only = λ s b. absurd (omega (arith, zeros_empty n s));
  all = λ j h. absurd (omega arith);
}
