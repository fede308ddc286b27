-- The reader's walk over the tokens: the stack that it has reached, of which it keeps the height and the places. Assumes nothing.
use Prim.Native.Nat.{ℕ, suc, ◌+◌, ◌≤◌, ◌<◌}
use mathlib.Core.Path.{◌≡◌, refl, ap, sym, ◌∙◌}
use mathlib.Core.List.{List, [], ◌∷◌}
use mathlib.Core.Bool.{cond}
use mathlib.Core.Option.{Option, none, some}
use native.Mathlib.Omega.{arith}
use lib.Dec.{ltb, leb}
use lib.ListN.{length, drop, length-drop, length-append}
use lib.Seq.{drop-drop}
use borrow.Author.Tests.{le-ltb, le-leb, lt-leb, ltb-true, ltb-false}
use Rattle.paper.specs.Limits.{Limits}
use Rattle.lines.proofs.Tests.{split}
use Rattle.model.specs.Model.{Model, symbol, empty, sequence, choice, star, maybe, plus, symbols, places}
use Rattle.model.specs.Postfix.{push, single, read}
use Rattle.model.specs.declared.Token.{Token}
use Rattle.model.specs.declared.Token.TheVariants.{Symbol, Empty, Comma, Bar, Star, Query, Plus}
use Rattle.postfix.specs.Token.{parts, token_of, one, token_at}
use Rattle.postfix.specs.Steps.{takes, adds}
use Rattle.postfix.specs.Field.{ahead, tokens_of, written, model_in, content_of}
use Rattle.std.specs.Prelude.{Some, None}
use Rattle.postfix.specs.declared.Reading.{Reading}
use Rattle.postfix.specs.declared.Reading.TheVariants as reading
use Rattle.postfix.proofs.Parts.{front, behind, parts_cut, front_short}

-- how many places a stack has
unfoldable pub total : List Model → ℕ
total [] = 0
total (m ∷ st) = places m + total st

-- a token that finds its models leaves one more than it does not take, and adds its places; else there is no stack
abbrev pub Pushed : Token → List Model → Type 0
Pushed t st = (next : List Model) × (push t st ≡ some next) × (length next + takes t ≡ length st + 1) × (total next ≡ total st + adds t)

pub pushed : (t : Token) (st : List Model) → takes t ≤ length st → Pushed t st
unfolding takes adds total
pushed (Symbol a) st h = (symbol a ∷ st, refl, omega arith, omega arith)
pushed Empty st h = (empty ∷ st, refl, omega arith, omega arith)
pushed Comma [] h = absurd (omega arith)
pushed Comma (r ∷ []) h = absurd (omega arith)
pushed Comma (r ∷ (l ∷ st)) h = (sequence l r ∷ st, refl, omega arith, omega (arith, length-append (symbols l) (symbols r)))
pushed Bar [] h = absurd (omega arith)
pushed Bar (r ∷ []) h = absurd (omega arith)
pushed Bar (r ∷ (l ∷ st)) h = (choice l r ∷ st, refl, omega arith, omega (arith, length-append (symbols l) (symbols r)))
pushed Star [] h = absurd (omega arith)
pushed Star (m ∷ st) h = (star m ∷ st, refl, omega arith, omega arith)
pushed Query [] h = absurd (omega arith)
pushed Query (m ∷ st) h = (maybe m ∷ st, refl, omega arith, omega arith)
pushed Plus [] h = absurd (omega arith)
pushed Plus (m ∷ st) h = (plus m ∷ st, refl, omega arith, omega arith)

pub missed : (t : Token) (st : List Model) → length st < takes t → push t st ≡ none
unfolding takes
missed (Symbol a) st h = absurd (omega arith)
missed Empty st h = absurd (omega arith)
missed Comma [] h = refl
missed Comma (r ∷ []) h = refl
missed Comma (r ∷ (l ∷ st)) h = absurd (omega arith)
missed Bar [] h = refl
missed Bar (r ∷ []) h = refl
missed Bar (r ∷ (l ∷ st)) h = absurd (omega arith)
missed Star [] h = refl
missed Star (m ∷ st) h = absurd (omega arith)
missed Query [] h = refl
missed Query (m ∷ st) h = absurd (omega arith)
missed Plus [] h = refl
missed Plus (m ∷ st) h = absurd (omega arith)

pub adds_one : (t : Token) → adds t ≤ 1
unfolding adds
adds_one (Symbol a) = omega arith
adds_one Empty = omega arith
adds_one Comma = omega arith
adds_one Bar = omega arith
adds_one Star = omega arith
adds_one Query = omega arith
adds_one Plus = omega arith

-- the parts that are still to be read at i
unfoldable pub left : List ℕ → ℕ → List (List ℕ)
left f i = cond (leb i (length f)) (parts (drop i f)) []

pub left_cut : (f : List ℕ) (i : ℕ) → i ≤ length f → left f i ≡ front (drop i f) ∷ left f (i + suc (length (front (drop i f))))
unfolding left behind
left_cut f i h =
    let k = length (front (drop i f)) in
    let l = length-drop i f in
    rw (le-leb i (length f) h) (parts_cut (drop i f) ∙ ap (λ q. front (drop i f) ∷ q) (split (ltb k (length (drop i f)))
    (λ t.
    let u = ltb-true k (length (drop i f)) t in
    rw (t, le-leb (i + suc k) (length f) (omega (arith, u, l))) (ap parts (drop-drop (suc k) i f)))
    (λ t.
    let u = ltb-false k (length (drop i f)) t in
    rw (t, lt-leb (i + suc k) (length f) (omega (arith, u, l))))))

pub left_end : (f : List ℕ) (i : ℕ) → length f < i → left f i ≡ []
unfolding left
left_end f i h = rw (lt-leb i (length f) h)

-- what the tokens write that follow `count` others, which left a stack
unfoldable pub going : Limits → ℕ → Option (List Token) → List Model → Option Model
going L count none st = none
going L count (some ts) st = cond (leb (count + length ts) L.tokens) (read ts st) none

module _ (L : Limits) (count : ℕ) (st : List Model) where
  going_over : (t : Token) (o : Option (List Token)) → L.tokens ≤ count → going L count (ahead (some t) o) st ≡ none
  unfolding going ahead
  going_over t none h = refl
  going_over t (some ts) h = rw (lt-leb (count + suc (length ts)) L.tokens (omega arith))

  going_short : (t : Token) (o : Option (List Token)) → push t st ≡ none → going L count (ahead (some t) o) st ≡ none
  unfolding going ahead
  going_short t none h = refl
  going_short t (some ts) h =
      split (leb (count + suc (length ts)) L.tokens) (λ u. rw (u, h)) (λ u. rw u)

  pub going_on : (t : Token) (o : Option (List Token)) (next : List Model) → push t st ≡ some next →
      going L count (ahead (some t) o) st ≡ going L (count + 1) o next
  unfolding going ahead
  going_on t none next h = refl
  going_on t (some ts) next h =
      let e : count + suc (length ts) ≡ count + 1 + length ts = omega arith in
      rw (h, e)

-- where the walk stands
pub record Reached (L : Limits) (n : ℕ) (f : List ℕ) (i count depth size : ℕ) : Type 0 where
  pub models : List Model
  pub height : length models ≡ depth
  pub sum : total models ≡ size
  pub inside : i ≤ suc (length f)
  pub few : count ≤ L.tokens
  pub low : depth ≤ count
  pub small : size ≤ count
  pub same : model_in L n f ≡ going L count (tokens_of n (left f i)) models

start_same : (L : Limits) (o : Option (List Token)) → written L o ≡ going L 0 o []
unfolding written going
start_same L none = refl
start_same L (some ts) = let e : 0 + length ts ≡ length ts = omega arith in rw e

pub reached_start : (L : Limits) (n : ℕ) (f : List ℕ) → Reached L n f 0 0 0 0
unfolding total left model_in
reached_start L n f =
    record {
      models = [];
      height = refl;
      sum = refl;
      inside = omega arith;
      few = omega arith;
      low = omega arith;
      small = omega arith;
      same = rw (le-leb 0 (length f) (omega arith)) (start_same L (tokens_of n (parts f)));
    }

-- what was read at i
options : (o : Option Token) {P : Type 0} → (o ≡ none → P) → ((t : Token) → o ≡ some t → P) → P
options none f g = f refl
options (some t) f g = g t refl

not_one : {t : Token} {i : ℕ} → reading.Bad ≡ reading.One t i → ⊥
not_one e = let z : ◌≡◌ {A = ℕ} 0 1 = cc in omega arith

module _ (n : ℕ) (f : List ℕ) (i : ℕ) (h : i ≤ length f) where
  token_first : token_at n f i ≡ one (token_of n (front (drop i f))) (i + suc (length (front (drop i f))))
  unfolding token_at front
  token_first = rw (le-ltb (length f) i h)

  pub token_given : {t : Token} {j : ℕ} → token_at n f i ≡ reading.One t j →
      (token_of n (front (drop i f)) ≡ some t) × (j ≡ i + suc (length (front (drop i f))))
  unfolding one
  token_given {t} {j} e =
      let m = sym token_first ∙ e in
      options (token_of n (front (drop i f)))
      (λ z. absurd (not_one (rw z at m)))
      (λ u z.
      let y : reading.One u (i + suc (length (front (drop i f)))) ≡ reading.One t j = rw z at m in
      let x : u ≡ t = cc in
      let w : i + suc (length (front (drop i f))) ≡ j = cc in
      (z ∙ ap some x, sym w))

  pub token_bad : ((t : Token) (j : ℕ) → token_at n f i ≡ reading.One t j → ⊥) → token_of n (front (drop i f)) ≡ none
  unfolding one
  token_bad e =
      options (token_of n (front (drop i f)))
      (λ z. z)
      (λ u z.
      let y : token_at n f i ≡ reading.One u (i + suc (length (front (drop i f)))) =
      token_first ∙ ap (λ o. one o (i + suc (length (front (drop i f))))) z in
      absurd (e u (i + suc (length (front (drop i f)))) y))

-- the stack at the end
one_left : (st : List Model) → length st ≡ 1 → Some (total st) ≡ content_of (single st)
unfolding total content_of
one_left [] e = absurd (omega arith)
one_left (m ∷ []) e = ap Some (omega arith)
one_left (m ∷ (k ∷ st)) e = absurd (omega arith)

not_left : (st : List Model) → (length st ≡ 1 → ⊥) → None ≡ content_of (single st)
unfolding content_of
not_left [] e = refl
not_left (m ∷ []) e = absurd (e refl)
not_left (m ∷ (k ∷ st)) e = refl

-- the walk's steps
module _ {L : Limits} {n : ℕ} {f : List ℕ} {i count depth size : ℕ} (g : Reached L n f i count depth size) where
  module _ (h : i ≤ length f) where
    step_same : {o : Option Token} {j : ℕ} → token_of n (front (drop i f)) ≡ o → j ≡ i + suc (length (front (drop i f))) →
        model_in L n f ≡ going L count (ahead o (tokens_of n (left f j))) g.models
    unfolding tokens_of
    step_same {o} {j} e q =
        g.same ∙ ap (λ ps. going L count (tokens_of n ps) g.models) (left_cut f i h) ∙ rw (e, ← q)

    pub reached_bad : {r : Reading} → r ≡ token_at n f i → ((t : Token) (j : ℕ) → r ≡ reading.One t j → ⊥)
        → None ≡ content_of (model_in L n f)
    unfolding content_of going ahead
    reached_bad {r} e k = rw (step_same (token_bad n f i h (λ t j z. k t j (e ∙ z))) refl)

    module _ {t : Token} {j : ℕ} (e : token_at n f i ≡ reading.One t j) where
      pub token_same : model_in L n f ≡ going L count (ahead (some t) (tokens_of n (left f j))) g.models
      token_same = let m = token_given n f i h e in step_same m.0 m.1

      pub token_past : i < j
      token_past = let m = token_given n f i h e in omega (arith, m.1)

      pub reached_over : L.tokens ≤ count → None ≡ content_of (model_in L n f)
      unfolding content_of
      reached_over z = rw (token_same ∙ going_over L count g.models t (tokens_of n (left f j)) z)

      pub reached_short : depth < takes t → None ≡ content_of (model_in L n f)
      unfolding content_of
      reached_short z =
          let m = missed t g.models (omega (arith, g.height)) in
          rw (token_same ∙ going_short L count g.models t (tokens_of n (left f j)) m)

      pub reached_more : {d s : ℕ} → count < L.tokens → takes t ≤ depth → d + takes t ≡ depth + 1 → s ≡ size + adds t →
          Reached L n f j (count + 1) d s
      reached_more {d} {s} z k p q =
          let m = pushed t g.models (omega (arith, g.height)) in
          let u = token_given n f i h e in
          record {
            models = m.0;
            height = omega (arith, m.2, g.height);
            sum = omega (arith, m.3, g.sum);
            inside = omega (arith, u.1, front_short (drop i f), length-drop i f);
            few = omega arith;
            low = omega (arith, g.low);
            small = omega (arith, g.small, adds_one t);
            same = token_same ∙ going_on L count g.models t (tokens_of n (left f j)) m.0 m.1;
          }

  pub end_same : length f < i → model_in L n f ≡ single g.models
  unfolding tokens_of going
  end_same h =
      let k : count + 0 ≤ L.tokens = omega (arith, g.few) in
      g.same ∙ ap (λ ps. going L count (tokens_of n ps) g.models) (left_end f i h)
      ∙ ap (λ t. cond t (single g.models) none) (le-leb (count + 0) L.tokens k)

  pub reached_one : length f < i → depth ≡ 1 → Some size ≡ content_of (model_in L n f)
  reached_one h z = let e = end_same h in ap Some (sym g.sum) ∙ one_left g.models (g.height ∙ z) ∙ ap content_of (sym e)

  pub reached_many : length f < i → (depth ≡ 1 → ⊥) → None ≡ content_of (model_in L n f)
  reached_many h z = let e = end_same h in not_left g.models (λ q. z (sym g.height ∙ q)) ∙ ap content_of (sym e)
