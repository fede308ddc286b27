-- An M line taken apart: the code's steps, and what is known of a line that was. Assumes nothing.
use Prim.Native.Nat.{ℕ, ◌+◌, ◌-◌, ◌≤◌, ◌<◌}
use mathlib.Core.Path.{◌≡◌, ap, sym, ◌∙◌}
use mathlib.Core.List.{List}
use native.Mathlib.Omega.{arith}
use lib.Dec.{eqb}
use lib.ListN.{length, get_or-eq_default}
use borrow.Author.Tests.{eq-eqb, ne_eqb, eqb-true, eqb-false}
use Rattle.paper.specs.Limits.{at}
use Rattle.lines.specs.Lines.{tab, lf}
use Rattle.lines.specs.Fields.{field}
use Rattle.std.specs.Prelude.{Some, None, Ok, Err}
use Rattle.std.proofs.lemmas.Option.{some_pair_parts}
use Rattle.lines.proofs.Tests.{split}
use Rattle.lines.proofs.Places.{within}
use Rattle.lines.proofs.FieldLaws.{numbers}
use Rattle.model_line.specs.Line.{Cut, letter_m, field_behind, split_of}

module _ (x : List ℕ) where
  pub split_empty : length x ≡ 0 → None ≡ split_of x
  unfolding split_of
  split_empty h = let e : at x 0 ≡ 0 = get_or-eq_default x 0 {n = 0} (omega arith) in rw e

  pub split_letter : (at x 0 ≡ letter_m → ⊥) → None ≡ split_of x
  unfolding split_of
  split_letter h = rw (ne_eqb (at x 0) letter_m h)

  module _ (m : at x 0 ≡ letter_m) where
    pub split_open : (at x (length x - 1) ≡ lf → ⊥) → None ≡ split_of x
    unfolding split_of
    split_open h = rw (eq-eqb (at x 0) letter_m m, ne_eqb (at x (length x - 1)) lf h)

    module _ (l : at x (length x - 1) ≡ lf) where
      split_behind : field_behind x (field x 1) ≡ split_of x
      unfolding split_of
      split_behind = rw (eq-eqb (at x 0) letter_m m, eq-eqb (at x (length x - 1)) lf l)

      pub split_bad : {i : ℕ} → field x 1 ≡ Err i → None ≡ split_of x
      unfolding field_behind
      split_bad {i} e = ap (field_behind x) (sym e) ∙ split_behind

      module _ {a i : ℕ} (e : field x 1 ≡ Ok (a, i)) where
        split_value : field_behind x (Ok (a, i)) ≡ split_of x
        split_value = ap (field_behind x) (sym e) ∙ split_behind

        pub split_tab : (at x i ≡ tab → ⊥) → None ≡ split_of x
        unfolding field_behind
        split_tab h = rw (ne_eqb (at x i) tab h) at split_value

        pub split_short : length x ≤ i → None ≡ split_of x
        split_short h =
            let z : at x i ≡ 0 = get_or-eq_default x 0 {n = i} h in
            split_tab (λ t. omega arith)

        pub split_found : at x i ≡ tab → Some (a, i + 1) ≡ split_of x
        unfolding field_behind
        split_found h = rw (eq-eqb (at x i) tab h) at split_value

-- what is known of the line x where its symbol is a and its token field begins at i
pub record Apart (x : List ℕ) (a i : ℕ) : Type 0 where
  pub letter : at x 0 ≡ letter_m
  pub last : at x (length x - 1) ≡ lf
  pub end : ℕ
  pub number : field x 1 ≡ Ok (a, end)
  pub parted : at x end ≡ tab
  pub from : i ≡ end + 1
  pub room : i < length x

pub not_field : {a i : ℕ} → ◌≡◌ {A = Cut} None (Some (a, i)) → ⊥
not_field e = let z : ◌≡◌ {A = ℕ} 0 1 = cc in omega arith

apart : (x : List ℕ) (a i e : ℕ) → at x 0 ≡ letter_m → at x (length x - 1) ≡ lf → field x 1 ≡ Ok (a, e) → at x e ≡ tab → i ≡ e + 1 →
    Apart x a i
apart x a i e m l q t f =
    let w : e < length x = within x e (omega arith) in
    record {
      letter = m;
      last = l;
      end = e;
      number = q;
      parted = t;
      from = f;
      room =
          split (eqb e (length x - 1))
          (λ u. let z = ap (at x) (eqb-true e (length x - 1) u) in absurd (omega (arith, z, t, l)))
          (λ u. omega (arith, eqb-false e (length x - 1) u, w, f));
    }

pub split_shown : (x : List ℕ) {a i : ℕ} → split_of x ≡ Some (a, i) → Apart x a i
unfolding split_of field_behind
split_shown x {a} {i} h =
    split (eqb (at x 0) letter_m)
    (λ t. split (eqb (at x (length x - 1)) lf)
    (λ u. numbers (field x 1)
    (λ b e q. split (eqb (at x e) tab)
    (λ v.
    let z = some_pair_parts _ _ _ _ (rw (t, u, q, v) at h) in
    let y : b ≡ a = z.0 in
    let w : e + 1 ≡ i = z.1 in
    let m = eqb-true (at x 0) letter_m t in
    let l = eqb-true (at x (length x - 1)) lf u in
    apart x a i e m l (q ∙ ap (λ c. Ok (c, e)) y) (eqb-true (at x e) tab v) (sym w))
    (λ v. absurd (not_field (rw (t, u, q, v) at h))))
    (λ e q. absurd (not_field (rw (t, u, q) at h))))
    (λ u. absurd (not_field (rw (t, u) at h))))
    (λ t. absurd (not_field (rw t at h)))
