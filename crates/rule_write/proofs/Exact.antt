-- The writer tells exactly the refusals of `WriteRefused`. Assumes nothing.
use Prim.Native.Nat.{ℕ}
use mathlib.Core.Path.{◌≡◌, sym, ◌∙◌}
use mathlib.Core.Logic.{◌↔◌, if_pos, if_neg, by_cases}
use mathlib.Core.List.{List}
use native.Mathlib.Omega.{arith}
use lib.ListN.{length}
use Rattle.paper.specs.Limits.{Limits}
use Rattle.paper.specs.Told.{refused, written, is_refusal, after}
use Rattle.table.specs.Check.{TableRefused, Sound}
use Rattle.table.proofs.Exact.{Verdict, is_refused, is_sound, verdict, refused_exactly, passes_exactly}
use Rattle.rule_write.specs.Write.{table_text_of, NoRoom, no_room?, write_told, WriteRefused, bad_table, short_slice}

module _ (L : Limits) (symbols : ℕ) (ms xs O : List ℕ) where
  of_table : {n s p : ℕ} → TableRefused L symbols ms xs n s p → write_told L symbols ms xs O ≡ refused n s p
  unfolding write_told after is_refusal
  of_table {n} {s} {p} t = rw ((refused_exactly L symbols ms xs n s p).1 t)

  of_short : Sound L symbols ms xs → NoRoom L O → write_told L symbols ms xs O ≡ refused 1 0 0
  unfolding write_told after is_refusal
  of_short g h = rw ((passes_exactly L symbols ms xs).1 g) (if_pos (no_room? L O) h _ _)

  of_room : Sound L symbols ms xs → ¬ NoRoom L O → write_told L symbols ms xs O ≡ written (length (table_text_of L.width symbols ms xs))
  unfolding write_told after is_refusal
  of_room g h = rw ((passes_exactly L symbols ms xs).1 g) (if_neg (no_room? L O) h _ _)

  same : {n s p n' s' p' : ℕ} → refused n s p ≡ refused n' s' p' → WriteRefused L symbols ms xs O n s p → WriteRefused L symbols ms xs O n' s' p'
  same {n} {s} {p} {n'} {s'} {p'} e w =
      let a : n ≡ n' = cc in
      let b : s ≡ s' = cc in
      let c : p ≡ p' = cc in
      rw (a, b, c) at w

  not_written : {n s p k : ℕ} → written k ≡ refused n s p → ⊥
  not_written e = let z : ◌≡◌ {A = ℕ} 0 1 = cc in omega arith

  from : {n s p : ℕ} → WriteRefused L symbols ms xs O n s p → write_told L symbols ms xs O ≡ refused n s p
  from (bad_table t) = of_table t
  from (short_slice g h) = of_short g h

  pub write_refused_exactly : (n s p : ℕ) → (write_told L symbols ms xs O ≡ refused n s p) ↔ WriteRefused L symbols ms xs O n s p
  write_refused_exactly n s p = (λ e. to e (verdict L symbols ms xs), from)
    where
      to : write_told L symbols ms xs O ≡ refused n s p → Verdict L symbols ms xs → WriteRefused L symbols ms xs O n s p
      to e (is_refused t) = same (sym (of_table t) ∙ e) (bad_table t)
      to e (is_sound g) = by_cases (no_room? L O)
          (λ h. same (sym (of_short g h) ∙ e) (short_slice g h))
          (λ h. absurd (not_written (sym (of_room g h) ∙ e)))
