-- What the two checks say of the tables, and that the work memory is then prepared. Assumes nothing.
use Prim.Native.Nat.{ℕ, ◌+◌, ◌*◌, ◌-◌, ◌≤◌}
use mathlib.Core.Path.{◌≡◌, sym, ap, ◌∙◌}
use mathlib.Core.List.{List}
use native.Mathlib.Nat.{mul-le-mul}
use native.Mathlib.Omega.{arith}
use lib.ListN.{length, replicate, length-replicate}
use lib.Seq.{get_or-drop}
use Rattle.bits.proofs.Sets.{zeros_at}
use Rattle.paper.specs.Limits.{limits, at}
use Rattle.std.specs.Prelude.{Ok, Err}
use Rattle.paper.specs.Told.{Checked, check_told}
use Rattle.paper.specs.declared.Refusal.{Refusal}
use Rattle.table.specs.Check.{table_checked, TableRefused, Sound}
use Rattle.table.proofs.Exact.{refused_exactly, passes_exactly}
use Rattle.table.proofs.Range.{states_few}
use Rattle.receiver.specs.Receiver.{Receives}
use Rattle.receiver.specs.Numbers.{numbers_size}
use Rattle.receiver.specs.Check.{ReceiverRefused}
use Rattle.factorized.specs.Factored.{Factored}
use Rattle.factorized.proofs.Exact.{receiver_refused_exactly, receiver_passes_exactly}
use Rattle.inclusion.specs.Prepare.{Prepared, work_size_of}

module _ {symbols : ℕ} {ms xs : List ℕ} {t : Checked} (e : check_told t ≡ table_checked limits symbols ms xs) where
  pub table_refused : (f : Refusal) → t ≡ Err f → TableRefused limits symbols ms xs f.number f.side f.place
  table_refused f d = (refused_exactly limits symbols ms xs _ _ _).0 (sym e ∙ ap check_told d)

  pub table_good : t ≡ Ok tt → Sound limits symbols ms xs
  table_good d = (passes_exactly limits symbols ms xs).0 (sym e ∙ ap check_told d)

module _ {symbols : ℕ} {ms xs os os' : List ℕ} {t : Checked} (f : Factored limits symbols ms xs os os' (check_told t)) where
  pub factor_refused : (r : Refusal) → t ≡ Err r → ReceiverRefused limits symbols ms xs r.number r.side r.place
  factor_refused r d = (receiver_refused_exactly limits symbols ms xs (check_told t) f.checked _ _ _).0 (ap check_told d)

  pub factor_good : t ≡ Ok tt → Sound limits symbols ms xs × Receives limits ms xs
  factor_good d = (receiver_passes_exactly limits symbols ms xs (check_told t) f.checked).0 (ap check_told d)

  pub factor_prepared : t ≡ Ok tt → os ≡ replicate work_size_of 0 → Prepared ms xs os'
  factor_prepared d z =
      let few = states_few limits (factor_good d).0 in
      let long : length os ≡ work_size_of = ap (λ (l : List ℕ). length l) z ∙ length-replicate {A = ℕ} work_size_of 0 in
      let k = numbers_size (length ms) in
      record {
        size = f.size ∙ long;
        numbers = f.numbers (ap check_told d) (omega arith);
        clear = λ i h.
            ap (λ (j : ℕ). at os' j) (omega arith) ∙ sym (get_or-drop k os' (i - k) 0)
            ∙ ap (λ (l : List ℕ). at l (i - k)) f.rest
            ∙ get_or-drop k os (i - k) 0
            ∙ ap (λ (l : List ℕ). at l (k + (i - k))) z
            ∙ zeros_at work_size_of (k + (i - k));
      }

-- the product of two counts of states fits
pub product_small : (a b : ℕ) → a ≤ limits.states → b ≤ limits.states → a * (b + 1) ≤ limits.states * (limits.states + 1)
product_small a b h k = let l : b + 1 ≤ limits.states + 1 = omega arith in mul-le-mul h l
