-- What is told of a sound table by the first of 7, 8 and 9, and what the lent slice then holds. Assumes nothing.
use Prim.Native.Nat.{ℕ, ◌+◌, ◌*◌, ◌/◌, ◌<◌}
use mathlib.Core.Path.{◌≡◌, refl, sym, ◌∙◌}
use mathlib.Core.Logic.{⊎_elim, by_cases}
use mathlib.Core.List.{List}
use native.Mathlib.Decide.{ℕ_discrete}
use native.Mathlib.Omega.{arith}
use lib.ListN.{length}
use Rattle.std.specs.Prelude.{Some, None}
use Rattle.paper.specs.Limits.{Limits, at}
use Rattle.paper.specs.Told.{refused, passes, is_refusal}
use Rattle.paper.specs.First.{FirstWrong, NoneWrong}
use Rattle.paper.proofs.ToldLaws.{refused_not_passes}
use Rattle.table.specs.Check.{table_checked, Sound}
use Rattle.table.proofs.Exact.{refused_exactly}
use Rattle.receiver.specs.Receiver.{LeftSideAgain, BreaksSorts, NotSingle, TwoReached}
use Rattle.receiver.specs.Numbers.{NumbersOf, numbers_each, numbers_size}
use Rattle.receiver.specs.Check.{ReceiverChecked, is_refused, is_passed, of_table_of, left_side, sorts, reaches}
use Rattle.factorized.specs.Factored.{Factored}
use Rattle.factorized.specs.Work.{InRange, AllNumbered, Received, Copied}
use Rattle.factorized.proofs.RangeLaws.{in_range_lem, reach_sink}

-- the sink's ε reach is single
two_sink : (L : Limits) (ms xs : List ℕ) (P : ℕ → Type 0) → 0 < L.width → InRange L xs (length ms) → ¬ TwoReached L xs P (length ms)
two_sink L ms xs P positive range (q, r, d, (x, (y, (a, b)))) =
    d (reach_sink L xs positive range a ∙ sym (reach_sink L xs positive range b))

pub sink_single : (L : Limits) (ms xs : List ℕ) → 0 < L.width → InRange L xs (length ms) → ¬ NotSingle L ms xs (length ms)
sink_single L ms xs positive range = ⊎_elim (two_sink L ms xs _ positive range) (two_sink L ms xs _ positive range)

module _ (L : Limits) (ms xs ns : List ℕ) where
  pub received_again : {i : ℕ} → length ns ≡ numbers_size L.states → FirstWrong (LeftSideAgain L xs) (length xs / L.width) i
      → Received L ms xs ns (refused 7 0 (i + 1))
  received_again e f = record {
    checked = λ symbols s. is_refused (left_side s f);
    long = e;
    numbers = λ z. absurd (refused_not_passes z);
  }

  module _ (sides : NoneWrong (LeftSideAgain L xs) (length xs / L.width)) where
    pub received_unsorted : {k : ℕ} → length ns ≡ numbers_size L.states → FirstWrong (BreaksSorts L ms xs) (length xs / L.width) k
        → Received L ms xs ns (refused 8 0 (k + 1))
    received_unsorted e f = record {
      checked = λ symbols s. is_refused (sorts s sides f);
      long = e;
      numbers = λ z. absurd (refused_not_passes z);
    }

    module _ (sorted : NoneWrong (BreaksSorts L ms xs) (length xs / L.width)) where
      pub received_split : {p : ℕ} → 0 < L.width → AllNumbered L ms xs (Some p) ns → Received L ms xs ns (refused 9 0 (p + 1))
      received_split {p} positive all = record {
        checked = λ symbols s. is_refused (reaches s sides sorted (record {
          inside = inside symbols s;
          wrong = all.first.wrong;
          before = all.first.before;
        }));
        long = all.long;
        numbers = λ z. absurd (refused_not_passes z);
      }
        where
          inside : (symbols : ℕ) → Sound L symbols ms xs → p < length ms
          inside symbols s = by_cases (ℕ_discrete p (length ms))
              (λ e. absurd (sink_single L ms xs positive (in_range_lem L positive s) (rw e at all.first.wrong)))
              (λ d. omega (arith, all.first.inside))

      pub received_single : AllNumbered L ms xs None ns → Received L ms xs ns passes
      received_single all = record {
        checked = λ symbols s. is_passed s (record {
          left_sides_of = sides;
          sorts = sorted;
          single = λ q l. all.first q (omega arith);
        });
        long = all.long;
        numbers = λ _. all.numbers refl;
      }

module _ (L : Limits) (symbols : ℕ) (ms xs os : List ℕ) where
  -- a refusal leaves the lent slice as it was
  kept : {n s p : ℕ} → ReceiverChecked L symbols ms xs (refused n s p) → Factored L symbols ms xs os os (refused n s p)
  kept c = record {
    checked = c;
    numbers = λ e. absurd (refused_not_passes e);
    size = refl;
    rest = refl;
    refusal = λ _. refl;
    short = λ _. refl;
  }

  pub factored_table : {n s p : ℕ} → table_checked L symbols ms xs ≡ refused n s p → Factored L symbols ms xs os os (refused n s p)
  factored_table {n} {s} {p} e = kept (is_refused (of_table_of ((refused_exactly L symbols ms xs n s p).0 e)))

  module _ {ns : List ℕ} (sound : Sound L symbols ms xs) where
    pub factored_refused : {n s p : ℕ} → Received L ms xs ns (refused n s p) → Factored L symbols ms xs os os (refused n s p)
    factored_refused told = kept (told.checked symbols sound)

    pub factored_passes : (os' : List ℕ) → Received L ms xs ns passes → Copied ns (numbers_size (length ms)) os os'
        → Factored L symbols ms xs os os' passes
    unfolding is_refusal
    factored_passes os' told c = record {
      checked = told.checked symbols sound;
      numbers = λ _ h. numbers_copied (c.front h) (told.numbers refl);
      size = c.size;
      rest = c.rest;
      refusal = λ z. cc;
      short = c.short;
    }
      where
        numbers_copied : ((i : ℕ) → i < numbers_size (length ms) → at os' i ≡ at ns i) → NumbersOf L ms xs ns → NumbersOf L ms xs os'
        numbers_copied e n = record {
          lefts = λ p h. rw (e (numbers_each * p + 0) (omega arith)) (n.lefts p h);
          rights = λ p h. rw (e (numbers_each * p + 1) (omega arith)) (n.rights p h);
          ends = λ p h. rw (e (numbers_each * p + 2) (omega arith)) (n.ends p h);
          bits = λ p h. rw (e (numbers_each * p + 2) (omega arith)) (n.bits p h);
        }
