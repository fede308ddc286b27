-- Places told apart: each symbol of a model is replaced by the number of its place, counted from the left.
use Prim.Native.Nat.{ℕ, ◌+◌, ◌≤◌, ◌<◌}
use native.Mathlib.Omega.{arith}
use lib.ListN.{length, length-append}
use Rattle.model.specs.Model.{Model, symbol, empty, sequence, choice, star, maybe, plus, symbols, mark}
use Rattle.model.proofs.Families.{Has, h_here, h_seq_l, h_seq_r, h_alt_l, h_alt_r, h_star, h_opt, h_plus, Linear, li_symbol, li_empty, li_seq, li_alt, li_star, li_opt, li_plus, Apart}

-- The places of a part of a model are an interval.
pub record Inside (from size x : ℕ) : Type 0 where
  pub low : from ≤ x
  pub high : x < from + size

inside_l : {f a x : ℕ} (b : ℕ) → Inside f a x → Inside f (a + b) x
inside_l b h = record { low = omega arith; high = omega arith }

inside_r : {b x : ℕ} (f a : ℕ) → Inside (f + a) b x → Inside f (a + b) x
inside_r f a h = record { low = omega arith; high = omega arith }

pub has_inside : (m : Model) (f : ℕ) {x : ℕ} → Has (mark f m) x → Inside f (length (symbols m)) x
has_inside (symbol a) f h_here = record { low = omega arith; high = omega arith }
has_inside empty f p = elim p [ ]
has_inside (sequence l r) f (h_seq_l p) = rw length-append (inside_l (length (symbols r)) (has_inside l f p))
has_inside (sequence l r) f (h_seq_r p) = rw length-append (inside_r f (length (symbols l)) (has_inside r (f + length (symbols l)) p))
has_inside (choice l r) f (h_alt_l p) = rw length-append (inside_l (length (symbols r)) (has_inside l f p))
has_inside (choice l r) f (h_alt_r p) = rw length-append (inside_r f (length (symbols l)) (has_inside r (f + length (symbols l)) p))
has_inside (star m) f (h_star p) = has_inside m f p
has_inside (maybe m) f (h_opt p) = has_inside m f p
has_inside (plus m) f (h_plus p) = has_inside m f p

apart : (l r : Model) (f : ℕ) → Apart (mark f l) (mark (f + length (symbols l)) r)
apart l r f x p q = go (has_inside l f p) (has_inside r (f + length (symbols l)) q)
  where
    go : Inside f (length (symbols l)) x → Inside (f + length (symbols l)) (length (symbols r)) x → ⊥
    go a b = omega arith

pub mark_linear : (m : Model) (f : ℕ) → Linear (mark f m)
mark_linear (symbol a) f = li_symbol
mark_linear empty f = li_empty
mark_linear (sequence l r) f = li_seq (mark_linear l f) (mark_linear r _) (apart l r f)
mark_linear (choice l r) f = li_alt (mark_linear l f) (mark_linear r _) (apart l r f)
mark_linear (star m) f = li_star (mark_linear m f)
mark_linear (maybe m) f = li_opt (mark_linear m f)
mark_linear (plus m) f = li_plus (mark_linear m f)
