-- What the contract of the faulty line says determines it. Assumes nothing.
use Prim.Native.Nat.{ℕ}
use mathlib.Core.Path.{◌≡◌, sym, ◌∙◌}
use mathlib.Core.List.{List}
use Rattle.paper.specs.Limits.{Limits}
use Rattle.rule_part.specs.Part.{faulty_part}

pub part_unique : (L : Limits) (sender receiver : List ℕ) {a b : List ℕ} → a ≡ faulty_part L sender receiver
    → b ≡ faulty_part L sender receiver → a ≡ b
part_unique L sender receiver x y = x ∙ sym y
