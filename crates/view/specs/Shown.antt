-- A view: a table's symbol count, its state marks and its rules, in place; and the table that it shows.
use Rattle.std.specs.Prelude.{ℕ, List}
use Rattle.std.specs.Borrow.{Bor}
use Rattle.inclusion.specs.Inclusion.{Lent, lent}
use Rattle.view.specs.declared.View.{View}

-- the view of a symbol count and two slices: it holds the slices themselves
abbrev pub view_of : ℕ → Bor (List ℕ) → Bor (List ℕ) → View
view_of symbols ms xs = record { symbols = symbols; marks = ms; rules = xs }

-- the table that a view shows: what its slices hold
abbrev pub lent_of : View → Lent
lent_of t = lent t.symbols t.marks.now t.rules.now
