-- The limits of tables, trees and texts, each named once, which definitions and laws take as parameters; the kinds of a rule; and reading
-- a number of a list.
use Rattle.std.specs.Prelude.{ℕ, List, get_or}

pub record Limits : Type 0 where
  -- at most so many symbols, states and rules has a table, and so many numbers has a rule
  pub symbols : ℕ
  pub states : ℕ
  pub rules : ℕ
  pub width : ℕ
  -- at most so many nodes has a tree
  pub nodes : ℕ
  -- so many bytes has a slice for a rule text
  pub text : ℕ
  -- at most so many tokens has a model
  pub tokens : ℕ
  -- programs read at most so many bytes of a text
  pub input : ℕ

-- the limits of the paper
abbrev pub limits : Limits
limits = record { symbols = 40; states = 60; rules = 600; width = 4; nodes = 3660; text = 8192; tokens = 200; input = 32768 }

-- number i of a list of numbers, 0 behind its end
abbrev pub at : List ℕ → ℕ → ℕ
at xs i = get_or xs i 0

-- the kinds of a rule
abbrev pub leaf_kind : ℕ
leaf_kind = 0

abbrev pub join_kind : ℕ
join_kind = 1

abbrev pub eps_kind : ℕ
eps_kind = 2
