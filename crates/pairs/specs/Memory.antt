-- The work memory of the search: one slice, in which named parts stand one behind the other. First what is written before the search and
-- stays (the numbers of the receiver's states, the index of its join rules), then, a number for each pair: how far it is, the queue of
-- pairs in order of discovery, and the two numbers that say where it came from.
use Rattle.std.specs.Prelude.{ℕ, ◌+◌, ◌*◌, ◌≤◌, ◌≡◌, List, [], ◌∷◌, length, take, drop, set}
use Rattle.std.proofs.Math.Logic.{ite}
use Rattle.std.proofs.Math.Decide.{ℕ_discrete}
use Rattle.paper.specs.Limits.{at}

pub record Memory : Type 0 where
  pub size : ℕ
  pub fixed : List ℕ
  pub found : List ℕ
  pub queue : List ℕ
  pub lefts : List ℕ
  pub rights : List ℕ

-- the n numbers from o on
abbrev pub part : List ℕ → ℕ → ℕ → List ℕ
part ws o n = take n (drop o ws)

-- where the parts begin, of N pairs, what is kept of them beginning at b
abbrev pub found_at : ℕ → ℕ → ℕ
found_at b N = b

abbrev pub the_queue_at : ℕ → ℕ → ℕ
the_queue_at b N = b + N

abbrev pub the_lefts_at : ℕ → ℕ → ℕ
the_lefts_at b N = b + 2 * N

abbrev pub the_rights_at : ℕ → ℕ → ℕ
the_rights_at b N = b + 3 * N

abbrev pub end_at : ℕ → ℕ → ℕ
end_at b N = b + 4 * N

-- the parts of a slice
unfoldable pub memory : ℕ → ℕ → List ℕ → Memory
memory b N ws = record {
  size = length ws;
  fixed = take b ws;
  found = part ws (found_at b N) N;
  queue = part ws (the_queue_at b N) N;
  lefts = part ws (the_lefts_at b N) N;
  rights = part ws (the_rights_at b N) N;
}

-- how far a pair is: 0 at first, then found, then taken, which is joined with all that were taken before it
abbrev pub found_mark : ℕ
found_mark = 1

abbrev pub taken_mark : ℕ
taken_mark = 2

abbrev pub Marked : List ℕ → ℕ → Type 0
Marked xs c = 1 ≤ at xs c

abbrev pub Taken : List ℕ → ℕ → Type 0
Taken xs c = at xs c ≡ taken_mark

-- the memory with another list in one of its parts
abbrev pub with_found : Memory → List ℕ → Memory
with_found m xs = record { size = m.size; fixed = m.fixed; found = xs; queue = m.queue; lefts = m.lefts; rights = m.rights }

abbrev pub with_queue : Memory → List ℕ → Memory
with_queue m xs = record { size = m.size; fixed = m.fixed; found = m.found; queue = xs; lefts = m.lefts; rights = m.rights }

abbrev pub with_lefts : Memory → List ℕ → Memory
with_lefts m xs = record { size = m.size; fixed = m.fixed; found = m.found; queue = m.queue; lefts = xs; rights = m.rights }

abbrev pub with_rights : Memory → List ℕ → Memory
with_rights m xs = record { size = m.size; fixed = m.fixed; found = m.found; queue = m.queue; lefts = m.lefts; rights = xs }

-- the memory with the pair c put at place k of the queue, with its two numbers a and b
unfoldable pub putting : Memory → ℕ → ℕ → ℕ → ℕ → Memory
putting m k c a b = record {
  size = m.size;
  fixed = m.fixed;
  found = set m.found c found_mark;
  queue = set m.queue k c;
  lefts = set m.lefts c a;
  rights = set m.rights c b;
}

-- the memory with the pair c taken
unfoldable pub taking : Memory → ℕ → Memory
taking m c = with_found m (set m.found c taken_mark)

-- how many numbers of a list are 0
unfoldable pub zeros : List ℕ → ℕ
zeros [] = 0
zeros (x ∷ xs) = ite (ℕ_discrete x 0) 1 0 + zeros xs
