-- `inclusion::witness::want` meets its contract: place by place, down from i.
use Rattle.pairs.specs.Memory.{memory}
use Rattle.inclusion.specs.Write.{Wanting}
use Rattle.inclusion.proofs.witness.want.Given as goal

abbrev pub invariant-loop-j : goal.invariant-loop-j
invariant-loop-j l = Wanting l.base l.n (memory l.base l.n l.initial.work) (memory l.base l.n l.work) l.i l.j
