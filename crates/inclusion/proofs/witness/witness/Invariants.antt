-- `inclusion::witness::witness` meets its contract: place by place, up to i; at the end the nodes are the witness.
use Rattle.pairs.specs.Memory.{memory}
use Rattle.inclusion.proofs.WriteLaws.{Writing}
use Rattle.inclusion.proofs.witness.witness.Given as goal

abbrev pub invariant-loop-j : goal.invariant-loop-j
invariant-loop-j l = Writing (memory l.base l.n l.initial.work) (memory l.base l.n l.work) l.initial.out l.out l.i l.m l.j
