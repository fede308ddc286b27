-- `model_sets::Stack::link` meets its contract. The loop's invariant: the positions from c on before i where a word may end are linked.
use Rattle.paper.specs.Limits.{limits}
use Rattle.model_sets.specs.Work.{joined, Changed}
use Rattle.model_sets.specs.Stack.{Same, Stays}
use Rattle.model_sets.proofs.Stack.link.Given as goal

abbrev pub invariant-loop-i : goal.invariant-loop-i
invariant-loop-i l = record {
  linked : Changed limits.states 1 (joined l.initial.self.ends.now l.initial.self.next.now l.c l.i l.a l.b) l.initial.self.next.now l.self.next.now;
  stays : Stays l.initial.self l.self;
  same : Same l.initial.self l.self;
}
