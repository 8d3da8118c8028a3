use Rattle.alloc.proofs.Laws.{Filling}
use Rattle.alloc.proofs.take_nodes.Given as goal

abbrev pub invariant-loop : goal.invariant-loop
invariant-loop l = Filling l.initial.t.bytes l.t.bytes l.held l.wanted l.counter l.nodes
