use Rattle.alloc.proofs.Laws.{Taking}
use Rattle.alloc.proofs.take_data.Given as goal

abbrev pub invariant-loop : goal.invariant-loop
invariant-loop l = Taking l.initial.t.bytes l.t.bytes l.initial.extents l.extents l.from l.n l.counter
