use Rattle.transaction.specs.Volumes.{working}
use Rattle.std.specs.Iterator.Adapters.{enumerate_source, enumerate_count}
use Rattle.extents.specs.Stretches.{runs_in}
use Rattle.extents.specs.Runs.{runs_left}
use Rattle.capi.proofs.Laws.{Filling}
use Rattle.capi.proofs.put_runs.Given as goal

abbrev pub invariant-loop-k : goal.invariant-loop-k
invariant-loop-k l =
    Filling (runs_in (working l.copy) l.fn.stretch.i.n l.fn.stretch.from.0 l.fn.stretch.n) l.initial.list l.list
    (runs_left (enumerate_source l.k-iterator)) (enumerate_count l.k-iterator)
