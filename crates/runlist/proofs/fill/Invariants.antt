-- As many runs as have been asked for are in the list.
use Rattle.transaction.specs.Volumes.{working}
use Rattle.extents.specs.Stretches.{runs_in}
use Rattle.runlist.proofs.Laws.{Filling}
use Rattle.runlist.proofs.fill.Given as goal

abbrev pub invariant-loop-k : goal.invariant-loop-k
invariant-loop-k l =
    Filling (runs_in (working l.copy) l.fn.stretch.i.n l.fn.stretch.from.0 l.fn.stretch.n) l.list l.k
