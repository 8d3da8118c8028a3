use lib.ListN.{take}
use Rattle.transaction.specs.Volumes.{working}
use Rattle.extents.specs.Pieces.{pieces_left}
use Rattle.alloc.specs.Parts.{data_at}
use Rattle.alloc.proofs.Laws.{Keeping}
use Rattle.alloc.proofs.keep.Given as goal

abbrev pub invariant-loop-e : goal.invariant-loop-e
invariant-loop-e l = Keeping (take l.fn.wanted (data_at (working l.copy) l.fn.i.n)) (pieces_left l.e-iterator) l.extents l.n
