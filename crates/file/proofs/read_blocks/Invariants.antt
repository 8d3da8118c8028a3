use lib.ListN.{length, take, drop}
use Rattle.transaction.specs.Volumes.{working}
use Rattle.extents.specs.Pieces.{pieces_left}
use Rattle.file.specs.Bytes.{block_bytes}
use Rattle.file.proofs.Reading.{Under}
use Rattle.file.proofs.read_blocks.Given as goal

abbrev pub invariant-loop-run : goal.invariant-loop-run
invariant-loop-run l =
    Under (working l.copy) (take (length l.initial.to) (drop l.fn.x.0 (block_bytes (working l.copy) l.fn.i.n))) l.initial.to l.to (pieces_left l.run-iterator) l.skip l.done
