use mathlib.Core.Path.{◌≡◌}
use lib.ListN.{length}
use Rattle.extents.specs.Pieces.{pieces_left}
use Rattle.extents.specs.Runs.{runs_left}
use Rattle.extents.proofs.RunsIterator.next.Given as goal

abbrev pub invariant-loop-piece : goal.invariant-loop-piece
invariant-loop-piece l = runs_left l.initial.self ≡ runs_left l.self

abbrev pub decreases-loop-piece : goal.decreases-loop-piece
decreases-loop-piece l = length (pieces_left l.self.pieces)
