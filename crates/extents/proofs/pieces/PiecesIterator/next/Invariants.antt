use Rattle.inode.specs.Walk.{weight}
use Rattle.extents.proofs.Laws.{Walked}
use Rattle.extents.proofs.pieces.PiecesIterator.next.Given as goal

abbrev pub invariant-loop-self : goal.invariant-loop-self
invariant-loop-self l = Walked l.initial.self l.self

abbrev pub decreases-loop-self : goal.decreases-loop-self
decreases-loop-self l = weight l.self.scan.at
