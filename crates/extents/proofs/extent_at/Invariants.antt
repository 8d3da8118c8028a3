use mathlib.Core.Path.{◌≡◌}
use lib.ListN.{drop}
use Rattle.spec.specs.Inode.{blocks_in}
use Rattle.transaction.specs.Volumes.{working}
use Rattle.inode.specs.Walk.{rest, weight}
use Rattle.extents.proofs.extent_at.Given as goal

-- as many blocks as are left to pass lie between the cursor and the block that is sought
abbrev pub invariant-loop-step : goal.invariant-loop-step
invariant-loop-step l = drop l.left (blocks_in (rest (working l.copy) l.record_block.0 l.at)) ≡ drop l.initial.left (blocks_in (rest (working l.copy) l.record_block.0 l.initial.at))

abbrev pub decreases-loop-step : goal.decreases-loop-step
decreases-loop-step l = weight l.at
