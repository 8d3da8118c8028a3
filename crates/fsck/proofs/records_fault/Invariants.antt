use Prim.Native.Nat.{◌+◌}
use mathlib.Core.Path.{◌≡◌}
use Rattle.inode.specs.Records.{lowest_to}
use Rattle.marks.specs.Marks.{Kept, reach_to}
use Rattle.marks.specs.Device.{disk_of}
use Rattle.fsck.specs.Damage.{unsound}
use Rattle.fsck.specs.Names.{Told}
use Rattle.fsck.proofs.records_fault.Given as goal

abbrev pub invariant-loop-i : goal.invariant-loop-i
invariant-loop-i l = (lowest_to (l.fn.first.n + 16) (unsound l.device.blocks (disk_of l.device)) l.fn.first.n ≡ lowest_to (l.fn.first.n + 16) (unsound l.device.blocks (disk_of l.device)) l.i)
    × Kept l.device.blocks l.marks (reach_to (disk_of l.device) (l.fn.first.n + 16) l.i) l.initial.marks (reach_to (disk_of l.device) (l.fn.first.n + 16) l.fn.first.n)
    × Told (disk_of l.device) l.names l.i
