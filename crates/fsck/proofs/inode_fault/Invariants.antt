use Prim.Native.Nat.{◌*◌}
use mathlib.Core.Path.{◌≡◌}
use Rattle.spec.specs.Inode.{reached}
use Rattle.inode.specs.Records.{lowest_to}
use Rattle.marks.specs.Marks.{Kept, reach_to}
use Rattle.marks.specs.Device.{disk_of}
use Rattle.fsck.specs.Damage.{unsound}
use Rattle.fsck.specs.Names.{Told}
use Rattle.fsck.proofs.inode_fault.Given as goal

abbrev pub invariant-loop-k : goal.invariant-loop-k
invariant-loop-k l = (lowest_to 128 (unsound l.device.blocks (disk_of l.device)) 0 ≡ lowest_to 128 (unsound l.device.blocks (disk_of l.device)) (16 * l.k))
    × Kept l.device.blocks l.marks (reach_to (disk_of l.device) 128 (16 * l.k)) l.initial.marks (reached (disk_of l.device))
    × Told (disk_of l.device) l.names (16 * l.k)
