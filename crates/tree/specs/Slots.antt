-- Slots of a block.
use Rattle.std.specs.Prelude.{List, drop}
use Rattle.spec.specs.declared.Extent.{Extent}
use Rattle.spec.specs.Bytes.{exactly}
use Rattle.spec.specs.Inode.{slots_in}
use Rattle.tree.specs.declared.slots.Slots.{Slots}

-- those that are left
abbrev pub slots_left : Slots → List Extent
slots_left s = slots_in s.left (drop s.at (exactly 512 s.block.now))
