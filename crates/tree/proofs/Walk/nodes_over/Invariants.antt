use mathlib.Core.Path.{◌≡◌}
use mathlib.Core.Bool.{false}
use Rattle.marks.specs.Device.{disk_of}
use Rattle.tree.specs.Slots.{slots_left}
use Rattle.tree.proofs.Walks.{Noding}
use Rattle.tree.proofs.Walk.nodes_over.Given as goal

abbrev pub invariant-loop-slot : goal.invariant-loop-slot
invariant-loop-slot l =
    (l.slot-iterator.done ≡ false) × Noding l.self.device.blocks l.self.last.0 (disk_of l.self.device) l.marks l.f (slots_left l.slot-iterator.iter) l.initial.marks (slots_left l.slots)
