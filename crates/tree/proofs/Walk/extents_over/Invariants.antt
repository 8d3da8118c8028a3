use mathlib.Core.Path.{◌≡◌}
use mathlib.Core.Bool.{false}
use Rattle.tree.specs.Slots.{slots_left}
use Rattle.tree.proofs.Walks.{Going}
use Rattle.tree.proofs.Walk.extents_over.Given as goal

abbrev pub invariant-loop-slot : goal.invariant-loop-slot
invariant-loop-slot l =
    (l.slot-iterator.done ≡ false) × Going l.self.device.blocks l.self.last.0 l.marks l.q (slots_left l.slot-iterator.iter) l.initial.marks l.fn.r (slots_left l.slots) l.slots.left
