use Prim.Native.Nat.{◌+◌}
use native.Mathlib.Omega.{arith}
use Rattle.tree.proofs.Reading.{slot_read}
use Rattle.tree.proofs.slots.Slot.in_block.Goals as goal

pub returns : goal.returns
returns c = let a = c.args in slot_read a.block.now a.at _ c.requires c.load4-n.ensures (omega (arith, c.type_inv.block a.at, c.type_inv.block (a.at + 1)))
