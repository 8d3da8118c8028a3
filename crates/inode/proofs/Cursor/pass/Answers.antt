use mathlib.Core.Path.{refl}
use native.Mathlib.Omega.{arith}
use Rattle.inode.proofs.Walk.{live-left, live_inside, slot_of, step-leaf, no-leaf}
use Rattle.inode.proofs.Cursor.pass.Goals as goal

pub returns-then-not-is_live : goal.returns-then-not-is_live
returns-then-not-is_live c = λ v tb x. no-leaf v _ _ _ _ _ (slot_of _ _ _ _ x c.slot-e.ensures) c.is_live.ensures c.if-not-is_live.true

pub overflow_add-then : goal.overflow_add-then
overflow_add-then c = omega (arith, live_inside _ _ _ _ _ c.slot-e.ensures c.is_live.ensures c.if-not-is_live.false)

pub overflow_sub-then : goal.overflow_sub-then
overflow_sub-then c = live-left _ _ _ c.is_live.ensures c.if-not-is_live.false

pub returns : goal.returns
returns c = λ v tb x. (step-leaf v tb _ _ _ (slot_of _ _ _ _ x c.slot-e.ensures) c.is_live.ensures c.if-not-is_live.false, refl)
