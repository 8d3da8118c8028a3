use mathlib.Core.Path.{refl}
use native.Mathlib.Omega.{arith}
use Rattle.inode.proofs.Walk.{live-left, live_inside, slot_of, step-node, step_end}
use Rattle.inode.proofs.Cursor.enter.Goals as goal

pub returns-then-not-is_live : goal.returns-then-not-is_live
returns-then-not-is_live c = λ v tb x n. step_end v tb _ _ _ n (slot_of _ _ _ _ x c.slot-t.ensures) c.is_live.ensures c.if-not-is_live.true

pub overflow_add-then : goal.overflow_add-then
overflow_add-then c = omega (arith, live_inside _ _ _ _ _ c.slot-t.ensures c.is_live.ensures c.if-not-is_live.false)

pub overflow_sub-then : goal.overflow_sub-then
overflow_sub-then c = live-left _ _ _ c.is_live.ensures c.if-not-is_live.false

pub returns : goal.returns
returns c = λ v tb x n. (step-node v tb _ _ _ n (slot_of _ _ _ _ x c.slot-t.ensures) c.is_live.ensures c.if-not-is_live.false, refl)
