use Rattle.marks.specs.Device.{disk_of}
use native.Mathlib.Omega.{arith}
use Rattle.tree.proofs.Walks.{node_used, node_count, node_many}
use Rattle.tree.proofs.Walk.test_node.Goals as goal

pub overflow_sub-many : goal.overflow_sub-many
overflow_sub-many c = let a = c.args in omega (arith, node_used _ _ (disk_of a.self.now.device) a.f a.slot.extent _ _ c.block_at.ensures c.extents_over-r.ensures.0)

pub are_packed-packed-requires : goal.are_packed-packed-requires
are_packed-packed-requires c = let a = c.args in node_many _ _ (disk_of a.self.now.device) a.f a.slot.extent _ _ c.block_at.ensures c.extents_over-r.ensures.0

pub overflow_sub-count : goal.overflow_sub-count
overflow_sub-count c = let a = c.args in omega (arith, node_count _ _ (disk_of a.self.now.device) a.f a.slot.extent _ _ c.block_at.ensures c.extents_over-r.ensures.0)
