use native.Mathlib.Omega.{arith}
use Rattle.transaction.specs.Volumes.{working}
use Rattle.extents.proofs.Laws.{held-past, seek-hit, seek-past, seek-end}
use Rattle.extents.proofs.extent_at.Goals as goal

pub returns-then-place-ge-MAX_FILE_BLOCKS : goal.returns-then-place-ge-MAX_FILE_BLOCKS
returns-then-place-ge-MAX_FILE_BLOCKS c = held-past _ _ _ c.if-place-ge-MAX_FILE_BLOCKS.true

pub returns-then-left-count : goal.returns-then-left-count
returns-then-left-count c =
    seek-hit _ _ _ _ c.table_block-record_block.ensures _ (c.start_at-at.ensures (working c.args.copy.now) c.inode_block.ensures.0) _ _ c.loop-step.invariant
    _ _ (rw c.in-Leaf.is at c.in-Some.ensures) (omega arith) c.if-left-count.true

pub loop-step-preserved-in-Leaf : goal.loop-step-preserved-in-Leaf
loop-step-preserved-in-Leaf c =
    seek-past (working c.args.copy.now) c.args.i.n _ _ c.table_block-record_block.ensures _ (c.start_at-at.ensures (working c.args.copy.now) c.inode_block.ensures.0) _ _ c.loop-step.invariant
    _ _ (rw c.in-Leaf.is at c.in-Some.ensures) c.if-left-count.false

pub returns : goal.returns
returns c =
    seek-end _ _ _ _ c.table_block-record_block.ensures _ (c.start_at-at.ensures (working c.args.copy.now) c.inode_block.ensures.0) _ _ c.loop-step.invariant c.in_default.ensures
