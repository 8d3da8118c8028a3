use mathlib.Core.Path.{◌∙◌}
use native.Mathlib.Omega.{arith}
use Rattle.inode.proofs.Laws.{nodes-few, nodes-many}
use Rattle.inode.proofs.nodes_for.Goals as goal

pub returns-then-extents-le-SLOTS_PER_INODE : goal.returns-then-extents-le-SLOTS_PER_INODE
returns-then-extents-le-SLOTS_PER_INODE c = (nodes-few _ c.if-extents-le-SLOTS_PER_INODE.true, omega arith)

pub returns : goal.returns
returns c = (c.div_ceil.ensures ∙ nodes-many _ c.if-extents-le-SLOTS_PER_INODE.false, omega (arith, c.div_ceil.ensures))
