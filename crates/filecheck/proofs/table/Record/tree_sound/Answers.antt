use mathlib.Core.Path.{refl}
use Rattle.filecheck.proofs.Shape.{tree-marked}
use Rattle.filecheck.proofs.table.Record.tree_sound.Goals as goal

pub returns : goal.returns
returns c = let x = c.tree_of-t.ensures in
    tree-marked _ _ _ _ _ x.0 _ _ _ _ _ _ _ _ _ c.requires.0 c.size-size.ensures c.depth.ensures refl x.1 c.tail_clear-clear.ensures c.blocks_for-want.ensures.0 c.nodes_for-nodes.ensures.0 x.2
