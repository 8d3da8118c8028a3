use Rattle.inode.proofs.Laws.{depth-in}
use Rattle.inode.proofs.inode.Inode.depth.Goals as goal

pub returns : goal.returns
returns c = (depth-in _ _ _ _ c.place_in_block.ensures.0 c.load.ensures.0, c.load.ensures.1)
