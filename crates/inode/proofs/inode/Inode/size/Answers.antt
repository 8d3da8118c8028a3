use Rattle.inode.proofs.Laws.{size_in}
use Rattle.inode.proofs.inode.Inode.size.Goals as goal

pub returns : goal.returns
returns c = size_in _ _ _ _ c.place_in_block.ensures.0 c.load4.ensures
