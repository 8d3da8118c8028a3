use Rattle.block.proofs.Keys.{zero-key}
use Rattle.inode.proofs.inode.Inode.is_empty.Goals as goal

pub returns : goal.returns
returns c = zero-key _ _ c.key.ensures.0
