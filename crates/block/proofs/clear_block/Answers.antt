use Rattle.spec.specs.Bytes.{zeros}
use Rattle.block.proofs.clear_block.Goals as goal

pub returns : goal.returns
unfolding zeros
returns c = c.store_block.ensures
