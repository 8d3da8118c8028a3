use Prim.Native.Nat.{◌*◌}
use Rattle.block.proofs.Steps.{part_in}
use Rattle.block.proofs.block_in.Goals as goal

pub returns : goal.returns
returns c = part_in c.args.bytes.now (512 * c.args.b.0) 512 _ _ c.min.ensures c.min-2.ensures
