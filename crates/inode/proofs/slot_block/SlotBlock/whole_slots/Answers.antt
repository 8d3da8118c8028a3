use Rattle.inode.proofs.Walk.{slots-whole}
use Rattle.inode.proofs.slot_block.SlotBlock.whole_slots.Goals as goal

pub returns : goal.returns
returns c = slots-whole c.args.self.now.bytes.now c.args.at c.args.most _ _ _ c.min.ensures c.as_chunks.ensures.front c.min-2.ensures
