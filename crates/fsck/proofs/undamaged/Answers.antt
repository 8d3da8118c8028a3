use mathlib.Core.Path.{refl}
use Rattle.marks.proofs.Laws.{disk-fault}
use Rattle.fsck.proofs.Records.{block-damaged, nothing-damaged}
use Rattle.fsck.proofs.undamaged.Goals as goal

pub returns-in-Some-lowest_wrong : goal.returns-in-Some-lowest_wrong
returns-in-Some-lowest_wrong c = let f = c.inode_fault.ensures in let n = c.in_default.is in let m = c.none-marks.ensures in
    block-damaged _ _ _ f.0 _ _ n c.lowest_wrong.ensures (disk-fault _ _ _ _ _ c.block_at.result.now _ m.0 m.1 (f.1 n) c.block_at.ensures c.copy_of-bitmap.ensures refl) _ c.in-Some-lowest_wrong.is

pub returns-in-None : goal.returns-in-None
returns-in-None c = let f = c.inode_fault.ensures in let n = c.in_default.is in let m = c.none-marks.ensures in
    nothing-damaged _ _ _ f.0 _ _ n c.lowest_wrong.ensures (disk-fault _ _ _ _ _ c.block_at.result.now _ m.0 m.1 (f.1 n) c.block_at.ensures c.copy_of-bitmap.ensures refl) c.in-None.is
