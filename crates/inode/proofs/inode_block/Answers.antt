use borrow.Author.Rules.{rules}
use mathlib.Core.Path.{refl}
use Rattle.inode.proofs.Laws.{table-lent}
use Rattle.inode.proofs.inode_block.Goals as goal

pub returns-then-device-ge-TABLE_END : goal.returns-then-device-ge-TABLE_END
returns-then-device-ge-TABLE_END c = let a = c.args in
    table-lent a.copy.now.staged.list.now a.copy.now.device.now a.copy.now.work.now a.i.n _ _ c.if-is_empty.ensures (search rules) refl refl
