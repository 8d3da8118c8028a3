use mathlib.Core.Path.{refl}
use Rattle.transaction.proofs.Laws.{view-in-length}
use Rattle.inode.proofs.Laws.{find-zeros}
use Rattle.inode.proofs.find_empty.Goals as goal

pub returns : goal.returns
returns c = let a = c.args in find-zeros _ _ _ (view-in-length a.copy.now.staged.list.now a.copy.now.device.now a.copy.now.work.now) refl c.find.ensures
