use mathlib.Core.Path.{ap, ◌∙◌}
use Rattle.block.proofs.Keys.{key-as}
use Rattle.transaction.proofs.Laws.{view-in-length}
use Rattle.inode.specs.Records.{found_of, number_told}
use Rattle.inode.proofs.Laws.{find-other, find-committed}
use Rattle.inode.proofs.find.Goals as goal

pub returns-in_err-as_array : goal.returns-in_err-as_array
returns-in_err-as_array c = let a = c.args in
    ap number_told c.from_residual.ensures
    ∙ find-other _ _ (view-in-length a.copy.now.staged.list.now a.copy.now.device.now a.copy.now.work.now) c.in_err-as_array.ensures.cases

pub returns-then-is_table_committed : goal.returns-then-is_table_committed
returns-then-is_table_committed c = let a = c.args in
    let k = key-as _ _ _ c.in_ok-as_array.ensures.cases.same c.key_of-key.ensures in
    c.find_committed.ensures a.name.now k.1 k.0
    ∙ ap found_of (find-committed a.copy.now.staged.list.now a.copy.now.device.now a.copy.now.work.now a.name.now (c.is_table_committed.ensures c.if-is_table_committed.true))
