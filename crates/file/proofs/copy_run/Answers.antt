use mathlib.Core.Path.{sym, ◌∙◌}
use borrow.Author.Tests.{eqb-true}
use lib.ListN.{length}
use Rattle.file.proofs.Laws.{run-direct}
use Rattle.file.proofs.copy_run.Goals as goal

pub returns-then-end-copy : goal.returns-then-end-copy
returns-then-end-copy c = let a = c.args in
    c.copy.ensures ∙ run-direct a.copy.now.staged.list.now a.copy.now.device.now a.copy.now.work.now a.run.extent.first a.run.extent.count a.skip (length a.to.now) (eqb-true _ _ (sym c.if-is_empty.ensures)) c.requires c.if-end-copy.true
