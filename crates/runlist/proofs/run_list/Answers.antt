use Rattle.std.proofs.lemmas.Result.{err_from_is_err_and}
use borrow.Author.Tests.{leb-true}
use Rattle.spec.specs.Transaction.{state_of}
use Rattle.checks.proofs.Laws.{require-passed}
use Rattle.extents.proofs.Laws.{runs-seen}
use Rattle.runlist.proofs.Laws.{list-short, list-filled}
use Rattle.runlist.proofs.run_list.Goals as goal

pub returns-in_err-require : goal.returns-in_err-require
returns-in_err-require c =
    let a = c.args in
    let s = state_of a.session a.device.now a.work.now in
    let q = c.of-volume.ensures in
    let p = err_from_is_err_and c.from_residual-in_err-require.result c.from_residual-in_err-require.ensures.1 in
    rw (p.1, p.2)
    (list-short s a.name.now a.from.0 a.n _ a.list.now _ (c.in_ok-i.ensures s q) (runs-seen _ s _ _ _ q) _ _ c.count_runs-count.ensures c.in_err-require.ensures)

pub returns : goal.returns
returns c =
    let a = c.args in
    let s = state_of a.session a.device.now a.work.now in
    let q = c.of-volume.ensures in
    list-filled s a.name.now a.from.0 a.n _ a.list.now _ (c.in_ok-i.ensures s q) (runs-seen _ s _ _ _ q) _ _ c.count_runs-count.ensures
    (leb-true _ _ (require-passed _ _ _ c.in_ok-require.ensures)) c.fill.ensures
