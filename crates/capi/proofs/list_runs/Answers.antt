use Rattle.std.proofs.Common.{◌≡◌, ap, ◌∙◌, length, Err, rules}
use Rattle.extents.proofs.Laws.{runs-seen}
use Rattle.capi.proofs.Laws.{list-bad, list-fine, list-short}
use Rattle.mirror.specs.Mirror.{with_extents}
use Rattle.capi.proofs.list_runs.Goals as goal

pub returns-in_err-i : goal.returns-in_err-i
returns-in_err-i c = λ s q.
    let e : c.from_residual.result ≡ Err c.in_err-i.field-0.0 = search rules in
    rw e (list-bad _ _ _ _ _ _ (c.in_err-i.ensures s q))

pub returns-then-list-count : goal.returns-then-list-count
returns-then-list-count c = λ s q.
    let a = c.args in
    let r = runs-seen a.volume.now s c.in_ok-i.i.n a.from.0 a.n q in
    list-short _ _ _ _ _ _ _ (c.in_ok-i.ensures s q) (c.count_runs-count.ensures ∙ ap length r) c.if-list-count.true

pub returns : goal.returns
returns c = λ s q.
    let a = c.args in
    let r = runs-seen a.volume.now s c.in_ok-i.i.n a.from.0 a.n q in
    let n = c.count_runs-count.ensures ∙ ap length r in
    list-fine _ _ _ _ _ _ _ (c.in_ok-i.ensures s q) n _ c.if-list-count.false (c.put_runs.ensures ∙ ap (with_extents a.list.now) r)
