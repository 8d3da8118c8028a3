use mathlib.Core.Path.{◌≡◌, ap, ◌∙◌}
use Rattle.std.specs.Iterator.Adapters.{enumerate_source, enumerate_count}
use Rattle.extents.specs.Runs.{runs_left}
use Rattle.capi.proofs.Laws.{fill_start, fill_more}
use Rattle.capi.proofs.put_runs.Goals as goal

pub loop-k-init : goal.loop-k-init
loop-k-init c =
    let g = c.into_iter-k-iterator.ensures.into_iter_gives in
    let n = c.enumerate-k-items.ensures in
    let z : enumerate_count c.into_iter-k-iterator.result ≡ 0 = ap (λ e. enumerate_count e) g ∙ n.count in
    rw z (fill_start _ _ _ (ap (λ e. runs_left (enumerate_source e)) g ∙ ap runs_left n.source ∙ c.of.ensures.0) c.requires)

pub loop-k-preserved : goal.loop-k-preserved
loop-k-preserved c =
    let p = c.in-Some.ensures.steps in
    rw (p.1, p.2) (fill_more _ _ _ _ _ c.loop-k.invariant c.in-Some.run' _ p.0)
