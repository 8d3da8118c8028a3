use mathlib.Core.Path.{sym, ap, ◌∙◌}
use mathlib.Core.List.{◌∷◌}
use Rattle.transaction.specs.Volumes.{working}
use Rattle.extents.specs.declared.Runs.{Runs}
use Rattle.extents.specs.Runs.{runs_left}
use Rattle.text.proofs.Laws.{left_step, left_end, put_then, put_as}
use Rattle.listing.specs.Steps.{more_text}
use Rattle.listing.proofs.Laws.{more-next, more-none, text-run, text-none}
use Rattle.listing.proofs.put_runs.Goals as goal

pub loop-e-preserved : goal.loop-e-preserved
loop-e-preserved c =
    left_step _ _ _ _ c.loop-e.invariant _ _ _ (ap more_text c.in-Some-e.ensures.steps ∙ more-next _ _)
    (put_then _ _ _ c.put.ensures _ _ c.put_extent-in-loop-e.ensures)

pub returns-in-None-e : goal.returns-in-None-e
returns-in-None-e c =
    let first = c.in-Some.first in
    put_as _ _ _ _
    (put_then _ _ _ c.put_extent.ensures _ _ (left_end _ _ _ _ c.loop-e.invariant (ap more_text c.in-None-e.ensures.steps.0 ∙ more-none)))
    (text-run (working c.args.copy.now) _ _ c.of-runs.ensures.0 _ _ (c.in-Some.ensures.steps ∙ ap (λ (r : Runs). first ∷ runs_left r) (sym c.into_iter-e-iterator.ensures.into_iter_gives)))

pub returns-in-None : goal.returns-in-None
returns-in-None c = put_as _ _ _ _ c.put-in-None.ensures (text-none (working c.args.copy.now) _ _ c.of-runs.ensures.0 c.in-None.ensures.steps.0)
