use Rattle.text.proofs.Laws.{Left}
use Rattle.extents.specs.Runs.{runs_left}
use Rattle.listing.specs.Steps.{more_text}
use Rattle.listing.proofs.put_runs.Given as goal

abbrev pub invariant-loop-e : goal.invariant-loop-e
invariant-loop-e l = Left l.initial.w (more_text (runs_left l.initial.e-iterator)) l.w (more_text (runs_left l.e-iterator))
