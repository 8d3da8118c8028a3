use lib.ListN.{drop}
use Rattle.spec.specs.Transaction.{State, view, stage_each, staged_of, with_staging}
use Rattle.transaction.specs.LentSessions.{state_lent, Held}
use Rattle.agenda.specs.declared.Planned.{Planned}
use Rattle.agenda.specs.Agenda.{stores_by}
use Rattle.change.specs.declared.plan.Plan.{Plan}
use Rattle.change.specs.Contents.{change_of, content_by}
use Rattle.change.proofs.Staging.{Going}
use Rattle.change.proofs.stage_all.Given as goal
use mathlib.Core.List.{List}

-- the state in which all of it is staged
abbrev pub all_staged : Plan → State → List Planned → State
all_staged p s es = with_staging s (stage_each (staged_of s) (stores_by (content_by (view s) p) es))

abbrev pub invariant-loop-e : goal.invariant-loop-e
invariant-loop-e l = record {
  parts : Held l.initial.images l.images;
  going : Going l.plan.number.n (change_of l.plan) (all_staged l.plan (state_lent l.initial.images.lent.now) l.e-items)
      (state_lent l.images.lent.now) (drop l.e-index l.e-items);
}
