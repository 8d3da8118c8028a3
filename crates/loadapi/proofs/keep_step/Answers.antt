use mathlib.Core.Path.{sym, ◌∙◌}
use Rattle.loadapi.proofs.Laws.{stays, moves}
use Rattle.loadapi.proofs.keep_step.Goals as goal

pub returns-then-leaves_all : goal.returns-then-leaves_all
returns-then-leaves_all c = let t = sym c.leaves_all.ensures ∙ c.if-leaves_all.true in (stays _ _ _ t, stays _ _ _ t)

pub returns : goal.returns
returns c = let t = sym c.leaves_all.ensures ∙ c.if-leaves_all.false in (c.keep_session.ensures.0 ∙ moves _ _ _ t, c.keep_session.ensures.1 ∙ moves _ _ _ t)
