use mathlib.Core.Path.{ap, ◌∙◌}
use Rattle.spec.specs.declared.Session.{Session}
use Rattle.spec.specs.Transaction.{state_of}
use Rattle.loader.specs.Load.{load_step}
use Rattle.loadapi.proofs.Laws.{step-leaves}
use Rattle.loadapi.proofs.purse_load_step_v.Goals as goal

pub returns : goal.returns
returns c = let a = c.args in step-leaves a.numbers.now a.staged.now a.device.now a.work.now a.text.now a.at _ _ _ _ _ (c.step-r.ensures ∙ ap (λ (x : Session). load_step (state_of x a.device.now a.work.now) a.text.now a.at) c.session_in-before.ensures) _ _ c.keep_step.ensures.0 c.keep_step.ensures.1 _ c.numbers_of.ensures
