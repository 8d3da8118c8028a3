use Rattle.std.proofs.Common.{ap, ◌∙◌}
use Rattle.spec.specs.Answers.{done_of}
use Rattle.checks.proofs.Laws.{told}
use Rattle.store.proofs.open_store.Goals as goal

pub returns-in-Err : goal.returns-in-Err
returns-in-Err c = λ work. told _ _ _ _ c.args.device.now work _ c.refused.ensures.0 (ap done_of c.refused.ensures.1) ((rw c.in-Err.is at c.phase_of.ensures).1 c.args.session work)

pub returns-in-Ok : goal.returns-in-Ok
returns-in-Ok c = λ work. told _ _ _ _ c.args.device.now work _ (c.done.ensures.0 ∙ c.opened.ensures) (ap done_of c.done.ensures.1) ((rw c.in-Ok.is at c.phase_of.ensures).0 c.args.session work)
