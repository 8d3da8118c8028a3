use mathlib.Core.Path.{sym, ap, ◌∙◌}
use Rattle.spec.specs.Answers.{done_of}
use Rattle.checks.specs.Checks.{result_of}
use Rattle.checks.proofs.Laws.{told}
use Rattle.store.proofs.Laws.{abort-bad, abort-fine}
use Rattle.store.proofs.abort.Goals as goal

pub returns-in-Err : goal.returns-in-Err
returns-in-Err c = told _ _ _ _ c.args.device.now c.args.work.now _ c.refused.ensures.0 (ap done_of c.refused.ensures.1) (abort-bad c.args.session c.args.device.now c.args.work.now _ (sym (ap result_of c.in-Err.is) ∙ c.ready.ensures _ c.of.ensures.head))

pub returns-in-Ok : goal.returns-in-Ok
returns-in-Ok c = told _ _ _ _ c.args.device.now c.args.work.now _ c.done.ensures.0 (ap done_of c.done.ensures.1) (abort-fine c.args.session c.args.device.now c.args.work.now _ (sym (ap result_of c.in-Ok.is) ∙ c.ready.ensures _ c.of.ensures.head) c.opened.ensures)
