use mathlib.Core.Path.{sym, ap, ◌∙◌}
use Rattle.spec.specs.Answers.{done_of}
use Rattle.checks.proofs.Laws.{told}
use Rattle.store.proofs.Laws.{format-bad, format-done}
use Rattle.store.proofs.format.Goals as goal

pub returns-then-not-is_allowed : goal.returns-then-not-is_allowed
returns-then-not-is_allowed c = λ work. told _ _ _ _ c.args.device.now work _ c.refused.ensures.0 (ap done_of c.refused.ensures.1) (format-bad c.args.session c.args.device.now work (sym c.is_allowed.ensures ∙ c.if-not-is_allowed.true))

pub returns : goal.returns
returns c = λ work. told _ _ _ _ _ work _ c.done.ensures.0 (ap done_of c.done.ensures.1) (format-done c.args.session c.args.device.now work _ _ (sym c.is_allowed.ensures ∙ c.if-not-is_allowed.false) c.closed_on.ensures c.make_empty.ensures)
