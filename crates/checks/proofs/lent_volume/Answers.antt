use mathlib.Core.Path.{sym, ap, ◌∙◌}
use Rattle.spec.specs.Calls.{lent_ok}
use Rattle.transaction.proofs.Laws.{heads-all}
use Rattle.checks.proofs.lent_volume.Goals as goal

pub returns : goal.returns
returns c = λ s q. c.lent.ensures s.session q.size ∙ ap lent_ok (sym (heads-all c.args.volume.now s q))
