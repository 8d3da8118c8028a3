use mathlib.Core.Path.{refl}
use borrow.Author.Rules.{rules}
use Rattle.update.proofs.lending.Goals as goal

pub returns : goal.returns
returns g c =
    let k = c.requires.keeps _ _ _ c.call-answer.ensures in
    record { lent = _; left = _; met = c.call-answer.ensures; begins = refl; ends = rw (k.device, k.blocks, k.phase) (search rules) }
