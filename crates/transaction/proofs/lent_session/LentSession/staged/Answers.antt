use mathlib.Core.Path.{◌∙◌, sym}
use Rattle.transaction.proofs.Laws.{staged-parts}
use Rattle.transaction.proofs.lent_session.LentSession.staged.Goals as goal

pub returns : goal.returns
returns c =
    let l = c.args.self.now in
    c.of.ensures ∙ sym (staged-parts l.cells.now l.count.now l.blocks l.phase)
