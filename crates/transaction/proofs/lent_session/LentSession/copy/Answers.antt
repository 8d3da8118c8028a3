use mathlib.Core.Path.{sym}
use Rattle.transaction.specs.LentSessions.{session_lent}
use Rattle.transaction.proofs.Laws.{view_of}
use Rattle.transaction.proofs.lent_session.LentSession.copy.Goals as goal

pub returns : goal.returns
returns c =
    let l = c.args.self.now in
    view_of (session_lent l) l.device.now l.work.now _ (sym c.staged.ensures)
