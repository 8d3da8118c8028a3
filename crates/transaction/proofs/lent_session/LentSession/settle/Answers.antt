use mathlib.Core.Path.{ap}
use lib.ListN.{length}
use Rattle.transaction.specs.LentSessions.{session_lent}
use Rattle.transaction.proofs.Laws.{settled_is}
use Rattle.transaction.proofs.lent_session.LentSession.settle.Goals as goal

pub returns-clause-numbers : goal.returns-clause-numbers
returns-clause-numbers c =
    let l = c.args.self.now in
    settled_is (session_lent l) _ l.full (ap length c.staged.ensures)
