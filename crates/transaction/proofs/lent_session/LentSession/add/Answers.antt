use mathlib.Core.Path.{ap}
use lib.ListN.{length}
use Rattle.transaction.specs.LentSessions.{session_lent}
use Rattle.transaction.proofs.Laws.{with_at, with-new}
use Rattle.transaction.proofs.lent_session.LentSession.add.Goals as goal

pub returns-then-place-n-clause-numbers : goal.returns-then-place-n-clause-numbers
returns-then-place-n-clause-numbers c =
    let l = c.args.self.now in
    with_at (session_lent l) c.args.b.0 _ _ l.full (ap length c.staged.ensures) c.requires.0 c.if-place-n.true

pub returns-clause-numbers : goal.returns-clause-numbers
returns-clause-numbers c =
    let l = c.args.self.now in
    with-new (session_lent l) c.args.b.0 _ _ l.full (ap length c.staged.ensures) c.requires.0 c.if-place-n.false c.requires.1
