use Rattle.mirror.proofs.Laws.{committed-refused, committed-started}
use Rattle.mirror.proofs.committed.Goals as goal

pub returns-in-Ok : goal.returns-in-Ok
returns-in-Ok c = rw (c.in-Ok.is) (committed-started _)

pub returns-in-Err : goal.returns-in-Err
returns-in-Err c = rw (c.in-Err.is) (committed-refused c.in-Err.why _ c.number.ensures)
