use Rattle.mirror.proofs.Laws.{counted-refused, counted-count}
use Rattle.mirror.proofs.counted.Goals as goal

pub returns-in-Ok : goal.returns-in-Ok
returns-in-Ok c = rw (c.in-Ok.is) (counted-count _)

pub returns-in-Err : goal.returns-in-Err
returns-in-Err c = rw (c.in-Err.is) (counted-refused c.in-Err.why _ c.number.ensures)
