use Rattle.lookup.proofs.Laws.{empty_is}
use Rattle.lookup.proofs.empty.Goals as goal

pub returns : goal.returns
returns c = rw c.ok_or.ensures.value (empty_is c.args.volume.now _ c.find_empty.ensures)
