use Rattle.lookup.proofs.Laws.{known_is}
use Rattle.lookup.proofs.known.Goals as goal

pub returns : goal.returns
returns c = let v = c.args.volume.now in
    rw c.ok_or.ensures.value (known_is v _ _ c.find.ensures)
