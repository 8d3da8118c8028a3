use Rattle.transaction.proofs.Laws.{shows-view}
use Rattle.query.proofs.Laws.{read-fine}
use Rattle.query.proofs.read_in.Goals as goal

pub returns : goal.returns
returns c =
    let a = c.args in
    λ s q. read-fine s a.name.now a.buffer.now _ a.x.0 _ _ (c.in_ok-i.ensures s q) _ (shows-view a.volume.now s q) c.read_file.ensures
