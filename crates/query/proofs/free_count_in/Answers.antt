use Rattle.query.proofs.Laws.{block_of, free-fine}
use Rattle.query.proofs.free_count_in.Goals as goal

pub returns : goal.returns
returns c =
    let a = c.args in
    λ s q. free-fine s _ c.block-table.result.now (c.in_ok-ready.ensures s q.head) c.free_of.ensures
    (block_of a.volume.now s c.block-table.result.now _ q c.block-table.ensures.0)
