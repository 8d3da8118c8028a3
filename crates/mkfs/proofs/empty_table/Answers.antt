use Rattle.mkfs.proofs.Laws.{ones-table, is-empty, is-cleared}
use Rattle.mkfs.proofs.empty_table.Goals as goal

pub invariant_of-t : goal.invariant_of-t
invariant_of-t c = record { whole = ones-table }

pub returns : goal.returns
returns c =
    let p = c.requires in
    let t = c.clear_run.new.self in
    (is-empty _ p.0 p.1 t.bytes t.whole c.clear_run.ensures, is-cleared _ p.0 p.1 t.bytes t.whole c.clear_run.ensures)
