use mathlib.Core.Path.{sym, ap, ◌∙◌}
use Rattle.transaction.specs.Volumes.{working}
use Rattle.extents.proofs.Laws.{left-start}
use Rattle.extents.proofs.pieces.Pieces.in_table.Goals as goal

pub invariant_of-result : goal.invariant_of-result
invariant_of-result c =
    let v = working c.args.copy.now in
    let p = c.requires in
    record {
      of_record = p ∙ ap v (sym c.table_block.ensures);
      of_cursor = p ∙ ap v (sym (c.scan_of.ensures v p).block);
    }

pub returns : goal.returns
returns c = left-start (working c.args.copy.now) _ _ _ _ _ c.table_block.ensures (c.scan_of.ensures _ c.requires)
