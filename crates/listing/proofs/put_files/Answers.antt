use Rattle.text.proofs.Laws.{put_then, put_as}
use Rattle.transaction.specs.Volumes.{working}
use Rattle.listing.proofs.Laws.{files-are}
use Rattle.listing.proofs.put_files.Goals as goal

pub returns : goal.returns
returns c =
    put_as _ _ _ _
    (put_then _ _ _ c.put_bytes.ensures _ _
    (put_then _ _ _ c.put_number.ensures _ _
    (put_then _ _ _ c.put_bytes-2.ensures _ _
    (put_then _ _ _ c.put_number-2.ensures _ _
    (put_then _ _ _ c.put.ensures _ _ c.put_lines.ensures)))))
    (files-are (working c.args.copy.now) _ _ c.count_files.ensures c.count_free.ensures)
