use mathlib.Core.Path.{◌≡◌, sym, ◌∙◌}
use mathlib.Core.Bool.{true, false}
use lib.ListN.{take}
use Rattle.spec.specs.Bytes.{all_zero}
use Rattle.spec.specs.Inode.{inode_of}
use Rattle.inode.specs.Records.{record_in}
use Rattle.text.proofs.Laws.{put_none, put_then, put_as}
use Rattle.transaction.specs.Volumes.{working}
use Rattle.listing.proofs.Laws.{line-none, line-is}
use Rattle.listing.proofs.put_line.Goals as goal

pub returns-then-is_empty : goal.returns-then-is_empty
returns-then-is_empty c =
    let a = c.args in
    let r = c.of-inode in
    let p : all_zero (take 8 (record_in r.result.table.now a.i.n)) ≡ true = rw r.ensures.0 at (sym c.is_empty.ensures ∙ c.if-is_empty.true) in
    put_as _ _ _ _ (put_none _) (line-none (working a.copy.now) a.i.n r.result.table.now r.ensures.1 p)

pub returns : goal.returns
returns c =
    let a = c.args in
    let r = c.of-inode in
    let p : all_zero (take 8 (record_in r.result.table.now a.i.n)) ≡ false = rw r.ensures.0 at (sym c.is_empty.ensures ∙ c.if-is_empty.false) in
    let n : c.name.result ≡ take 8 (record_in r.result.table.now a.i.n) = rw r.ensures.0 at c.name.ensures in
    let s : c.size.result ≡ (inode_of (record_in r.result.table.now a.i.n)).size = rw r.ensures.0 at c.size.ensures in
    put_as _ _ _ _
    (put_then _ _ _ c.put_hex.ensures _ _
    (put_then _ _ _ c.put.ensures _ _
    (put_then _ _ _ c.put_number.ensures _ _
    (put_then _ _ _ c.put-2.ensures _ _
    (put_then _ _ _ c.put_runs.ensures _ _ c.put-3.ensures)))))
    (line-is (working a.copy.now) a.i.n r.result.table.now r.ensures.1 _ _ p n s)
