-- What a block of the table tells of a record, as code holds it: a lent slice, zeros past its end.
use Rattle.std.specs.Prelude.{ℕ, List, take, if◌then◌else◌, Option, Some, None}
use Rattle.spec.specs.Bytes.{all_zero}
use Rattle.spec.specs.Inode.{inode_of}
use Rattle.spec.specs.declared.FileRecord.{FileRecord}
use Rattle.inode.specs.Records.{record_in}

-- name and size of record i, nothing where it is empty
unfoldable pub record_told : List ℕ → ℕ → Option FileRecord
record_told table i =
    let r = record_in table i in
    if all_zero (take 8 r) then None else Some (record { name = take 8 r; size = (inode_of r).size })
